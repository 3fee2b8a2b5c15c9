-- The recency order as links: the slot before each slot, the slot after it, and the two ends.
use Rattle.std.specs.Prelude.{◌≡◌, ℕ, zero, suc, ◌+◌, ◌==◌, if◌then◌else◌, List, [], ◌∷◌, length, map, slice_index, slice_set, reverse}
use Rattle.std.specs.List.{range_with_len}
use Rattle.bcache.specs.declared.links.Links.{Links}
use Rattle.bcache.specs.Order.{buffer_count, IsOrder}

-- stands for no slot
abbrev pub no_slot : ℕ
no_slot = buffer_count

-- the first of some slots
abbrev pub first_of : List ℕ → ℕ
first_of [] = no_slot
first_of (slot ∷ order) = slot

-- the slot that comes next after this one
abbrev pub next_of : List ℕ → ℕ → ℕ
next_of [] slot = no_slot
next_of (other ∷ order) slot = if other == slot then first_of order else next_of order slot

-- for each of the 40 slots the next one
unfoldable pub table_of : List ℕ → List ℕ
table_of order = map (next_of order) (range_with_len 0 buffer_count)

-- the links of an order
abbrev pub links_of : List ℕ → Links
links_of order = record {
  before = table_of (reverse order);
  after = table_of order;
  first = first_of order;
  last = first_of (reverse order);
}

-- the slots from this one on, each the entry of the one in front of it
unfoldable pub walk_of : ℕ → List ℕ → ℕ → List ℕ
walk_of zero table slot = []
walk_of (suc steps) table slot =
    if slot == no_slot then [] else slot ∷ walk_of steps table (slice_index table slot)

-- one step more than there are slots, so that a walk of all 40 has come to its end
abbrev pub walk : List ℕ → ℕ → List ℕ
walk table slot = walk_of (buffer_count + 1) table slot

-- the order that the links hold
abbrev pub order_of : Links → List ℕ
order_of links = walk links.after links.first

-- all 40 slots, each once, and both tables and both ends are those of this order
pub record IsLinks (links : Links) : Type 0 where
  pub order : IsOrder (order_of links)
  pub same : links ≡ links_of (order_of links)

-- at how many places two tables differ
abbrev pub differences : List ℕ → List ℕ → ℕ
differences [] new = length new
differences (entry ∷ old) [] = length (entry ∷ old)
differences (entry ∷ old) (other ∷ new) = (if entry == other then 0 else 1) + differences old new

-- how many of the 80 entries are others
abbrev pub changed_entries : Links → Links → ℕ
changed_entries old new = differences old.before new.before + differences old.after new.after

-- without this slot, which is not the first one: its neighbours are each other's
abbrev pub unlinked : Links → ℕ → Links
unlinked links slot =
    let before = slice_index links.before slot in
    let after = slice_index links.after slot in
    record {
      before = if after == no_slot then links.before else slice_set links.before after before;
      after = slice_set links.after before after;
      first = links.first;
      last = if after == no_slot then before else links.last;
    }

-- with this slot in front of the first one
abbrev pub linked_in_front : Links → ℕ → Links
linked_in_front links slot = record links {
  before = slice_set (slice_set links.before slot no_slot) links.first slot;
  after = slice_set links.after slot links.first;
  first = slot;
}
