-- The inodes in memory, as contracts see them.
use Rattle.std.specs.Prelude.{◌≡◌, ◌≢◌, ◌<◌, ℕ, ◌+◌, ◌-◌, ◌^◌, ◌==◌, nat_lt, if◌then◌else◌, Bool, true, false, is_none, List, replicate, slice_index, slice_index_or, slice_set, Option, Some, None, IsSome, length, position}
use Rattle.model.specs.declared.types.image.Dinode.{Dinode}
use Rattle.model.specs.declared.types.image.Form.{Form}
use Rattle.model.specs.Soundness.{count_of}
use Rattle.inodes.specs.declared.table.InMemory.{InMemory}

pub record TableState : Type 0 where
  -- 50 places, of which those without an inode are free
  pub places : List (Option InMemory)
  -- the image's inode numbers, the unused number 0 included
  pub inode_count : ℕ
  -- and its form
  pub form : Form

abbrev pub new_table : Form → ℕ → TableState
new_table form n = record { places = replicate 50 None; inode_count = n; form = form }

abbrev pub entry_at : List (Option InMemory) → ℕ → Option InMemory
entry_at ps k = slice_index_or ps k None

-- a place is that number's
abbrev pub is_of : ℕ → Option InMemory → Bool
is_of i None = false
is_of i (Some e) = e.number == i

abbrev pub or_else : {A : Type 0} → Option A → Option A → Option A
or_else None other = other
or_else (Some x) other = Some x

-- where an inode is, or else the first free place
abbrev pub place_for : List (Option InMemory) → ℕ → Option ℕ
place_for ps i = or_else (position (is_of i) ps) (position (λ e. is_none e) ps)

-- the number of a place's inode; 0 where the place is free
abbrev pub number_in : Option InMemory → ℕ
number_in None = 0
number_in (Some e) = e.number

abbrev pub holder_in : Option InMemory → Option ℕ
holder_in None = None
holder_in (Some e) = e.holder

abbrev pub copy_in : Option InMemory → Option Dinode
copy_in None = None
copy_in (Some e) = e.copy

abbrev pub references_in : Option InMemory → ℕ
references_in None = 0
references_in (Some e) = e.references

-- the process that has an inode's sleep lock
abbrev pub holder_at : List (Option InMemory) → ℕ → Option ℕ
holder_at ps k = holder_in (entry_at ps k)

-- the inode itself, once it was read
abbrev pub copy_at : List (Option InMemory) → ℕ → Option Dinode
copy_at ps k = copy_in (entry_at ps k)

abbrev pub references_at : List (Option InMemory) → ℕ → ℕ
references_at ps k = references_in (entry_at ps k)

-- the inode has a place, or there is a free one; and one reference more can be counted
abbrev pub HasPlaceFor : TableState → ℕ → Type 0
HasPlaceFor t i =
    (k : ℕ) × (place_for t.places i ≡ Some k) × (references_at t.places k + 1 < 2 ^ 32)

abbrev pub with_entry : TableState → ℕ → Option InMemory → TableState
with_entry t k e = record t { places = slice_set t.places k e }

-- one reference more, the first one where the place was free
abbrev pub with_reference : Option InMemory → ℕ → InMemory
with_reference None i = record { number = i; references = 1; holder = None; copy = None }
with_reference (Some e) i = record e { references = e.references + 1 }

abbrev pub referred : TableState → ℕ → ℕ → TableState
referred t i k = with_entry t k (Some (with_reference (entry_at t.places k) i))

abbrev pub with_holder : Option InMemory → ℕ → Option InMemory
with_holder None p = None
with_holder (Some e) p = Some (record e { holder = Some p })

abbrev pub locked : TableState → ℕ → ℕ → TableState
locked t k p = with_entry t k (with_holder (entry_at t.places k) p)

abbrev pub with_copy : Option InMemory → Option Dinode → Option InMemory
with_copy None c = None
with_copy (Some e) c = Some (record e { copy = c })

-- a place with another copy, or without one
abbrev pub renewed : TableState → ℕ → Option Dinode → TableState
renewed t k c = with_entry t k (with_copy (entry_at t.places k) c)

abbrev pub kept : TableState → ℕ → Dinode → TableState
kept t k d = renewed t k (Some d)

-- without its lock, and with one reference less; free without the last
abbrev pub without_reference : Option InMemory → Option InMemory
without_reference None = None
without_reference (Some e) =
    if nat_lt 1 e.references then Some (record e { references = e.references - 1; holder = None })
    else None

abbrev pub left : TableState → ℕ → TableState
left t k = with_entry t k (without_reference (entry_at t.places k))

-- none of the first n is this number
abbrev pub HasNot : List ℕ → ℕ → ℕ → Type 0
HasNot numbers i n = (k : ℕ) → k < n → slice_index numbers k ≢ i

-- the numbers of the inodes, side by side, in which one is searched
pub record IsNumbered (numbers : List ℕ) (ps : List (Option InMemory)) : Type 0 where
  pub size : length ps ≡ 50
  pub many : length numbers ≡ 50
  pub each : (k i : ℕ) → is_of i (entry_at ps k) ≡ true → slice_index numbers k ≡ i

-- the references of each place are as many as it has in a list, where each reference names its
-- place; and a place without references is free
pub record AreCounted (ps : List (Option InMemory)) (named : List ℕ) : Type 0 where
  pub each : (k : ℕ) → k < length ps → references_at ps k ≡ count_of k named
  pub used : (k : ℕ) → IsSome (entry_at ps k) → references_at ps k ≢ 0

-- with fewer references than places, there is a place for each number
abbrev pub HasPlace : Type 0
HasPlace = (ps : List (Option InMemory)) (named : List ℕ) (i : ℕ) → AreCounted ps named
    → length named < length ps → IsSome (place_for ps i)
