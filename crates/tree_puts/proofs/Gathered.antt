-- Items below a path.
use Rattle.std.proofs.Common.{◌≡◌, ◌∙◌, ℕ, List, [], ◌∷◌, ◌++◌, append_assoc, append-nil, ap, subst, sym}
use Rattle.std.proofs.lemmas.List.Elements.{All-append, All-cons, All-nil, All-weaker}
use Rattle.directories.specs.Entries.{slash}
use Rattle.tree_changes.specs.declared.filling.Item.{Item}
use Rattle.tree_puts.specs.Gathering.{AddsBelow, AreBelow, IsBelow}

-- no item was added
pub none_added : (path : List ℕ) (items : List Item) → AddsBelow path items items
none_added path items = record { more = []; added = sym (append-nil items); below = All-nil (IsBelow path) }

-- one was
pub one_added : (path name : List ℕ) (item : Item) (old new : List Item) → item.path.items ≡ path ++ slash ∷ name → new ≡ old ++ item ∷ [] → AddsBelow path old new
one_added path name item old new is added = record { more = item ∷ []; added = added; below = All-cons (IsBelow path) item [] (name, is) (All-nil (IsBelow path)) }

-- and then others
pub more_added : (path : List ℕ) (old mid new : List Item) → AddsBelow path old mid → AddsBelow path mid new → AddsBelow path old new
more_added path old mid new first then_on = record {
  more = first.more ++ then_on.more;
  added = then_on.added ∙ ap (λ (items : List Item). items ++ then_on.more) first.added ∙ append_assoc old first.more then_on.more;
  below = All-append (IsBelow path) first.more then_on.more first.below then_on.below;
}

pub still_below : (path : List ℕ) (old new : List Item) → AreBelow path old → AddsBelow path old new → AreBelow path new
still_below path old new before adds = subst (AreBelow path) (sym adds.added) (All-append (IsBelow path) old adds.more before adds.below)

-- what is below an item is below the path that this is below
pub deeper : (path : List ℕ) (one : Item) (own : List ℕ) (old new : List Item) → IsBelow path one → own ≡ one.path.items → AddsBelow own old new → AddsBelow path old new
deeper path one own old new is same adds = record {
  more = adds.more;
  added = adds.added;
  below = All-weaker (IsBelow own) (IsBelow path)
      (λ item below. (is.0 ++ slash ∷ below.0, below.1 ∙ ap (λ (front : List ℕ). front ++ slash ∷ below.0) (same ∙ is.1) ∙ append_assoc path (slash ∷ is.0) (slash ∷ below.0)))
      adds.more adds.below;
}
