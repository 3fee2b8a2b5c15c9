-- Directories and files that are put below a directory.
use Rattle.std.proofs.Common.{◌≡◌, ◌∙◌, ℕ, ◌+◌, ◌<◌, List, [], ◌∷◌, ◌++◌, length, slice_index_or, take, drop, ⊎_elim, refl, sym, ap, subst, inl, inr}
use Rattle.std.proofs.lemmas.List.{append_assoc, drop_more, take_more, take-append-drop}
use Rattle.blocks.specs.declared.disk.Disk.{Ghosts}
use Rattle.calls.specs.Calls.{image_on}
use Rattle.calls.specs.Stepping.{Plain}
use Rattle.calls.specs.Stopped.{StaysOver}
use Rattle.model.specs.Files.{Files, files_of}
use Rattle.model.specs.declared.types.image.Form.{Form}
use Rattle.names.specs.Inside.{form_seen}
use Rattle.names.specs.Lemmas.Midst.{leaves_more, leaves_on}
use Rattle.names.specs.Lemmas.Over.{form_stays}
use Rattle.names.specs.Looks.{Looks}
use Rattle.names.specs.Ready.{LeavesIfDone, LeavesMidst}
use Rattle.names.specs.declared.asking.Found.{Found}
use Rattle.tree_changes.specs.Filling.{EntersAt, FillsSome, PutsEach, PutsFirst, PutsItem, PutsItemSome, PutsUpTo}
use Rattle.tree_changes.specs.Making.{IsDirectoryFound}
use Rattle.tree_changes.specs.declared.filling.Item.{Item}
use Rattle.tree_changes.proofs.Entered.{found_directory}
use Rattle.tree_changes.specs.Lemmas.Lefts.{left_more, left_on}

-- one more at the end
each_more : (form : Form) (items : List Item) (item : Item) (a b c : Files) → PutsEach form items a b → PutsItem form item b c → PutsEach form (items ++ item ∷ []) a c
each_more form [] item a b c is puts = (c, subst (λ (f : Files). PutsItem form item f c) is puts, refl)
each_more form (first ∷ items) item a b c is puts = (is.0, is.1, each_more form items item is.0 b c is.2 puts)

-- the next of some items was put
pub item_more_put : (form : Form) (items : List Item) (i : ℕ) (d : Item) (a b c : Files) → i < length items → PutsEach form (take i items) a b → PutsItem form (slice_index_or items i d) b c → PutsEach form (take (i + 1) items) a c
item_more_put form items i d a b c lt so_far one =
    subst (λ (those : List Item). PutsEach form those a c) (sym (take_more items i d lt)) (each_more form (take i items) (slice_index_or items i d) a b c so_far one)

-- those before the next, it, and those behind it
pub items_split : (items : List Item) (i : ℕ) (d : Item) → i < length items → items ≡ take i items ++ slice_index_or items i d ∷ drop (i + 1) items
items_split items i d lt = sym (take-append-drop i items) ∙ ap (λ (rest : List Item). take i items ++ rest) (drop_more items i d lt)

-- nothing of the first one
first_same : (form : Form) (items : List Item) (files new : Files) → new ≡ files → PutsFirst form items files new
first_same form [] files new same = same
first_same form (item ∷ items) files new same = inl same

first_of_more : (form : Form) (items more : List Item) (files new : Files) → PutsFirst form items files new → PutsFirst form (items ++ more) files new
first_of_more form [] more files new same = first_same form more files new same
first_of_more form (item ∷ items) more files new part = part

-- a beginning of some items is one of more
up_to_more : (form : Form) (items more : List Item) (files new : Files) → PutsUpTo form items files new → PutsUpTo form (items ++ more) files new
up_to_more form items more files new some = record {
  before = some.before;
  behind = some.behind ++ more;
  split = ap (λ (those : List Item). those ++ more) some.split ∙ append_assoc some.before some.behind more;
  mid = some.mid;
  put = some.put;
  part = first_of_more form some.behind more some.mid new some.part;
}

none_yet : (form : Form) (items : List Item) (files : Files) → PutsUpTo form items files files
none_yet form items files = record { before = []; behind = items; split = refl; mid = files; put = refl; part = first_same form items files files refl }

module _ {D N : Type 0} (disk : Ghosts D N) (k m e : Plain D) (items : List Item) where
  -- a stop may have left a part of the next one
  pub item_left : (i : ℕ) (d : Item) → i < length items → StaysOver disk k m → PutsEach (form_seen disk.image k) (take i items) (files_of (image_on disk.image k)) (files_of (image_on disk.image m))
      → LeavesIfDone disk (PutsUpTo (form_seen disk.image k) (take i items)) k m → LeavesIfDone disk (PutsItemSome (form_seen disk.image m) (slice_index_or items i d)) m e
      → LeavesIfDone disk (PutsUpTo (form_seen disk.image k) (take (i + 1) items)) k e
  item_left i d lt stays so_far before behind =
      let form = form_seen disk.image k in
      let one = slice_index_or items i d in
      let all = PutsUpTo form (take i items ++ one ∷ []) in
      let mid = files_of (image_on disk.image m) in
      subst (λ (those : List Item). LeavesIfDone disk (PutsUpTo form those) k e) (sym (take_more items i d lt))
      (left_on disk (PutsUpTo form (take i items)) (PutsItemSome (form_seen disk.image m) one) all k m e before behind (λ x z some. up_to_more form (take i items) (one ∷ []) x z some)
      (record { before = take i items; behind = one ∷ []; split = refl; mid = mid; put = so_far; part = inl refl })
      (λ z part. record { before = take i items; behind = one ∷ []; split = refl; mid = mid; put = so_far; part = inr (subst (λ (f : Form). PutsItemSome f one mid z) (form_stays disk k m stays) part) }))

  -- of the first items no more than of all
  pub items_left : (form : Form) (i : ℕ) → LeavesIfDone disk (PutsUpTo form (take i items)) k m → LeavesIfDone disk (PutsUpTo form items) k m
  items_left form i left =
      left_more disk (PutsUpTo form (take i items)) (PutsUpTo form items) k m
      (λ z some. subst (λ (those : List Item). PutsUpTo form those (files_of (image_on disk.image k)) z) (take-append-drop i items) (up_to_more form (take i items) (drop i items) (files_of (image_on disk.image k)) z some)) left

  entered_some : (form : Form) (names : List (List ℕ)) (x z : Files) → EntersAt names x z → FillsSome form names items x z
  entered_some form names x z enters = (z, enters, none_yet form items z)

  -- the directory was not made
  pub unentered_left : (form : Form) (names : List (List ℕ)) → LeavesMidst disk (EntersAt names) k m → LeavesMidst disk (FillsSome form names items) k m
  unentered_left form names leaves = leaves_more disk (EntersAt names) (FillsSome form names items) k m (entered_some form names) leaves

  -- or was there, and a beginning of the items was put
  pub filled_left : (names : List (List ℕ)) → StaysOver disk k m → EntersAt names (files_of (image_on disk.image k)) (files_of (image_on disk.image m)) → LeavesMidst disk (EntersAt names) k m
      → LeavesIfDone disk (PutsUpTo (form_seen disk.image m) items) m e → LeavesMidst disk (FillsSome (form_seen disk.image k) names items) k e
  filled_left names stays enters first left =
      let form = form_seen disk.image k in
      let all = FillsSome form names items in
      ⊎_elim (λ (still : e ≡ m). subst (LeavesMidst disk all k) (sym still) (unentered_left form names first))
      (λ (leaves : LeavesMidst disk (PutsUpTo (form_seen disk.image m) items) m e).
      leaves_on disk (EntersAt names) (PutsUpTo (form_seen disk.image m) items) all k m e first leaves (entered_some form names) (entered_some form names _ _ enters)
      (λ z some. (files_of (image_on disk.image m), enters, subst (λ (f : Form). PutsUpTo f items (files_of (image_on disk.image m)) z) (form_stays disk k m stays) some))) left

-- names lead to a directory
pub found_at : (names : List (List ℕ)) (found : Found) (number : ℕ) (files new : Files) → Looks names found files new → IsDirectoryFound found number → EntersAt names files new
found_at names found number files new looks is = inl (looks.same, (looks.number, looks.led, found_directory files looks.number found looks.found_is is.1))
