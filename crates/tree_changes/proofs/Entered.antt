-- Directories of a path, one behind the other.
use Rattle.std.proofs.Common.{◌≡◌, ◌≢◌, ◌∙◌, ℕ, ◌+◌, ◌≤◌, true, List, [], length, slice_index_or, Ok, Err, add-one, ap, refl, sym, subst, inl, arith}
use Rattle.blocks.specs.declared.disk.Disk.{Ghosts}
use Rattle.calls.specs.Calls.{image_on}
use Rattle.calls.specs.Stepping.{Plain}
use Rattle.directories.specs.Trees.{IsDirectory, kind_of}
use Rattle.directories.specs.declared.refusal.Refusal.{Refusal}
use Rattle.directories.specs.declared.refusal.Refusal.TheVariants.{Exists, NotFound}
use Rattle.model.specs.Files.{Files, files_of}
use Rattle.names.specs.Looks.{IsFound, Looks}
use Rattle.names.specs.Numbered.{LooksIn}
use Rattle.names.specs.Ready.{IsReady, IsReadyBehind, IsUnanswered, IsUnansweredOr, IsUndone, LeavesIfDone}
use Rattle.names.specs.declared.asking.Found.{Found}
use Rattle.names.specs.declared.refusal.TreeFault.{TreeFault}
use Rattle.names.specs.declared.refusal.TreeFault.TheVariants as tree
use Rattle.tree_changes.specs.Changes.{OnTree}
use Rattle.tree_changes.specs.Making.{is_absent, Enters, EntersAny, EntersEach, EntersFirst, EntersSome, IsDirectoryFound, IsNoDirectoryFound, IsOtherIn, LeadsToOther, MakesAll}
use Rattle.tree_changes.specs.declared.faults.ChangeRefusal.{ChangeRefusal}
use Rattle.tree_changes.specs.Lemmas.Lefts.{left_more, left_on}

-- one name more leads to a directory
pub entered_more : (names : List (List ℕ)) (count from number : ℕ) (name : List ℕ) (files mid new : Files) → name ≡ slice_index_or names count [] → EntersEach names count from files mid
    → Enters from name number mid new → EntersEach names (count + 1) number files new
entered_more names count from number name files mid new is before enters =
    subst (λ (n : ℕ). EntersEach names n number files new) (sym (add-one count)) (from, (mid, before, subst (λ (one : List ℕ). Enters from one number mid new) is enters))

-- and a stop may have left that
pub entered_left : {D N : Type 0} (disk : Ghosts D N) (k m e : Plain D) (names : List (List ℕ)) (count from : ℕ) (name : List ℕ) → name ≡ slice_index_or names count []
    → EntersEach names count from (files_of (image_on disk.image k)) (files_of (image_on disk.image m)) → LeavesIfDone disk (EntersFirst names count) k m → LeavesIfDone disk (EntersAny from name) m e
    → LeavesIfDone disk (EntersFirst names (count + 1)) k e
entered_left disk k m e names count from name is entered before behind =
    left_on disk (EntersFirst names count) (EntersAny from name) (EntersFirst names (count + 1)) k m e before behind
    (λ x z some. (some.0, omega (arith, some.1), some.2))
    (count, omega arith, (from, entered))
    (λ z enters. (count + 1, omega arith, (enters.0, entered_more names count from enters.0 name _ _ z is entered enters.1)))

-- of no more names than there are
pub left_all : {D N : Type 0} (disk : Ghosts D N) (k m : Plain D) (names : List (List ℕ)) (count : ℕ) → count ≤ length names → LeavesIfDone disk (EntersFirst names count) k m → LeavesIfDone disk (EntersSome names) k m
left_all disk k m names count low left = left_more disk (EntersFirst names count) (EntersSome names) k m (λ z some. (some.0, omega (arith, some.1, low), some.2)) left

-- what was found is a directory, or none
pub found_directory : (files : Files) (number : ℕ) (found : Found) → IsFound files number found → found.kind ≡ 1 → IsDirectory files number
found_directory files number found is kind = ap kind_of is.there ∙ sym is.kind ∙ kind

pub found_other : (files : Files) (number : ℕ) (found : Found) → IsFound files number found → found.kind ≢ 1 → IsDirectory files number → ⊥
found_other files number found is other directory = other (is.kind ∙ sym (ap kind_of is.there) ∙ directory)

-- ---- looks at what is there

pub absent_is : (fault : TreeFault) → is_absent fault ≡ true → fault ≡ tree.Refused NotFound
absent_is (tree.Refused NotFound) so = refl
absent_is fault so = absurd (cc so)

-- where the files refused a call, they are as they were, and have a cause
pub refused_same : {D N : Type 0} (disk : Ghosts D N) (hinders : TreeFault → Type 0) (why : Files → Refusal → Type 0) (k m : Plain D) (fault : TreeFault) (cause : Refusal) → fault ≡ tree.Refused cause
    → IsUnansweredOr hinders disk why k m fault → files_of (image_on disk.image m) ≡ files_of (image_on disk.image k)
refused_same disk hinders why k m fault cause is refused = (subst (λ (f : TreeFault). IsUnansweredOr hinders disk why k m f) is refused).0

pub refused_why : {D N : Type 0} (disk : Ghosts D N) (hinders : TreeFault → Type 0) (why : Files → Refusal → Type 0) (k m : Plain D) (fault : TreeFault) (cause : Refusal) → fault ≡ tree.Refused cause
    → IsUnansweredOr hinders disk why k m fault → why (files_of (image_on disk.image k)) cause
refused_why disk hinders why k m fault cause is refused = (subst (λ (f : TreeFault). IsUnansweredOr hinders disk why k m f) is refused).1

pub refused_same_at : {D N : Type 0} (disk : Ghosts D N) (path : List ℕ) (why : Files → Refusal → Type 0) (k m : Plain D) (fault : TreeFault) (cause : Refusal) → fault ≡ tree.Refused cause
    → IsUndone disk path why k m fault → files_of (image_on disk.image m) ≡ files_of (image_on disk.image k)
refused_same_at disk path why k m fault cause is refused = (subst (λ (f : TreeFault). IsUndone disk path why k m f) is refused).0

-- and the tree is ready for the next one
pub refused_ready : {D N : Type 0} (T : Type 0) (disk : Ghosts D N) (m : Plain D) (left : ℕ) (fault : TreeFault) (cause : Refusal) → fault ≡ tree.Refused cause → IsReadyBehind {T = T} disk m left (Err fault) → IsReady disk m left
refused_ready T disk m left fault cause is behind = subst (λ (f : TreeFault). IsReadyBehind {T = T} disk m left (Err f)) is behind

module _ (from : ℕ) (name : List ℕ) (found : Found) (files new : Files) (looks : LooksIn from name found files new) where
  -- a name leads to a directory
  pub entered_found : (number : ℕ) → IsDirectoryFound found number → Enters from name number files new
  entered_found number is =
      let same : looks.number ≡ number = sym looks.found_is.is ∙ sym is.0 in
      inl (looks.same, looks.led ∙ ap (λ (n : ℕ). Ok n) same, subst (IsDirectory files) same (found_directory files looks.number found looks.found_is is.1))

  -- or to a file that is none
  pub entered_other : {D N : Type 0} (disk : Ghosts D N) (k m : Plain D) (r : ChangeRefusal) → files_of (image_on disk.image k) ≡ files → files_of (image_on disk.image m) ≡ new → IsNoDirectoryFound found r
      → OnTree (IsUnanswered disk (IsOtherIn from name) k m) r
  entered_other disk k m r was now is =
      let why : IsOtherIn from name files Exists = (refl, (looks.number, looks.led, found_other files looks.number found looks.found_is is.1)) in
      subst (OnTree (IsUnanswered disk (IsOtherIn from name) k m)) (sym is.0) (now ∙ looks.same ∙ sym was, subst (λ (f : Files). IsOtherIn from name f Exists) (sym was) why)

module _ (names : List (List ℕ)) (found : Found) (files new : Files) (looks : Looks names found files new) where
  -- names lead to a directory
  pub led_found : (number : ℕ) → IsDirectoryFound found number → MakesAll names files new
  led_found number is = inl (looks.same, (looks.number, looks.led, found_directory files looks.number found looks.found_is is.1))

  pub led_other : {D N : Type 0} (disk : Ghosts D N) (path : List ℕ) (k m : Plain D) (r : ChangeRefusal) → files_of (image_on disk.image k) ≡ files → files_of (image_on disk.image m) ≡ new → IsNoDirectoryFound found r
      → OnTree (IsUndone disk path (LeadsToOther names) k m) r
  led_other disk path k m r was now is =
      let why : LeadsToOther names files Exists = (refl, (looks.number, looks.led, found_other files looks.number found looks.found_is is.1)) in
      subst (OnTree (IsUndone disk path (LeadsToOther names) k m)) (sym is.0) (now ∙ looks.same ∙ sym was, subst (λ (f : Files). LeadsToOther names f Exists) (sym was) why)
