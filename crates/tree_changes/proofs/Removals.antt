-- Names that are removed one after the other, the last first.
use Rattle.std.proofs.Common.{◌≡◌, ◌≢◌, ◌∙◌, ℕ, ◌+◌, ◌-◌, ◌<◌, ◌≤◌, true, false, List, [], ◌∷◌, ◌++◌, length, get_or, take, drop, flat_map, Result, Ok, Err, ap, refl, sym, subst, arith}
use Rattle.std.specs.Prelude.{OnOk}
use Rattle.std.proofs.lemmas.List.{drop_more, take-append-drop}
use Rattle.blocks.specs.declared.disk.Disk.{Ghosts}
use Rattle.calls.specs.Calls.{image_on}
use Rattle.calls.specs.Stepping.{Plain}
use Rattle.directories.specs.Entries.{entries_of, AreNamed}
use Rattle.directories.specs.Paths.{names_of}
use Rattle.directories.specs.Trees.{IsDirectory, IsTree}
use Rattle.directories.specs.declared.refusal.Refusal.{Refusal}
use Rattle.directories.specs.declared.refusal.Refusal.TheVariants.{IsADirectory}
use Rattle.model.specs.Files.{Files, files_of}
use Rattle.names.specs.Inside.{IsBroken}
use Rattle.names.specs.Looks.{Looks}
use Rattle.names.specs.Numbered.{IsNoDirectory, ListsAt}
use Rattle.names.specs.Ready.{IsReady, IsUnanswered, LeavesIfDone}
use Rattle.names.specs.declared.asking.Found.{Found}
use Rattle.names.specs.declared.refusal.TreeFault.{TreeFault}
use Rattle.names.specs.declared.refusal.TreeFault.TheVariants as tree
use Rattle.tree_changes.proofs.Entered.{found_directory, found_other}
use Rattle.tree_changes.specs.Lemmas.Lefts.{left_on}
use Rattle.tree_changes.proofs.Listed.{entries_named, names_are, no_names}
use Rattle.tree_changes.specs.Changes.{IsOfTree}
use Rattle.tree_changes.specs.Removing.{is_a_directory, is_refused, name_of_entry, names_in, no_memory, IsBadLast, IsBadLastOf, IsUnremovedOne, LeadsToFile, LeadsToNumber, RemovesEach, RemovesOne, RemovesSome, StopsRemoving}
use Rattle.tree_changes.specs.declared.faults.ChangeRefusal.{ChangeRefusal}
use Rattle.tree_changes.specs.declared.removing.Below.{Below}

module _ (below : List Below) (end : ℕ) (one : Below) (some : 0 < end) (inside : end ≤ length below) (is : one ≡ get_or below (end - 1) one) where
  -- what stands from the one before a place on
  rest : drop (end - 1) below ≡ one ∷ drop end below
  rest =
      let low : end - 1 < length below = omega (arith, some, inside) in
      let next : (end - 1) + 1 ≡ end = omega (arith, some) in
      drop_more below (end - 1) one low ∙ ap (λ (first : Below). first ∷ drop ((end - 1) + 1) below) (sym is) ∙ ap (λ (n : ℕ). one ∷ drop n below) next

  -- one name more is removed
  pub removed_more : (files mid new : Files) → RemovesEach (drop end below) files mid → RemovesOne one mid new → RemovesEach (drop (end - 1) below) files new
  removed_more files mid new before now = subst (λ (names : List Below). RemovesEach names files new) (sym rest) (mid, before, now)

  module _ {D N : Type 0} (disk : Ghosts D N) (k m e : Plain D) (before : RemovesEach (drop end below) (files_of (image_on disk.image k)) (files_of (image_on disk.image m))) where
    -- and a stop may have left that
    pub removed_left : LeavesIfDone disk (RemovesSome below) k m → LeavesIfDone disk (RemovesOne one) m e → LeavesIfDone disk (RemovesSome below) k e
    removed_left so_far behind =
        left_on disk (RemovesSome below) (RemovesOne one) (RemovesSome below) k m e so_far behind (λ x z removed. removed) (end, before) (λ z now. (end - 1, removed_more _ _ z before now))

    -- or it is not
    pub stops_at : (r : ChangeRefusal) → IsUnremovedOne disk one m e r → StopsRemoving disk below k e r
    stops_at r why = record {
      front = take (end - 1) below;
      one = one;
      behind = drop end below;
      split = sym (take-append-drop (end - 1) below) ∙ ap (λ (names : List Below). take (end - 1) below ++ names) rest;
      mid = m;
      removed = before;
      why = why;
    }

-- why a call was refused
pub directory_is : (fault : TreeFault) → is_a_directory fault ≡ true → fault ≡ tree.Refused IsADirectory
directory_is (tree.Refused IsADirectory) so = refl
directory_is fault so = absurd (cc so)

pub refused_is : (fault : TreeFault) → is_refused fault ≡ true → (cause : Refusal) × (fault ≡ tree.Refused cause)
refused_is (tree.Refused cause) so = (cause, refl)
refused_is fault so = absurd (cc so)

-- what is so whatever was answered
pub on_any : {T E : Type 0} (r : Result T E) (P : Type 0) → P → OnOk r P
on_any (Ok x) P so = so
on_any (Err e) P so = tt

pub of_no_memory : (r : ChangeRefusal) → r ≡ no_memory → IsOfTree r
of_no_memory r is = subst IsOfTree (sym is) tt

module _ {D N : Type 0} (disk : Ghosts D N) (k m : Plain D) (number : ℕ) where
  -- a directory that was listed has a name in each entry that is used
  pub listed_named : (bytes slice : List ℕ) (left : ℕ) → IsReady disk m left → ListsAt number bytes (files_of (image_on disk.image k)) (files_of (image_on disk.image m)) → slice ≡ bytes → AreNamed (entries_of slice)
  listed_named bytes slice left ready lists is =
      let files = files_of (image_on disk.image k) in
      let named = entries_named files number (subst IsTree lists.same ready.tree) lists.directory in
      subst (λ (l : List ℕ). AreNamed (entries_of l)) (sym (is ∙ lists.bytes_are)) named

  -- and its names are those
  pub listed_names : (bytes slice : List ℕ) → ListsAt number bytes (files_of (image_on disk.image k)) (files_of (image_on disk.image m)) → slice ≡ bytes
      → flat_map (name_of_entry number) (entries_of slice) ≡ names_in (files_of (image_on disk.image k)) number
  listed_names bytes slice lists is = ap (λ (l : List ℕ). flat_map (name_of_entry number) (entries_of l)) (is ∙ lists.bytes_are) ∙ sym (names_are (files_of (image_on disk.image k)) number lists.directory)

  -- a file that was refused has none
  pub unlisted_names : (fault : TreeFault) (cause : Refusal) → fault ≡ tree.Refused cause → IsUnanswered disk (IsNoDirectory number) k m fault → names_in (files_of (image_on disk.image k)) number ≡ []
  unlisted_names fault cause is refused = no_names (files_of (image_on disk.image k)) number (subst (λ (f : TreeFault). IsUnanswered disk (IsNoDirectory number) k m f) is refused).1.1

  -- what is not refused is a fault of the kernel
  pub unlisted_broken : (fault : TreeFault) → is_refused fault ≡ false → IsUnanswered disk (IsNoDirectory number) k m fault → IsBroken disk k m fault
  unlisted_broken (tree.Path cause) not why = absurd why
  unlisted_broken (tree.Refused cause) not why = absurd (cc not)
  unlisted_broken (tree.Call cause) not why = why
  unlisted_broken tree.NoSpace not why = why
  unlisted_broken tree.NoCall not why = why

-- a path leads to the directory that was found
pub looked_number : (names : List (List ℕ)) (found : Found) (files new : Files) → Looks names found files new → found.kind ≡ 1 → LeadsToNumber names files found.number
looked_number names found files new looks kind =
    let is : looks.number ≡ found.number = sym looks.found_is.is in
    (looks.led ∙ ap (λ (n : ℕ). Ok n) is, subst (IsDirectory files) is (found_directory files looks.number found looks.found_is kind))

-- or to a file that is none
pub looked_file : (names : List (List ℕ)) (found : Found) (files new : Files) → Looks names found files new → found.kind ≢ 1 → LeadsToFile names files
looked_file names found files new looks kind = (looks.number, looks.led, found_other files looks.number found looks.found_is kind)

-- a path has no name that leads down
pub bad_last : (path : List ℕ) (names : List (List ℕ)) (fault : TreeFault) → names ≡ names_of path → IsBadLastOf names fault → IsBadLast path fault
bad_last path names (tree.Path cause) is bad = absurd bad
bad_last path names (tree.Refused cause) is bad = subst (λ (l : List (List ℕ)). IsBadLastOf l (tree.Refused cause)) is bad
bad_last path names (tree.Call cause) is bad = absurd bad
bad_last path names tree.NoSpace is bad = absurd bad
bad_last path names tree.NoCall is bad = absurd bad
