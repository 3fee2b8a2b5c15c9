-- Each directory of a path, made where it isn't there.
use Rattle.std.specs.Prelude.{◌≡◌, ◌≢◌, ◌⊎◌, ℕ, zero, suc, ◌<◌, ◌≤◌, Bool, true, false, List, [], length, slice_index_or, Option, None, Ok}
use Rattle.blocks.specs.declared.disk.Disk.{Ghosts}
use Rattle.calls.specs.Calls.{image_on}
use Rattle.calls.specs.Stepping.{Plain}
use Rattle.directories.specs.Paths.{IsPathCause, names_of}
use Rattle.directories.specs.Trees.{directory_kind, root, IsDirectory}
use Rattle.directories.specs.Walks.{stepped, walked, IsUnfound}
use Rattle.directories.specs.declared.refusal.Refusal.{Refusal}
use Rattle.directories.specs.declared.refusal.Refusal.TheVariants.{Exists, NotFound}
use Rattle.model.specs.Files.{Files, files_of}
use Rattle.names.specs.Making.{IsUnmadeDirectoryIn, MakesDirectoryIn}
use Rattle.names.specs.Numbered.{IsUnseenIn}
use Rattle.names.specs.Ready.{IsUnanswered, IsUndone}
use Rattle.names.specs.declared.asking.Found.{Found}
use Rattle.names.specs.declared.refusal.TreeFault.{TreeFault}
use Rattle.names.specs.declared.refusal.TreeFault.TheVariants as tree
use Rattle.tree_changes.specs.Changes.{OnTree}
use Rattle.tree_changes.specs.declared.faults.ChangeRefusal.{ChangeRefusal}
use Rattle.tree_changes.specs.declared.faults.ChangeRefusal.TheVariants as change

-- a name isn't there
abbrev pub is_absent : TreeFault → Bool
is_absent (tree.Refused NotFound) = true
is_absent fault = false

-- what was found is a directory of that number
abbrev pub IsDirectoryFound : Found → ℕ → Type 0
IsDirectoryFound found number = (number ≡ found.number) × (found.kind ≡ directory_kind)

-- it is none
abbrev pub IsNoDirectoryFound : Found → ChangeRefusal → Type 0
IsNoDirectoryFound found r =
    (r ≡ change.Tree (tree.Refused Exists)) × (found.kind ≢ directory_kind)

-- A name of a directory leads to another one, which was there, or was made.
abbrev pub Enters : ℕ → List ℕ → ℕ → Files → Files → Type 0
Enters from name number files new =
    ((new ≡ files) × (stepped files from name ≡ Ok number) × IsDirectory files number)
    ⊎ MakesDirectoryIn from name number files new

abbrev pub EntersAny : ℕ → List ℕ → Files → Files → Type 0
EntersAny from name files new = (number : ℕ) × Enters from name number files new

-- the first so many names lead from the root to a directory, each by way of the one before it
abbrev pub EntersEach : List (List ℕ) → ℕ → ℕ → Files → Files → Type 0
EntersEach names zero number files new = (number ≡ root) × (new ≡ files)
EntersEach names (suc count) number files new = (from : ℕ) × ((mid : Files)
    × EntersEach names count from files mid
    × Enters from (slice_index_or names count []) number mid new)

-- all of them do
abbrev pub EntersAll : List (List ℕ) → Files → Files → Type 0
EntersAll names files new = (number : ℕ) × EntersEach names (length names) number files new

-- at most so many of them do
abbrev pub EntersFirst : List (List ℕ) → ℕ → Files → Files → Type 0
EntersFirst names most files new =
    (count : ℕ) × (count ≤ most) × ((number : ℕ) × EntersEach names count number files new)

-- What a stop may leave, besides the files as they were: of the directories that were not there some
-- were made, from the first on.
abbrev pub EntersSome : List (List ℕ) → Files → Files → Type 0
EntersSome names = EntersFirst names (length names)

-- names lead to a directory
abbrev pub LeadsToDirectory : List (List ℕ) → Files → Type 0
LeadsToDirectory names files =
    (number : ℕ) × (walked files root names ≡ Ok number) × IsDirectory files number

-- names lead to a file that is none
abbrev pub LeadsToOther : List (List ℕ) → Files → Refusal → Type 0
LeadsToOther names files cause = (cause ≡ Exists)
    × ((number : ℕ) × (walked files root names ≡ Ok number) × (IsDirectory files number → ⊥))

-- each directory of the names is there: all were, or those that were not are made
abbrev pub MakesAll : List (List ℕ) → Files → Files → Type 0
MakesAll names files new =
    ((new ≡ files) × LeadsToDirectory names files) ⊎ EntersAll names files new

-- the same of a path, and no number is answered
abbrev pub MakesDirectories : List ℕ → Option ℕ → Files → Files → Type 0
MakesDirectories path number files new = (number ≡ None) × MakesAll (names_of path) files new

-- ---- why they are not, over kernel k, which is m now

-- why a new directory is not made under a name
abbrev pub IsUnnewed : {D N : Type 0} → Ghosts D N → ℕ → List ℕ → Plain D → Plain D
    → ChangeRefusal → Type 0
IsUnnewed disk from name k m =
    OnTree (IsUnanswered disk (λ files. IsUnmadeDirectoryIn files from name) k m)

-- a name leads from a directory to a file that is none
abbrev pub IsOtherIn : ℕ → List ℕ → Files → Refusal → Type 0
IsOtherIn from name files cause = (cause ≡ Exists)
    × ((number : ℕ) × (stepped files from name ≡ Ok number) × (IsDirectory files number → ⊥))

-- why a name does not lead to a directory: it was not looked at, or leads to a file that is none; or it
-- is not there, and none is made
abbrev pub IsNotEntered : {D N : Type 0} → Ghosts D N → ℕ → List ℕ → Plain D → Plain D
    → ChangeRefusal → Type 0
IsNotEntered {D} disk from name k m r =
    OnTree (λ fault. (is_absent fault ≡ false)
    × IsUnanswered disk (IsUnseenIn from name) k m fault) r
    ⊎ (OnTree (IsUnanswered disk (IsOtherIn from name) k m) r
    ⊎ (IsUnseenIn from name (files_of (image_on disk.image k)) NotFound × ((mid : Plain D)
    × (files_of (image_on disk.image mid) ≡ files_of (image_on disk.image k))
    × IsUnnewed disk from name mid m r)))

-- so many names lead to directories, and the one behind them does not
pub record StopsEntering {D N : Type 0} (disk : Ghosts D N) (names : List (List ℕ)) (k m : Plain D)
    (r : ChangeRefusal) : Type 0 where
  pub count : ℕ
  pub fewer : count < length names
  pub from : ℕ
  pub mid : Plain D
  pub entered : EntersEach names count from
      (files_of (image_on disk.image k)) (files_of (image_on disk.image mid))
  pub why : IsNotEntered disk from (slice_index_or names count []) mid m r

-- the bytes are no path
abbrev pub IsNoPath : List ℕ → TreeFault → Type 0
IsNoPath path (tree.Path cause) = IsPathCause path cause
IsNoPath path fault = ⊥

-- why directories of a path are not made: it is none, or one of its names does not lead to one
abbrev pub IsUnmadeBelow : {D N : Type 0} → Ghosts D N → List ℕ → Plain D → Plain D → ChangeRefusal
    → Type 0
IsUnmadeBelow disk path k m r = ((m ≡ k) × OnTree (IsNoPath path) r)
    ⊎ StopsEntering disk (names_of path) k m r

-- Why not each directory of a path is there: the path was not looked at, or leads to a file that is
-- none; or a name of it is not there, and then directories were made, but not all.
abbrev pub IsUnmadeAll : {D N : Type 0} → Ghosts D N → List ℕ → Plain D → Plain D → ChangeRefusal
    → Type 0
IsUnmadeAll {D} disk path k m r =
    OnTree (λ fault. (is_absent fault ≡ false)
    × IsUndone disk path (IsUnfound (names_of path)) k m fault) r
    ⊎ (OnTree (IsUndone disk path (LeadsToOther (names_of path)) k m) r
    ⊎ ((mid : Plain D) × (files_of (image_on disk.image mid) ≡ files_of (image_on disk.image k))
    × IsUnmadeBelow disk path mid m r))
