-- A directory that is removed with all that is below it.
use Rattle.std.specs.Prelude.{◌≡◌, ◌≢◌, ◌⊎◌, ℕ, ◌==◌, if◌then◌else◌, Bool, true, false, List, [], ◌∷◌, ◌++◌, drop, Option, None, Ok}
use Rattle.std.specs.List.{flat_map}
use Rattle.blocks.specs.declared.disk.Disk.{Ghosts}
use Rattle.calls.specs.Calls.{image_on}
use Rattle.calls.specs.Stepping.{Plain}
use Rattle.calls.specs.declared.transactions.fault.TransactionFault.TheVariants as call
use Rattle.directories.specs.Entries.{entries_of, number_in, padded, text_in}
use Rattle.directories.specs.Paths.{IsPathCause, names_of}
use Rattle.directories.specs.Trees.{directory_in, directory_kind, kind_of, leads_down, root, IsDirectory, IsDown}
use Rattle.directories.specs.Walks.{walked, IsUndoneIn, IsUnfound}
use Rattle.directories.specs.declared.refusal.Refusal.TheVariants.{IsADirectory, IsRoot, NotDown}
use Rattle.model.specs.Files.{Files, file_in, files_of}
use Rattle.names.specs.Inside.{IsBroken}
use Rattle.names.specs.Ready.{IsUnanswered, IsUndone}
use Rattle.names.specs.Removing.{IsUnremovedIn, RemovesAt, RemovesIn}
use Rattle.names.specs.Undirecting.{IsUnemptiedIn, RemovesDirectoryAt, RemovesDirectoryIn}
use Rattle.names.specs.declared.refusal.TreeFault.{TreeFault}
use Rattle.names.specs.declared.refusal.TreeFault.TheVariants as tree
use Rattle.tree_looks.specs.Listing.{last_of}
use Rattle.tree_changes.specs.Changes.{OnTree}
use Rattle.tree_changes.specs.declared.faults.ChangeRefusal.{ChangeRefusal}
use Rattle.tree_changes.specs.declared.faults.ChangeRefusal.TheVariants as change
use Rattle.tree_changes.specs.declared.removing.Below.{Below}

-- ---- the names below a directory

-- the name of an entry, and where it leads, if that is down
abbrev pub name_of_entry : ℕ → List ℕ → List Below
name_of_entry from entry = if leads_down entry
    then record { from = from; name = padded (text_in entry); number = number_in entry } ∷ []
    else []

-- those of a directory, in the order of its entries; a file that is none has none
abbrev pub names_in : Files → ℕ → List Below
names_in files from = if kind_of (file_in files from) == directory_kind
    then flat_map (name_of_entry from) (entries_of (directory_in files from)) else []

-- All names below a directory: its own, and behind them those of each file that they lead to, one after
-- the other. A name stands behind that of the directory that it is in.
abbrev pub AreNamesBelow : Files → ℕ → List Below → Type 0
AreNamesBelow files number below =
    below ≡ names_in files number ++ flat_map (λ (one : Below). names_in files one.number) below

-- ---- removed

-- a name is removed: a file's, or that of an empty directory
abbrev pub RemovesOne : Below → Files → Files → Type 0
RemovesOne one files new =
    RemovesIn one.from one.name tt files new ⊎ RemovesDirectoryIn one.from one.name tt files new

-- these are, the last first, each by one call
abbrev pub RemovesEach : List Below → Files → Files → Type 0
RemovesEach [] files new = new ≡ files
RemovesEach (one ∷ behind) files new =
    (mid : Files) × RemovesEach behind files mid × RemovesOne one mid new

-- those from some place on are
abbrev pub RemovesSome : List Below → Files → Files → Type 0
RemovesSome below files new = (place : ℕ) × RemovesEach (drop place below) files new

-- these names are removed, and then the directory that names lead to
abbrev pub RemovesListed : List (List ℕ) → List Below → Files → Files → Type 0
RemovesListed names below files new = (emptied : Files)
    × RemovesEach below files emptied × RemovesDirectoryAt names tt emptied new

-- or some of them are
abbrev pub RemovesPartListed : List (List ℕ) → List Below → Files → Files → Type 0
RemovesPartListed names below files new =
    RemovesSome below files new ⊎ RemovesListed names below files new

-- the same of all names below the directory of a number
abbrev pub RemovesBelow : List (List ℕ) → ℕ → Files → Files → Type 0
RemovesBelow names number files new = (below : List Below)
    × AreNamesBelow files number below × RemovesListed names below files new

abbrev pub RemovesPartBelow : List (List ℕ) → ℕ → Files → Files → Type 0
RemovesPartBelow names number files new = (below : List Below)
    × AreNamesBelow files number below × RemovesPartListed names below files new

-- names lead to a directory of that number
abbrev pub LeadsToNumber : List (List ℕ) → Files → ℕ → Type 0
LeadsToNumber names files number =
    (walked files root names ≡ Ok number) × IsDirectory files number

-- what names lead to is removed: the last name of a file; or a directory, with all names below it first
abbrev pub RemovesAll : List (List ℕ) → Files → Files → Type 0
RemovesAll names files new = RemovesAt names tt files new
    ⊎ ((number : ℕ) × LeadsToNumber names files number × RemovesBelow names number files new)

-- the same of a path, and no number is answered
abbrev pub RemovesWhole : List ℕ → Option ℕ → Files → Files → Type 0
RemovesWhole path number files new = (number ≡ None) × RemovesAll (names_of path) files new

-- What a stop may leave, besides the files as they were: the same, or of the names below the directory
-- some are removed, from the last on.
abbrev pub RemovesPart : List (List ℕ) → Files → Files → Type 0
RemovesPart names files new = RemovesAt names tt files new
    ⊎ ((number : ℕ) × LeadsToNumber names files number × RemovesPartBelow names number files new)

-- no file changes
abbrev pub Stays : Files → Files → Type 0
Stays files new = new ≡ files

-- ---- why not, over kernel k, which is m now

-- the files on the disk are the same
abbrev pub StaysSame : {D N : Type 0} → Ghosts D N → Plain D → Plain D → Type 0
StaysSame disk k m = files_of (image_on disk.image m) ≡ files_of (image_on disk.image k)

-- the files refused
abbrev pub is_refused : TreeFault → Bool
is_refused (tree.Refused cause) = true
is_refused fault = false

-- since the file is a directory
abbrev pub is_a_directory : TreeFault → Bool
is_a_directory (tree.Refused IsADirectory) = true
is_a_directory fault = false

-- memory was refused
abbrev pub no_memory : ChangeRefusal
no_memory = change.Tree (tree.Call call.NoMemory)

-- why the names of a file are not had: a call of the kernel failed, or memory for them was refused;
-- the files refuse none
abbrev pub IsUnlisted : {D N : Type 0} → Ghosts D N → Plain D → Plain D → ChangeRefusal → Type 0
IsUnlisted disk k m r =
    OnTree (IsBroken disk k m) r ⊎ (StaysSame disk k m × (r ≡ no_memory))

-- those of some file below are not, and the files on the disk are the same until then
abbrev pub IsUnlistedBelow : {D N : Type 0} → Ghosts D N → Plain D → Plain D → ChangeRefusal
    → Type 0
IsUnlistedBelow {D} disk k m r =
    (mid : Plain D) × StaysSame disk k mid × IsUnlisted disk mid m r

-- why the name of an empty directory was not removed
abbrev pub IsNotEmptied : {D N : Type 0} → Ghosts D N → Below → Plain D → Plain D → ChangeRefusal
    → Type 0
IsNotEmptied disk one k m =
    OnTree (IsUnanswered disk (λ files. IsUnemptiedIn files one.from one.name) k m)

-- why a name was not: a call that removes a file's did not, for another cause than that it is a
-- directory's; or it is, and that was not removed
abbrev pub IsUnremovedOne : {D N : Type 0} → Ghosts D N → Below → Plain D → Plain D
    → ChangeRefusal → Type 0
IsUnremovedOne {D} disk one k m r =
    OnTree (λ fault. (is_a_directory fault ≡ false)
    × IsUnanswered disk (λ files. IsUnremovedIn files one.from one.name) k m fault) r
    ⊎ (IsUnremovedIn (files_of (image_on disk.image k)) one.from one.name IsADirectory
    × ((mid : Plain D) × StaysSame disk k mid × IsNotEmptied disk one mid m r))

-- the names behind one were removed, and that one was not
pub record StopsRemoving {D N : Type 0} (disk : Ghosts D N) (below : List Below) (k m : Plain D)
    (r : ChangeRefusal) : Type 0 where
  pub front : List Below
  pub one : Below
  pub behind : List Below
  pub split : below ≡ front ++ one ∷ behind
  pub mid : Plain D
  pub removed : RemovesEach behind
      (files_of (image_on disk.image k)) (files_of (image_on disk.image mid))
  pub why : IsUnremovedOne disk one mid m r

-- why the empty directory at a path was not removed, and a name at one
abbrev pub IsNotEmptiedAt : {D N : Type 0} → Ghosts D N → List ℕ → Plain D → Plain D
    → ChangeRefusal → Type 0
IsNotEmptiedAt disk path k m =
    OnTree (IsUndone disk path (IsUndoneIn IsUnemptiedIn (names_of path)) k m)

abbrev pub IsNotRemovedAt : {D N : Type 0} → Ghosts D N → List ℕ → Plain D → Plain D
    → ChangeRefusal → Type 0
IsNotRemovedAt disk path k m =
    OnTree (IsUndone disk path (IsUndoneIn IsUnremovedIn (names_of path)) k m)

-- why not these names, and then the directory: some were, or all
abbrev pub IsUnremovedListed : {D N : Type 0} → Ghosts D N → List ℕ → List Below → Plain D
    → Plain D → ChangeRefusal → Type 0
IsUnremovedListed {D} disk path below k m r = StopsRemoving disk below k m r
    ⊎ ((mid : Plain D) × RemovesEach below
    (files_of (image_on disk.image k)) (files_of (image_on disk.image mid))
    × IsNotEmptiedAt disk path mid m r)

-- why not all below a directory: its names can't be had, and the files are the same; or not all of them
-- were removed
abbrev pub IsUnremovedBelow : {D N : Type 0} → Ghosts D N → List ℕ → ℕ → Plain D → Plain D
    → ChangeRefusal → Type 0
IsUnremovedBelow {D} disk path number k m r = IsUnlistedBelow disk k m r
    ⊎ ((mid : Plain D) × StaysSame disk k mid × ((below : List Below)
    × AreNamesBelow (files_of (image_on disk.image k)) number below
    × IsUnremovedListed disk path below mid m r))

-- the last of names leads down
abbrev pub IsLastDown : List (List ℕ) → Type 0
IsLastDown names = (names ≢ []) × IsDown (last_of names)

-- it does not, or there is none
abbrev pub IsBadLastOf : List (List ℕ) → TreeFault → Type 0
IsBadLastOf names (tree.Refused IsRoot) = names ≡ []
IsBadLastOf names (tree.Refused NotDown) = (names ≢ []) × (IsDown (last_of names) → ⊥)
IsBadLastOf names fault = ⊥

-- or the path is none
abbrev pub IsBadLast : List ℕ → TreeFault → Type 0
IsBadLast path (tree.Path cause) = IsPathCause path cause
IsBadLast path fault = IsBadLastOf (names_of path) fault

-- why not a directory with all below it: the path has no name that leads down, and nothing was done
abbrev pub IsUnremovedTree : {D N : Type 0} → Ghosts D N → List ℕ → ℕ → Plain D → Plain D
    → ChangeRefusal → Type 0
IsUnremovedTree disk path number k m r = ((m ≡ k) × OnTree (IsBadLast path) r)
    ⊎ (IsLastDown (names_of path) × IsUnremovedBelow disk path number k m r)

-- names lead to a file that is no directory
abbrev pub LeadsToFile : List (List ℕ) → Files → Type 0
LeadsToFile names files =
    (number : ℕ) × (walked files root names ≡ Ok number) × (IsDirectory files number → ⊥)

-- Why what is at a path is not removed: the path leads nowhere; or to no directory, and its last name is
-- not removed; or to a directory.
abbrev pub IsUnremovedAll : {D N : Type 0} → Ghosts D N → List ℕ → Plain D → Plain D
    → ChangeRefusal → Type 0
IsUnremovedAll {D} disk path k m r =
    OnTree (IsUndone disk path (IsUnfound (names_of path)) k m) r
    ⊎ ((mid : Plain D) × StaysSame disk k mid
    × ((LeadsToFile (names_of path) (files_of (image_on disk.image k))
    × IsNotRemovedAt disk path mid m r)
    ⊎ ((number : ℕ) × LeadsToNumber (names_of path) (files_of (image_on disk.image k)) number
    × IsUnremovedTree disk path number mid m r)))
