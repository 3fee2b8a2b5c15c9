-- What is told of the files of a disk, and why it isn't.
use Rattle.std.specs.Prelude.{◌≡◌, ◌⊎◌, ℕ, Bool, List, None, Option, Ok, Err}
use Rattle.std.specs.Io.KnownBytes.{Appends}
use Rattle.blocks.specs.Calls.{OnlyReads}
use Rattle.blocks.specs.declared.disk.Disk.{Ghosts}
use Rattle.model.specs.Files.{Files, file_in, files_of}
use Rattle.model.specs.Log.{recovered}
use Rattle.model.specs.Verdict.{verdict}
use Rattle.model.specs.declared.types.fault.CheckFault.TheVariants as check
use Rattle.directories.specs.Paths.{IsPathCause, names_of}
use Rattle.directories.specs.Tallying.{AreNameCounts, HasTooMany}
use Rattle.directories.specs.Trees.{bytes_of, root, IsDirectory, IsTree}
use Rattle.directories.specs.Walks.{walked}
use Rattle.directories.specs.declared.judging.JudgeFault.{JudgeFault}
use Rattle.directories.specs.declared.judging.JudgeFault.TheVariants as judge
use Rattle.directories.specs.declared.refusal.Refusal.TheVariants.{IsADirectory, NotADirectory, TooManyLinks}
use Rattle.offline.specs.Cause.{IsCause}
use Rattle.tree_looks.specs.Flaws.{flaws_told}
use Rattle.tree_looks.specs.Listing.{listed, paths_below, stat_told, wrong_counts}
use Rattle.tree_looks.specs.declared.counts.Text.{Text}
use Rattle.tree_looks.specs.declared.counts.Text.TheVariants.{Counts, Flaws}
use Rattle.tree_looks.specs.declared.faults.LookRefusal.{LookRefusal}
use Rattle.tree_looks.specs.declared.faults.LookRefusal.TheVariants.{Check, NoTree, Path, Refused, NoMemory, Output}

-- how a fault behind the check is told
abbrev pub refusal_of : JudgeFault → LookRefusal
refusal_of judge.Disk = Check check.Disk
refusal_of judge.NoMemory = NoMemory

-- why the files of the disk d, now e, were not read
abbrev pub IsUnloaded : {D N : Type 0} → Ghosts D N → D → D → LookRefusal → Type 0
IsUnloaded disk d e (Check fault) =
    IsCause (verdict (disk.image d)) (disk.fault_count d) (disk.fault_count e) fault
IsUnloaded disk d e NoMemory = verdict (disk.image d) ≡ None
IsUnloaded disk d e NoTree = ⊥
IsUnloaded disk d e (Path cause) = ⊥
IsUnloaded disk d e (Refused cause) = ⊥
IsUnloaded disk d e Output = ⊥

-- they were not read, or refuse a look, for this reason
abbrev pub IsUnseen : {D N : Type 0} → Ghosts D N → (Files → LookRefusal → Type 0) → D → D
    → LookRefusal → Type 0
IsUnseen disk refuses d e r = IsUnloaded disk d e r
    ⊎ ((verdict (disk.image d) ≡ None) × refuses (files_of (recovered (disk.image d))) r)

-- files are no tree
abbrev pub IsNoTree : Files → LookRefusal → Type 0
IsNoTree files r = (r ≡ NoTree) × (IsTree files → ⊥)

-- they are a tree, of which this is told
abbrev pub OfTree : (Files → List ℕ → Type 0) → Files → List ℕ → Type 0
OfTree tells files text = IsTree files × tells files text

-- they are none, or refuse for another reason
abbrev pub NotOfTree : (Files → LookRefusal → Type 0) → Files → LookRefusal → Type 0
NotOfTree refuses files r = IsNoTree files r ⊎ refuses files r

-- why a path leads to no file
abbrev pub IsNotFound : Files → List ℕ → LookRefusal → Type 0
IsNotFound files path (Path cause) = IsPathCause path cause
IsNotFound files path (Refused cause) = walked files root (names_of path) ≡ Err cause
IsNotFound files path (Check fault) = ⊥
IsNotFound files path NoTree = ⊥
IsNotFound files path NoMemory = ⊥
IsNotFound files path Output = ⊥

-- a path leads to a file, and the text is what f makes of its number
abbrev pub TellsOf : Files → List ℕ → (ℕ → List ℕ) → List ℕ → Type 0
TellsOf files path f text =
    (number : ℕ) × (walked files root (names_of path) ≡ Ok number) × (text ≡ f number)

-- the file at a path was listed, as JSON or as text
abbrev pub Lists : Bool → List ℕ → Files → List ℕ → Type 0
Lists json path files text = TellsOf files path (listed json files (names_of path)) text

-- or was not, for this reason
abbrev pub IsUnlisted : List ℕ → Files → LookRefusal → Type 0
IsUnlisted path files r = IsNotFound files path r ⊎ (r ≡ NoMemory)

-- the bytes of the file at a path, which is no directory
abbrev pub Shows : List ℕ → Files → List ℕ → Type 0
Shows path files text = (number : ℕ) × (walked files root (names_of path) ≡ Ok number)
    × (IsDirectory files number → ⊥) × (text ≡ bytes_of (file_in files number))

abbrev pub IsUnshown : List ℕ → Files → LookRefusal → Type 0
IsUnshown path files r = IsNotFound files path r
    ⊎ ((r ≡ Refused IsADirectory) × ((number : ℕ) × (walked files root (names_of path) ≡ Ok number)
    × IsDirectory files number))
    ⊎ (r ≡ NoMemory)

-- what is told of the file at a path itself, as JSON or as text
abbrev pub ShowsStat : Bool → List ℕ → Files → List ℕ → Type 0
ShowsStat json path files text = TellsOf files path (stat_told json files) text

-- all files below the directory at a path as JSON, or their paths
abbrev pub ShowsPaths : Bool → List ℕ → Files → List ℕ → Type 0
ShowsPaths json path files text = (number : ℕ) × (walked files root (names_of path) ≡ Ok number)
    × IsDirectory files number × (text ≡ paths_below json files number)

abbrev pub HasNoPaths : List ℕ → Files → LookRefusal → Type 0
HasNoPaths path files r = IsNotFound files path r
    ⊎ ((r ≡ Refused NotADirectory) × ((number : ℕ) × (walked files root (names_of path) ≡ Ok number)
    × (IsDirectory files number → ⊥)))
    ⊎ (r ≡ NoMemory)

-- the files whose counts of links are not how many names lead to them, by their paths, as JSON or as
-- text
pub record TellsCounts (json : Bool) (files : Files) (text : List ℕ) : Type 0 where
  pub counts : List ℕ
  pub names : AreNameCounts files counts
  pub lines : text ≡ wrong_counts json files counts

-- or more names lead to one than a count may say
abbrev pub IsUntold : Files → LookRefusal → Type 0
IsUntold files r = ((r ≡ Refused TooManyLinks) × HasTooMany files) ⊎ (r ≡ NoMemory)

-- what is told of files that are a tree, or are none
abbrev pub IsTextOf : Bool → Files → Text → Type 0
IsTextOf json files (Counts text) = IsTree files × TellsCounts json files text.items
IsTextOf json files (Flaws text) = (IsTree files → ⊥) × (text.items ≡ flaws_told json files)

-- The disk d, now e, was only read; its image had no fault, and of its files, as recovery would leave
-- them, this was told and printed.
pub record HasLooked {D N : Type 0} (disk : Ghosts D N) (tells : Files → List ℕ → Type 0) (d e : D)
    (old new : Option (List ℕ)) : Type 0 where
  pub reads : OnlyReads disk d e
  pub sound : verdict (disk.image d) ≡ None
  pub text : List ℕ
  pub told : tells (files_of (recovered (disk.image d))) text
  pub printed : Appends old new text

-- It was only read, and nothing was told of it, for this reason; `none` says that nothing was printed.
pub record HasNotLooked {D N : Type 0} (disk : Ghosts D N) (refuses : Files → LookRefusal → Type 0)
    (d e : D) (none : Type 0) (r : LookRefusal) : Type 0 where
  pub reads : OnlyReads disk d e
  pub why : (IsUnseen disk refuses d e r × none)
      ⊎ ((verdict (disk.image d) ≡ None) × (r ≡ Output))

-- It was only read, and its counts were not told, for this reason; of files that are no tree each flaw
-- was printed.
pub record HasNotCounted {D N : Type 0} (disk : Ghosts D N) (json : Bool) (d e : D)
    (old new : Option (List ℕ)) (none : Type 0) (r : LookRefusal) : Type 0 where
  pub reads : OnlyReads disk d e
  pub why : (IsUnseen disk IsUntold d e r × none)
      ⊎ ((verdict (disk.image d) ≡ None) × IsNoTree (files_of (recovered (disk.image d))) r
      × Appends old new (flaws_told json (files_of (recovered (disk.image d)))))
      ⊎ ((verdict (disk.image d) ≡ None) × (r ≡ Output))
