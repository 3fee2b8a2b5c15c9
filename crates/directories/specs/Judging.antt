-- What is seen of files without a kernel, and when it tells that they are a tree.
use Rattle.std.specs.Prelude.{◌≡◌, ℕ, Bool, true, false, List, length, Result, MatchResult}
use Rattle.blocks.specs.Disk.{Rose}
use Rattle.model.specs.Files.{Files}
use Rattle.model.specs.declared.types.fault.CheckFault.{CheckFault}
use Rattle.model.specs.declared.types.fault.CheckFault.TheVariants as check
use Rattle.directories.specs.declared.judging.JudgeFault.{JudgeFault}
use Rattle.directories.specs.declared.judging.JudgeFault.TheVariants.{Disk, NoMemory}
use Rattle.directories.specs.declared.judging.Seen.{Seen}
use Rattle.directories.specs.declared.judging.Seen.TheVariants.{Nothing, Plain, Directory}
use Rattle.directories.specs.Checks.{AddsChildren, HasFound, IsAmong}
use Rattle.directories.specs.Entries.{entries_of}
use Rattle.directories.specs.Trees.{directory_in, IsDirectory, IsDirectoryOf, IsFile, IsTree}

-- how the fault of a walk over a checked image is told
abbrev pub judge_fault_of : CheckFault → JudgeFault
judge_fault_of check.NoMemory = NoMemory
judge_fault_of fault = Disk

-- the count of the disk's faults rises where a read failed, and stays where memory was refused
abbrev pub IsJudgeCause : ℕ → ℕ → JudgeFault → Type 0
IsJudgeCause old new Disk = Rose old new
IsJudgeCause old new NoMemory = new ≡ old

abbrev pub KeepsCount : {T : Type 0} → Result T JudgeFault → ℕ → ℕ → Type 0
KeepsCount result old new = MatchResult result (λ _. new ≡ old) (IsJudgeCause old new)

-- that is what there is at a number
abbrev pub IsSeen : Files → ℕ → Seen → Type 0
IsSeen files number Nothing = IsFile files number → ⊥
IsSeen files number Plain = IsFile files number × (IsDirectory files number → ⊥)
IsSeen files number (Directory bytes) =
    IsDirectory files number × (bytes.items ≡ directory_in files number)

-- Whether what is seen may be so in a tree, and what is found by it.
abbrev pub TakesIn : Seen → ℕ → ℕ → List ℕ → List ℕ → List ℕ → List ℕ → List ℕ → List ℕ → Bool
    → Type 0
TakesIn Nothing number parent numbers parents again new_numbers new_parents new_again may =
    may ≡ false
TakesIn Plain number parent numbers parents again new_numbers new_parents new_again may =
    (may ≡ true) × (new_numbers ≡ numbers) × (new_parents ≡ parents) × (new_again ≡ again)
TakesIn (Directory bytes) number parent numbers parents again new_numbers new_parents new_again
    true = IsDirectoryOf bytes.items number parent
    × AddsChildren (entries_of bytes.items) number numbers parents again
    new_numbers new_parents new_again
TakesIn (Directory bytes) number parent numbers parents again new_numbers new_parents new_again
    false = IsDirectoryOf bytes.items number parent → ⊥

-- all that was found from the root on was looked into, or something is not as in a tree
abbrev pub HasLookedThrough : Files → List ℕ → List ℕ → Bool → Type 0
HasLookedThrough files numbers again true =
    (parents : List ℕ) × HasFound files (length numbers) numbers parents again
HasLookedThrough files numbers again false = IsTree files → ⊥

-- none of these numbers is that of a directory
abbrev pub ArePlain : Files → List ℕ → Type 0
ArePlain files numbers = (i : ℕ) → IsAmong numbers i → IsDirectory files i → ⊥

-- each file is among those of these numbers
abbrev pub AreAmong : Files → List ℕ → Type 0
AreAmong files numbers = (i : ℕ) → IsFile files i → IsAmong numbers i
