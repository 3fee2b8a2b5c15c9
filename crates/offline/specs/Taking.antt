-- How the pointers of an inode are taken, one after the other.
use Rattle.std.specs.Prelude.{◌≡◌, ◌⊎◌, ℕ, List, ◌++◌, Result, Ok, Err, MatchResult}
use Rattle.blocks.specs.Disk.{Image, Rose}
use Rattle.model.specs.declared.types.fault.CheckFault.{CheckFault}
use Rattle.model.specs.declared.types.fault.CheckFault.TheVariants.{Disk, NoMemory}
use Rattle.model.specs.declared.types.image.Pointer.{Pointer}
use Rattle.offline.specs.Owners.{Judges, SameLimits, Stand}
use Rattle.offline.specs.declared.owners.Owners.{Owners}

-- of the pointers `whole` of inode i, `rest` are still to be taken
pub record HasTaken {T : Type 0}
    (takes : T → ℕ → List Pointer → T → Result (Unit {0}) CheckFault → Type 0)
    (i : ℕ) (whole rest : List Pointer) (old new : T) : Type 0 where
  pub front : List Pointer
  pub split : whole ≡ front ++ rest
  pub taken : takes old i front new (Ok tt)

-- the disk's failure ended it when some were taken
abbrev pub EndsAmong : {T : Type 0}
    → (T → ℕ → List Pointer → T → Result (Unit {0}) CheckFault → Type 0)
    → ℕ → List Pointer → T → T → Result (Unit {0}) CheckFault → Type 0
EndsAmong takes i whole old new answer =
    (answer ≡ Err Disk) × ((rest : List Pointer) × HasTaken takes i whole rest old new)

-- the pointers of inode i were taken, up to the first that was refused, or up to a read that failed;
-- the counts are the disk's faults before and behind
abbrev pub TakesAll : {T : Type 0}
    → (T → ℕ → List Pointer → T → Result (Unit {0}) CheckFault → Type 0)
    → ℕ → List Pointer → ℕ → ℕ → T → T → Result (Unit {0}) CheckFault → Type 0
TakesAll takes i pointers old_faults new_faults old new answer =
    (takes old i pointers new answer × (new_faults ≡ old_faults))
    ⊎ (EndsAmong takes i pointers old new answer × Rose old_faults new_faults)

-- ---- what takes them

-- the table of the blocks, whatever places stood in it
pub record Claims (old : Owners) (i : ℕ) (pointers : List Pointer) (new : Owners)
    (answer : Result (Unit {0}) CheckFault) : Type 0 where
  pub limits : SameLimits old new
  pub judged : (y : Image) (earlier : List ℕ) → Stand old y earlier
      → Judges y i earlier pointers new answer

-- a list, which they join
abbrev pub Lists : List Pointer → List Pointer → List Pointer
    → Result (Unit {0}) CheckFault → Type 0
Lists old pointers new answer =
    MatchResult answer (λ _. new ≡ old ++ pointers) (λ fault. fault ≡ NoMemory)
