-- What is told of an image before anything is written.
use Rattle.std.specs.Prelude.{◌≡◌, ◌≤◌, ◌<◌, ◌^◌, ℕ, Option, None, Result, MatchResult}
use Rattle.blocks.specs.Calls.{OnlyReads}
use Rattle.blocks.specs.Disk.{Image, Rose}
use Rattle.blocks.specs.declared.disk.Disk.{Ghosts}
use Rattle.offline.specs.Cause.{IsCause}
use Rattle.offline.specs.Recovered.{IsRecoveredOf}
use Rattle.offline.specs.declared.recovered.Recovered.{Recovered}
use Rattle.model.specs.Files.{files_of}
use Rattle.model.specs.Layout.{form_of, greatest_size}
use Rattle.model.specs.Log.{recovered}
use Rattle.model.specs.Verdict.{verdict}
use Rattle.model.specs.declared.types.fault.CheckFault.{CheckFault}
use Rattle.model.specs.declared.types.fault.CheckFault.TheVariants as check
use Rattle.transfer.specs.Needs.{needed_blocks, old_blocks, room_for}
use Rattle.transfer.specs.Places.{HasOld, IsOtherOld, IsPlainOld, LacksOld}
use Rattle.transfer.specs.declared.refused.PutRefusal.{PutRefusal}
use Rattle.transfer.specs.declared.refused.PutRefusal.TheVariants.{Check, NoFile, NotAFile, TooBig, Full, NoMemory}

-- the reader of an image that has no fault
pub record IsCheckedOf (x : Image) (image : Recovered) : Type 0 where
  pub recovered : IsRecoveredOf x image
  pub sound : verdict x ≡ None

-- the old file is there and plain, and that many bytes have room, in a file and in the image
pub record HasRoom (y : Image) (inum : Option ℕ) (count : ℕ) : Type 0 where
  pub old : HasOld (files_of y) inum
  pub plain : IsPlainOld (files_of y) inum
  pub size : count ≤ greatest_size (form_of y)
  pub blocks : needed_blocks (form_of y) count ≤ room_for y inum

-- the blocks that the size of the old file needs, which is there and plain
pub record FindsOld (y : Image) (inum : Option ℕ) (blocks : ℕ) : Type 0 where
  pub there : HasOld (files_of y) inum
  pub plain : IsPlainOld (files_of y) inum
  pub count : blocks ≡ old_blocks y inum
  pub few : blocks ≤ 2 ^ 23

-- the count of the disk's faults stays, and rises where a read failed
abbrev pub IsDiskFault : ℕ → ℕ → CheckFault → Type 0
IsDiskFault old new fault = (fault ≡ check.Disk) × Rose old new

abbrev pub FailsByDisk : {T : Type 0} → Result T CheckFault → ℕ → ℕ → Type 0
FailsByDisk result old new = MatchResult result (λ _. new ≡ old) (IsDiskFault old new)

-- why the old file of an image is not one that bytes can be put in
abbrev pub IsOldRefused : Image → Option ℕ → ℕ → ℕ → PutRefusal → Type 0
IsOldRefused y inum old new (Check fault) = IsDiskFault old new fault
IsOldRefused y inum old new NoFile = LacksOld (files_of y) inum × (new ≡ old)
IsOldRefused y inum old new NotAFile = IsOtherOld (files_of y) inum × (new ≡ old)
IsOldRefused y inum old new _ = ⊥

-- why that many bytes are not put into an image
abbrev pub IsRefusedOf : Image → Option ℕ → ℕ → ℕ → ℕ → PutRefusal → Type 0
IsRefusedOf x inum count old new (Check fault) = IsCause (verdict x) old new fault
IsRefusedOf x inum count old new NoFile =
    (verdict x ≡ None) × (new ≡ old) × LacksOld (files_of (recovered x)) inum
IsRefusedOf x inum count old new NotAFile =
    (verdict x ≡ None) × (new ≡ old) × IsOtherOld (files_of (recovered x)) inum
IsRefusedOf x inum count old new TooBig =
    (verdict x ≡ None) × (new ≡ old) × IsPlainOld (files_of (recovered x)) inum
    × (greatest_size (form_of (recovered x)) < count)
IsRefusedOf x inum count old new Full =
    (verdict x ≡ None) × (new ≡ old) × IsPlainOld (files_of (recovered x)) inum
    × (room_for (recovered x) inum < needed_blocks (form_of (recovered x)) count)
IsRefusedOf x inum count old new NoMemory = (verdict x ≡ None) × (new ≡ old)
IsRefusedOf x inum count old new _ = ⊥

-- that was told of the disk d, now e, which was only read
pub record IsTold {D N : Type 0} (disk : Ghosts D N) (inum : Option ℕ) (count : ℕ) (d e : D)
    (r : PutRefusal) : Type 0 where
  pub cause : IsRefusedOf (disk.image d) inum count (disk.fault_count d) (disk.fault_count e) r
  pub reads : OnlyReads disk d e

-- the disk d, now e, has no fault, and has room; it was only read, and no read failed
pub record IsFit {D N : Type 0} (disk : Ghosts D N) (inum : Option ℕ) (count : ℕ) (d e : D)
    : Type 0 where
  pub sound : verdict (disk.image d) ≡ None
  pub room : HasRoom (recovered (disk.image d)) inum count
  pub reads : OnlyReads disk d e
  pub faults : disk.fault_count e ≡ disk.fault_count d
