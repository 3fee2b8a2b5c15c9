-- How a whole image gets onto a disk, and what a stop leaves of that.
use Rattle.std.specs.Prelude.{◌≡◌, ◌≢◌, ◌⊎◌, ℕ, ◌-◌, ◌<◌, Bool, true, false, length}
use Rattle.blocks.specs.Disk.{Image, Rose, block_at, counted}
use Rattle.blocks.specs.declared.disk.Disk.{Ghosts}
use Rattle.wal.specs.Recovery.{Settles}
use Rattle.transfer.specs.declared.fault.CopyFault.{CopyFault}
use Rattle.transfer.specs.declared.fault.CopyFault.TheVariants.{Old, NotFirst, Mkfs, Full, Leaked, NoMemory, Disk}

-- block 1, where the superblock stands, is as it was in an image that is as long
pub record KeepsSuperblock (old x : Image) : Type 0 where
  pub long : length x ≡ length old
  pub super : block_at x 1 ≡ block_at old 1

-- block 1 is as it was, or this is the whole image
abbrev pub IsNoneOr : Image → Image → Image → Type 0
IsNoneOr old whole x = KeepsSuperblock old x ⊎ (x ≡ whole)

-- the blocks below k are those of that image, but for block 1, which is as it was
pub record HasWritten (k : ℕ) (whole old x : Image) : Type 0 where
  pub written : (b : ℕ) → b < k → b ≢ 1 → block_at x b ≡ block_at whole b
  pub superblock : KeepsSuperblock old x

-- all blocks of that image but block 1 were written, with one write for each
pub record WritesRest {E N : Type 0} (disk : Ghosts E N) (whole : Image) (old new : E)
    : Type 0 where
  pub image : HasWritten (length whole) whole (disk.image old) (disk.image new)
  pub writes : disk.write_count new ≡ counted (disk.write_count old) (length whole - 1)
  pub faults : disk.fault_count new ≡ disk.fault_count old
  pub syncs : disk.sync_count new ≡ disk.sync_count old

-- two syncs were made, and nothing is held; or, where none is asked for at the end, one
abbrev pub SettlesIf : {E N : Type 0} → Bool → Ghosts E N → E → E → Type 0
SettlesIf true disk old new = Settles disk 2 old new
SettlesIf false disk old new = disk.sync_count new ≡ counted (disk.sync_count old) 1

-- that image is on the disk, by one write for each block
pub record WritesOut {E N : Type 0} (disk : Ghosts E N) (whole : Image) (sync : Bool) (old new : E)
    : Type 0 where
  pub image : disk.image new ≡ whole
  pub writes : disk.write_count new ≡ counted (disk.write_count old) (length whole)
  pub faults : disk.fault_count new ≡ disk.fault_count old
  pub settles : SettlesIf sync disk old new

-- why it is not all on the disk o, which is e then
abbrev pub IsNotWrittenOut : {E N : Type 0} → Ghosts E N → E → E → CopyFault → Type 0
IsNotWrittenOut disk o e (Old fault) = ⊥
IsNotWrittenOut disk o e NotFirst = ⊥
IsNotWrittenOut disk o e (Mkfs fault) = ⊥
IsNotWrittenOut disk o e (Full i) = ⊥
IsNotWrittenOut disk o e (Leaked i) = ⊥
IsNotWrittenOut disk o e NoMemory = e ≡ o
IsNotWrittenOut disk o e Disk = Rose (disk.fault_count o) (disk.fault_count e)
