-- Whether bytes have room in an image.
use Rattle.std.specs.Prelude.{◌≡◌, ◌≤◌, ◌<◌, ℕ, None}
use Rattle.blocks.specs.Calls.{OnlyReads}
use Rattle.blocks.specs.Disk.{Image}
use Rattle.blocks.specs.declared.disk.Disk.{Ghosts}
use Rattle.kernel.specs.declared.types.OpenFault.TheVariants as unopened
use Rattle.model.specs.Layout.{form_of, greatest_size}
use Rattle.model.specs.Log.{recovered}
use Rattle.model.specs.Verdict.{verdict}
use Rattle.names.specs.declared.opening.TreeOpenFault.TheVariants as opening
use Rattle.directories.specs.declared.refusal.Refusal.TheVariants as refusal
use Rattle.names.specs.declared.refusal.TreeFault.TheVariants as tree
use Rattle.names.specs.declared.writing.Unwritten.TheVariants as unwritten
use Rattle.offline.specs.Cause.{IsCause}
use Rattle.transfer.specs.Needs.{free_count, needed_blocks}
use Rattle.transfer.specs.declared.refused.PutRefusal.{PutRefusal}
use Rattle.transfer.specs.declared.refused.PutRefusal.TheVariants as put
use Rattle.tree_changes.specs.declared.faults.ChangeRefusal.{ChangeRefusal}
use Rattle.tree_changes.specs.declared.faults.ChangeRefusal.TheVariants as change

-- The disk d, now e, has no fault, and that many bytes have room in a new file of it, and a block is
-- free besides; it was only read, and no read failed.
pub record HasRoomFor {D N : Type 0} (disk : Ghosts D N) (count : ℕ) (d e : D) : Type 0 where
  pub sound : verdict (disk.image d) ≡ None
  pub size : count ≤ greatest_size (form_of (recovered (disk.image d)))
  pub blocks : needed_blocks (form_of (recovered (disk.image d))) count
      < free_count (recovered (disk.image d))
  pub reads : OnlyReads disk d e
  pub faults : disk.fault_count e ≡ disk.fault_count d

-- why they have none in an image x of which so many reads had failed before, and so many have now
abbrev pub IsRoomless : Image → ℕ → ℕ → ℕ → ChangeRefusal → Type 0
IsRoomless x count old new (change.Unopened (opening.Kernel (unopened.Check fault))) =
    IsCause (verdict x) old new fault
IsRoomless x count old new (change.Unopened (opening.Kernel unopened.NoMemory)) =
    (verdict x ≡ None) × (new ≡ old)
IsRoomless x count old new (change.Unopened cause) = ⊥
IsRoomless x count old new (change.Unwritten unwritten.TooBig) = (verdict x ≡ None) × (new ≡ old)
    × (greatest_size (form_of (recovered x)) < count)
IsRoomless x count old new (change.Unwritten cause) = ⊥
IsRoomless x count old new (change.Tree (tree.Refused refusal.NoBlock)) =
    (verdict x ≡ None) × (new ≡ old)
    × (free_count (recovered x) ≤ needed_blocks (form_of (recovered x)) count)
IsRoomless x count old new (change.Tree cause) = ⊥
IsRoomless x count old new (change.Disk cause) = ⊥
IsRoomless x count old new change.Output = ⊥

-- that was told of the disk d, now e, which was only read
pub record LacksRoom {D N : Type 0} (disk : Ghosts D N) (count : ℕ) (d e : D) (r : ChangeRefusal)
    : Type 0 where
  pub cause : IsRoomless (disk.image d) count (disk.fault_count d) (disk.fault_count e) r
  pub reads : OnlyReads disk d e

-- a cause that bytes are not put, as it is told of an image
abbrev pub IsUnfit : PutRefusal → ChangeRefusal → Type 0
IsUnfit (put.Check fault) r = r ≡ change.Unopened (opening.Kernel (unopened.Check fault))
IsUnfit put.NoMemory r = r ≡ change.Unopened (opening.Kernel unopened.NoMemory)
IsUnfit put.TooBig r = r ≡ change.Unwritten unwritten.TooBig
IsUnfit put.Full r = r ≡ change.Tree (tree.Refused refusal.NoBlock)
IsUnfit other r = r ≡ change.Output
