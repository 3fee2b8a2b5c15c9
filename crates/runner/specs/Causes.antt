-- Why what a run answered gives less than was asked for.
use Rattle.std.specs.Prelude.{◌≡◌, ◌<◌, ℕ, IsTrue, List, length, Some}
use Rattle.blocks.specs.declared.disk.Disk.{Ghosts}
use Rattle.model.specs.Journal.{is_number}
use Rattle.model.specs.Layout.{inode_count_of}
use Rattle.model.specs.declared.types.operations.Entry.{Entry}
use Rattle.model.specs.declared.types.operations.Op.{Op}
use Rattle.model.specs.declared.types.operations.Op.TheVariants.{Create, Write}
use Rattle.model.specs.declared.types.operations.Reply.{Reply}
use Rattle.model.specs.declared.types.operations.Reply.TheVariants.{Made, NoInode, Wrote}
use Rattle.history.specs.Open.{IsEntry}
use Rattle.inodes.specs.Runs.{SeesTaken, StepMade}
use Rattle.inodes.specs.WriteRuns.{SeesFull}
use Rattle.inodes.specs.Writing.{extent_of}
use Rattle.inodes.specs.declared.writei.Extent.{Extent}
use Rattle.kernel.specs.Causes.{SomeTurnMakes}
use Rattle.rings.specs.contracts.herald.BoardHeraldHerald.TheImpl.{ghosts as board_ghosts}
use Rattle.rings.specs.contracts.intake.RingIntakeIntake.TheImpl.{ghosts as ring_ghosts}
use Rattle.runner.specs.Running.{Ringed}
use Rattle.runner.specs.Sessions.{ComesBySession}

-- an entry of a kernel's journal, of this process, operation and reply
pub record HasAnswered {D : Type 0} (m : Ringed D) (p : ℕ) (op : Op) (reply : Reply) : Type 0 where
  pub index : ℕ
  pub entry : Entry
  pub stands : IsEntry m.world.journal.list index entry
  pub mine : entry.pid ≡ p
  pub same : entry.op ≡ op
  pub told : entry.reply ≡ Some reply

-- one of the turns by which a run's kernel came does this for process p
abbrev pub SomeTurnOf : {D N : Type 0} (disk : Ghosts D N) (P : StepMade D → Type 0) (p : ℕ)
    (d e : D) (processes : ℕ) (last : Ringed D) → ComesBySession disk d e processes last → Type 0
SomeTurnOf disk P p d e processes last comes = SomeTurnMakes disk ring_ghosts board_ghosts P p
    comes.turns.turns comes.first last comes.turns.session

-- the blocks and numbers of a kernel's image
abbrev pub extent_in : {D : Type 0} → Ringed D → Extent
extent_in k = extent_of k.store.table.form k.store.table.inode_count k.store.volume.log.size

-- THE CAUSE OF NoInode: for each number a turn of the run looked at its block, and it was taken
abbrev pub NoInodeWasDue : {D N : Type 0} → Ghosts D N → Type 0
NoInodeWasDue {D} disk = (d e : D) (processes : ℕ) (last : Ringed D)
    (comes : ComesBySession disk d e processes last) (p kind i : ℕ) →
    HasAnswered last p (Create kind) NoInode → IsTrue (is_number (inode_count_of (disk.image d)) i)
    → SomeTurnOf disk (SeesTaken disk.image p i) p d e processes last comes

-- THE CAUSE OF THE NUMBER THAT WAS MADE: so it was with each lower one
abbrev pub LowerWereTaken : {D N : Type 0} → Ghosts D N → Type 0
LowerWereTaken {D} disk = (d e : D) (processes : ℕ) (last : Ringed D)
    (comes : ComesBySession disk d e processes last) (p kind i j : ℕ) →
    HasAnswered last p (Create kind) (Made i) →
    IsTrue (is_number (inode_count_of (disk.image d)) j) → j < i
    → SomeTurnOf disk (SeesTaken disk.image p j) p d e processes last comes

-- THE CAUSE OF A SHORT WRITE: a turn of the run looked at the bitmap's block, and no block was left
abbrev pub ShortWasDue : {D N : Type 0} → Ghosts D N → Type 0
ShortWasDue {D} disk = (d e : D) (processes : ℕ) (last : Ringed D)
    (comes : ComesBySession disk d e processes last) (p i off done : ℕ) (bytes : List ℕ) →
    HasAnswered last p (Write i off bytes) (Wrote done) → done < length bytes
    → SomeTurnOf disk (SeesFull disk.image p (extent_in comes.first)) p d e processes last comes
