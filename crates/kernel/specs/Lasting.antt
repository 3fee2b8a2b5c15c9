-- What stays true of store and processes after a fault of the disk.
use Rattle.std.specs.Prelude.{◌≡◌, ◌<◌, ℕ, true, None}
use Rattle.blocks.specs.Disk.{Image}
use Rattle.model.specs.declared.types.image.Form.{Form}
use Rattle.model.specs.declared.types.operations.Entry.{Entry}
use Rattle.inodes.specs.Looks.{HoldsInode}
use Rattle.inodes.specs.Stages.{asked}
use Rattle.inodes.specs.Store.{StoreState}
use Rattle.inodes.specs.Table.{TableState}
use Rattle.history.specs.declared.types.Phase.{Phase}
use Rattle.history.specs.Open.{IsEntry, is_late}
use Rattle.history.specs.Processes.{World}
use Rattle.kernel.specs.Bound.{left_in, step_bound}
use Rattle.kernel.specs.State.{ats_of}

-- who goes on behind its turn has the lock of its operation's inode, and keeps it until its finish
abbrev pub HaveLocks : TableState → World → Type 0
HaveLocks t w = (p group index : ℕ) (e : Entry) → ats_of w p ≡ Phase.AfterTurn group index
    → IsEntry w.journal.list index e → HoldsInode t p (asked e.op)

-- the entry at this index is a Read's or a Write's, whose process goes on behind its turn
pub record IsUnderWay (w : World) (index : ℕ) (e : Entry) : Type 0 where
  pub late : is_late e.op ≡ true
  pub group : ℕ
  pub behind : ats_of w e.pid ≡ Phase.AfterTurn group index

-- so is each entry without a reply
abbrev pub AreUnderWay : World → Type 0
AreUnderWay w = (index : ℕ) (e : Entry) → IsEntry w.journal.list index e → e.reply ≡ None
    → IsUnderWay w index e

pub record Lasts {D : Type 0} (image : D → Image) (form : Form) (s : StoreState D) (w : World)
    : Type 0 where
  pub locks : HaveLocks s.table w
  pub unanswered : AreUnderWay w
  -- each operation has fewer steps left than an image of that form allows
  pub left : (p : ℕ) → left_in image s w p < step_bound form
