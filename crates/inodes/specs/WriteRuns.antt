-- Runs of a write: its steps from its turn on, between which the other processes go on.
use Rattle.std.specs.Prelude.{◌≡◌, ◌<◌, ◌≤◌, ◌+◌, ℕ, true, List, Some}
use Rattle.std.specs.List.{Any}
use Rattle.blocks.specs.Disk.{Image, block_at}
use Rattle.blocks.specs.declared.disk.Disk.{Ghosts}
use Rattle.model.specs.declared.types.image.Dinode.{Dinode}
use Rattle.model.specs.declared.types.operations.Op.{Op}
use Rattle.model.specs.declared.types.operations.Reply.TheVariants.{Wrote}
use Rattle.model.specs.declared.types.operations.TaskProgress.{TaskProgress}
use Rattle.model.specs.Fields.{has_bit}
use Rattle.wal.specs.Machine.{LogState, used_by}
use Rattle.blockmap.specs.Balloc.{AllocState}
use Rattle.blockmap.specs.declared.balloc.AllocAt.{AllocAt}
use Rattle.blockmap.specs.declared.bmap_alloc.MapAt.{MapAt}
use Rattle.inodes.specs.declared.tasks.Stage.{Stage}
use Rattle.inodes.specs.declared.writei.Extent.{Extent}
use Rattle.inodes.specs.declared.writei.WriteAt.{WriteAt}
use Rattle.inodes.specs.Growing.{TakesIn}
use Rattle.inodes.specs.Runs.{StepMade, IsRun, EndsWith}
use Rattle.inodes.specs.Store.{StoreState, current_of}
use Rattle.inodes.specs.Tasks.{TaskState, task}
use Rattle.inodes.specs.Writei.{WriteState, first_write}
use Rattle.inodes.specs.Writing.{IsWriting, HasLoggedWrite, most_beside}

-- THE RUN OF A WRITE: its steps behind its turn, from where the writing stands so, to the one that
-- answers that so many bytes were written
pub record IsWriteRun {D N : Type 0} (disk : Ghosts D N) (p k : ℕ) (op : Op) (m : WriteState)
    (s : StoreState D) (steps : List (StepMade D)) (done : ℕ) : Type 0 where
  pub begins : (task s.tasks p).stage ≡ Stage.Writing k m
  pub runs : IsRun disk p op s steps
  pub ends : EndsWith steps (TaskProgress.Decided (Wrote done))

-- the taking of a block in that extent has got the bitmap's block, and looks at it next
pub record LooksIn (e : Extent) (t : AllocState) : Type 0 where
  pub slot : ℕ
  pub got : t.at ≡ AllocAt.Looking (Some slot)
  pub takes : TakesIn e t

-- so does a way to a block that takes one
abbrev pub LooksOnWay : Extent → MapAt → Type 0
LooksOnWay e (MapAt.Address t) = LooksIn e t
LooksOnWay e (MapAt.Entry n slot) = ⊥
LooksOnWay e (MapAt.Behind n i t) = LooksIn e t
LooksOnWay e (MapAt.Setting n i found) = ⊥

-- and a writing on such a way
abbrev pub LooksAtBitmap : Extent → WriteAt → Type 0
LooksAtBitmap e (WriteAt.Mapping way) = LooksOnWay e way.at
LooksAtBitmap e (WriteAt.Block b slot) = ⊥
LooksAtBitmap e (WriteAt.Updating u) = ⊥

-- an image has no block left in that extent: each bit below its size is set
abbrev pub IsFull : Image → Extent → Type 0
IsFull x e = (b : ℕ) → b < e.size → has_bit (block_at x e.bitmap) b ≡ true

-- a step of process p's write that looks at the bitmap's block, and the current image has no block
-- left
pub record SeesFull {D : Type 0} (image : D → Image) (p : ℕ) (e : Extent) (step : StepMade D)
    : Type 0 where
  pub writing : WriteState
  pub entry : ℕ
  pub stands : (task step.before.tasks p).stage ≡ Stage.Writing entry writing
  pub looks : LooksAtBitmap e writing.at
  pub full : IsFull (current_of image step.before.volume) e

-- THE CAUSE OF A SHORT WRITE: where a write ends with fewer bytes than it was asked for, one of its
-- steps saw that no block was left
abbrev pub ShortSawFull : {D N : Type 0} → Ghosts D N → Type 0
ShortSawFull {D} disk = (s : StoreState D) (p k i off count done : ℕ) (d : Dinode) (e : Extent)
    (op : Op) (steps : List (StepMade D)) →
    IsWriteRun disk p k op (first_write i d off count e) s steps done → done < count →
    Any (SeesFull disk.image p e) steps

-- A WRITE LOGS FEW BLOCKS: one that has begun logged at most four blocks of its file, and beside them
-- the bitmap's block and those blocks of addresses that its image's form lets it come to. Its inode's
-- block comes last.
abbrev pub LogsFew : Type 0
LogsFew = (cur : Image) (n : ℕ) (t : TaskState) (m : WriteState) (l : LogState) (p homes : ℕ) →
    IsWriting cur n t m → HasLoggedWrite cur l p m → used_by l p ≡ Some homes →
    homes ≤ 4 + most_beside m.extent.form
