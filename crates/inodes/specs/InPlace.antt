-- What a step makes of the tasks, where it changes one of them in its place.
use Rattle.std.specs.Prelude.{◌≡◌, ℕ, List, Option, Some, None, slice_set}
use Rattle.blocks.specs.declared.disk.Disk.{Ghosts}
use Rattle.model.specs.declared.types.image.Dinode.{Dinode}
use Rattle.model.specs.Gathered.{GatheredBytes}
use Rattle.model.specs.declared.types.progress.Progress.{Progress}
use Rattle.wal.specs.Volume.{VolumeState}
use Rattle.inodes.specs.declared.freeing.Freeing.{Freeing}
use Rattle.inodes.specs.declared.tasks.Stage.{Stage}
use Rattle.inodes.specs.Freeing.{FreesOn, now_of}
use Rattle.inodes.specs.Ialloc.{SearchState, SearchSteps}
use Rattle.inodes.specs.Iupdate.{UpdateState, Updates}
use Rattle.inodes.specs.Readi.{ReadState, ReadSteps}
use Rattle.inodes.specs.Tasks.{TaskState, task}
use Rattle.inodes.specs.Writei.{WriteState, WriteSteps}

-- a search for a free number goes on where its task stands
pub record SearchesInPlace {D N : Type 0} (disk : Ghosts D N) (v : VolumeState D)
    (ts : List TaskState) (p : ℕ) (m : SearchState) (r : Progress (Option ℕ))
    (us : List TaskState) (w : VolumeState D) : Type 0 where
  pub now : SearchState
  pub steps : SearchSteps disk m.slot v w p m now r
  pub tasks : us ≡ slice_set ts p (record (task ts p) { stage = Stage.Creating now })

-- a reading of a file's bytes, whose inode stands at place k of the table; they are gathered beside
-- the task
pub record ReadsInPlace {D N : Type 0} (disk : Ghosts D N) (v : VolumeState D)
    (ts : List TaskState) (p k : ℕ) (m : ReadState) (g : GatheredBytes) (r : Progress (Unit {0}))
    (us : List TaskState) (w : VolumeState D) (h : GatheredBytes) : Type 0 where
  pub now : ReadState
  pub reads : ReadSteps disk v p m g r w now h
  pub tasks : us ≡ slice_set ts p (record (task ts p) { stage = Stage.Reading k now })

-- the freeing of a file's blocks
pub record TruncatesInPlace {D N : Type 0} (disk : Ghosts D N) (v : VolumeState D)
    (ts : List TaskState) (p k : ℕ) (m : Freeing) (r : Progress (Unit {0}))
    (us : List TaskState) (w : VolumeState D) : Type 0 where
  pub now : Freeing
  pub steps : FreesOn disk (now_of m) v p m r now w
  pub tasks : us ≡ slice_set ts p (record (task ts p) { stage = Stage.Truncating k now })

-- a writing of a file's bytes, whose inode stands at place k of the table
pub record WritesInPlace {D N : Type 0} (disk : Ghosts D N) (v : VolumeState D)
    (ts : List TaskState) (p k : ℕ) (m : WriteState) (bytes : List ℕ) (r : Progress (Unit {0}))
    (us : List TaskState) (w : VolumeState D) : Type 0 where
  pub now : WriteState
  pub writes : WriteSteps disk m.at v p m bytes r now w
  pub tasks : us ≡ slice_set ts p (record (task ts p) { stage = Stage.Writing k now })

-- a writing back of an inode with an attribute set
pub record SetsInPlace {D N : Type 0} (disk : Ghosts D N) (v : VolumeState D)
    (ts : List TaskState) (p k : ℕ) (d : Dinode) (u : UpdateState) (r : Progress (Unit {0}))
    (us : List TaskState) (w : VolumeState D) : Type 0 where
  pub now : UpdateState
  pub updates : Updates disk u.slot v p u d r now w
  pub tasks : us ≡ slice_set ts p (record (task ts p) { stage = Stage.Setting k d now })

-- the freeing that a task is at, if it is at one
abbrev pub freeing_at : Stage → Option Freeing
freeing_at Stage.Nowhere = None
freeing_at (Stage.Creating m) = None
freeing_at (Stage.Taking m) = None
freeing_at (Stage.Reading k m) = None
freeing_at (Stage.Delivering k) = None
freeing_at (Stage.Truncating k m) = Some m
freeing_at (Stage.Writing k m) = None
freeing_at (Stage.Setting k d u) = None
freeing_at (Stage.Leaving k) = None

-- the writing that a task is at, if it is at one
abbrev pub writing_at : Stage → Option WriteState
writing_at Stage.Nowhere = None
writing_at (Stage.Creating m) = None
writing_at (Stage.Taking m) = None
writing_at (Stage.Reading k m) = None
writing_at (Stage.Delivering k) = None
writing_at (Stage.Truncating k m) = None
writing_at (Stage.Writing k m) = Some m
writing_at (Stage.Setting k d u) = None
writing_at (Stage.Leaving k) = None
