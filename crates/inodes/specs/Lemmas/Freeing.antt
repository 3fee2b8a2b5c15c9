-- A step that uses a block has not to wait, nor does the disk fail.
use Rattle.inodes.specs.Common.{answer_by, Progress, TruncAt}

-- a step was made
abbrev pub IsDone : Progress (Unit {0}) → Type 0
IsDone Progress.Moved = Unit {0}
IsDone (Progress.Sleeping cause) = ⊥
IsDone (Progress.Over out) = Unit {0}
IsDone (Progress.Fault fault) = ⊥

pub use_done : (a : TruncAt) → IsDone (answer_by a)
use_done TruncAt.Direct = tt
use_done (TruncAt.Loading b) = tt
use_done TruncAt.Entry = tt
use_done TruncAt.Unloading = tt
use_done TruncAt.Freeing = tt
use_done TruncAt.Updating = tt
