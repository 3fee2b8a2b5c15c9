-- The tasks of processes, as contracts see them.
use Rattle.std.specs.Prelude.{ℕ, List, slice_index_or, Option, None}
use Rattle.model.specs.declared.types.operations.Op.{Op}
use Rattle.model.specs.Gathered.{GatheredBytes}
use Rattle.inodes.specs.declared.tasks.Stage.{Stage}

-- the operation that a process began, where its task stands, and the bytes that it read
pub record TaskState : Type 0 where
  pub op : Option Op
  pub stage : Stage
  pub gathered : Option GatheredBytes

abbrev pub no_task : TaskState
no_task = record { op = None; stage = Stage.Nowhere; gathered = None }

abbrev pub task : List TaskState → ℕ → TaskState
task ts p = slice_index_or ts p no_task
