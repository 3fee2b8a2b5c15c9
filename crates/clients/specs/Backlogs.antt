-- The operations that wait to be handed in.
use Rattle.std.specs.Prelude.{◌≡◌, ℕ, ◌==◌, List, [], ◌∷◌, ◌++◌, Option, Some, None, option_to_list, flat_map, slice_get, if◌then◌else◌}
use Rattle.model.specs.declared.types.operations.Op.{Op}
use Rattle.scripts.specs.declared.script.Task.{Task}
use Rattle.clients.specs.declared.backlog.Backlog.{Backlog}

abbrev pub backlog_of : Backlog → List Op
backlog_of b = option_to_list b.held ++ b.rest.items

abbrev pub backlog_in : Option Backlog → List Op
backlog_in None = []
backlog_in (Some b) = backlog_of b

-- those of a process; none past the last
abbrev pub backlog_at : List Backlog → ℕ → List Op
backlog_at backlogs p = backlog_in (slice_get backlogs p)

-- an operation may be put back
abbrev pub HasPlace : Backlog → Type 0
HasPlace b = b.held ≡ None

abbrev pub op_if : ℕ → Task → List Op
op_if p task = if task.pid == p then task.op ∷ [] else []

-- the operations of a process, in order
abbrev pub ops_of : ℕ → List Task → List Op
ops_of p tasks = flat_map (op_if p) tasks
