use Rattle.std.proofs.Common.{◌≡◌, ◌<◌, ℕ, length}
use Rattle.std.specs.Prelude.{All}
use Rattle.clients.specs.Backlogs.{backlog_at, ops_of}
use Rattle.clients.proofs.backlog.backlogs_of.Given as goal

abbrev pub invariant-loop-task : goal.invariant-loop-task
invariant-loop-task l = record {
  count : length l.backlogs.items ≡ l.processes;
  left : All (λ task. task.pid < l.processes) l.task-iterator.rest.items;
  each : (p : ℕ) → p < l.processes → backlog_at l.backlogs.items p ≡ ops_of p l.yielded;
}
