use Rattle.std.proofs.Common.{◌≡◌, [], length}
use Rattle.std.specs.Prelude.{All}
use Rattle.clients.specs.Backlogs.{backlog_of}
use Rattle.clients.proofs.backlog.empty_backlogs.Given as goal

abbrev pub invariant-loop-process : goal.invariant-loop-process
invariant-loop-process l = record {
  count : length l.backlogs.items ≡ l._process;
  empty : All (λ backlog. backlog_of backlog ≡ []) l.backlogs.items;
}
