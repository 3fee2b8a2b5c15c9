use Rattle.std.proofs.Common.{◌≡◌, ◌+◌, length}
use Rattle.rings.specs.Callers.{polled}
use Rattle.clients.specs.Backlogs.{backlog_of}
use Rattle.clients.specs.Feeders.{IsSameFeeder}
use Rattle.clients.proofs.feeder.Feeder.hand_in_first.Given as goal

abbrev pub invariant-loop-op : goal.invariant-loop-op
invariant-loop-op l = record {
  same : IsSameFeeder l.initial.self l.self;
  polled : polled l.self.caller ≡ polled l.initial.self.caller;
  left : length (backlog_of l.self.backlog) + l._op ≡ l._op-end;
}
