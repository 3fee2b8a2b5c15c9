use Rattle.std.proofs.Common.{◌≡◌, ◌≤◌, length}
use Rattle.rings.specs.Callers.{places, polled, submitted}
use Rattle.clients.specs.Clients.{IsSameClient}
use Rattle.clients.proofs.client.Client.poll.Given as goal

-- an answer more in each round, and nothing else
abbrev pub invariant-loop-answer : goal.invariant-loop-answer
invariant-loop-answer l = record {
  same : IsSameClient l.initial.self l.self;
  got : polled l.self.feeder.caller ≡ l.self.answers.items;
  wanted : l.self.wanted ≡ l.initial.self.wanted;
  room : l.self.wanted ≤ l.self.answers.cap;
  count : l._answer ≡ length l.self.answers.items;
  backlog : l.self.feeder.backlog ≡ l.initial.self.feeder.backlog;
  submitted : submitted l.self.feeder.caller ≡ submitted l.initial.self.feeder.caller;
  places : places l.self.feeder.caller ≡ places l.initial.self.feeder.caller;
}
