use Rattle.std.proofs.Common.{◌≡◌, ◌++◌, map}
use Rattle.clients.specs.declared.client.Client.{Client}
use Rattle.clients.proofs.making.clients.Given as goal

abbrev pub invariant-loop-feeder : goal.invariant-loop-feeder
invariant-loop-feeder l = record {
  made : map (λ (c : Client). c.feeder) l.clients.items ≡ l.yielded;
  all : l.initial.feeder-iterator.rest.items ≡ l.yielded ++ l.feeder-iterator.rest.items;
}
