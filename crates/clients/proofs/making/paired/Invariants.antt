use Rattle.std.proofs.Common.{◌≡◌, ◌++◌, List, length}
use Rattle.clients.specs.Feeders.{ArePaired}
use Rattle.clients.specs.declared.backlog.Backlog.{Backlog}
use Rattle.clients.proofs.making.paired.Given as goal

abbrev pub invariant-loop-caller : goal.invariant-loop-caller
invariant-loop-caller l = record {
  taken : List Backlog;
  all : l.fn.backlogs.items ≡ taken ++ l.backlogs.rest.items;
  callers : l.fn.callers.items ≡ l.yielded ++ l.caller-iterator.rest.items;
  paired : ArePaired l.yielded taken l.feeders.items;
  even : length l.caller-iterator.rest.items ≡ length l.backlogs.rest.items;
}
