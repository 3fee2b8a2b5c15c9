use Rattle.clients.specs.Clients.{AreSameClients}
use Rattle.runner.proofs.driving.drive.Given as goal

abbrev pub invariant-loop-round : goal.invariant-loop-round
invariant-loop-round g l = AreSameClients l.fn.clients.items l.clients.items
