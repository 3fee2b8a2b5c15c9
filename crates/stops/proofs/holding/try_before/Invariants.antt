use Rattle.stops.specs.Holding.{PassEach}
use Rattle.stops.specs.Tried.{TriesMore}
use Rattle.stops.proofs.holding.try_before.Given as goal

abbrev pub invariant-loop-before : goal.invariant-loop-before
invariant-loop-before g l = TriesMore l.initial.tried.items l.tried.items (PassEach l.tasks l.processes l.words l.calls l.before l.images)
