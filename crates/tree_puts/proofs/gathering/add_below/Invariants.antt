use Rattle.tree_puts.specs.Gathering.{AddsBelow}
use Rattle.tree_puts.proofs.gathering.add_below.Given as goal

-- what has the first names was added
abbrev pub invariant-loop-name : goal.invariant-loop-name
invariant-loop-name g l = AddsBelow l.path l.initial.found.items.items l.found.items.items
