use Rattle.directories.specs.Checks.{AddsFirst}
use Rattle.directories.proofs.checking.add_children.Given as goal

abbrev pub invariant-loop-entry : goal.invariant-loop-entry
invariant-loop-entry l =
    AddsFirst l.entries l.from l.initial.numbers.items l.initial.parents.items l.initial.again.items l.entry-index l.numbers.items l.parents.items l.again.items
