use Rattle.directories.specs.Tallying.{AreTaken}
use Rattle.directories.proofs.Takings.{names_first}
use Rattle.directories.proofs.tallying.take_entries.Given as goal

abbrev pub invariant-loop-entry : goal.invariant-loop-entry
invariant-loop-entry l = AreTaken (names_first l.entries l.entry-index) l.initial.left l.left
