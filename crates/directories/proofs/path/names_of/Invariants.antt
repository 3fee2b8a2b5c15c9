use Rattle.directories.proofs.Parts.{Parted}
use Rattle.directories.proofs.path.names_of.Given as goal

abbrev pub invariant-loop-i : goal.invariant-loop-i
invariant-loop-i l = Parted l.path l.names.items l.start l.i
