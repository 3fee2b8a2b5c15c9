use Rattle.offline.specs.Recovered.{IsRecoveredOf}
use Rattle.second_lines.proofs.room.needed_by_all.Given as goal

abbrev pub invariant-loop-number : goal.invariant-loop-number
invariant-loop-number g l = IsRecoveredOf (g.D.Disk.image l.disk) l.image
