use Rattle.kernel.specs.Heralds.{SameBoard}
use Rattle.kernel.specs.Runs.{RunsOn}
use Rattle.kernel.specs.Rounds.{all_left}
use Rattle.kernel.proofs.Flushed.{HasEnded}
use Rattle.kernel.proofs.stepping.Kernel.end_all.Given as goal

abbrev pub invariant-loop : goal.invariant-loop
invariant-loop g l = record {
  ended : HasEnded g.D.Disk g.I.Intake g.H.Herald l.fn.self l.self;
  keeps : RunsOn g.D.Disk l.fn.self l.self;
  board : SameBoard g.H.Herald l.fn.self.herald l.self.herald;
}

abbrev pub decreases-loop : goal.decreases-loop
decreases-loop g l = all_left g.D.Disk.image l.self
