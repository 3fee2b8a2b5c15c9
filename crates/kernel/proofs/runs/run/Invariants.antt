use Rattle.std.proofs.Common.{take}
use Rattle.kernel.specs.Common.{Runs, RunsOn}
use Rattle.kernel.specs.Heralds.{SameBoard}
use Rattle.kernel.proofs.runs.run.Given as goal

-- the first turns were made
abbrev pub invariant-loop-turn : goal.invariant-loop-turn
invariant-loop-turn g l =
    record {
      runs : Runs g.D.Disk g.I.Intake g.H.Herald (take l.turn-index l.fn.turns) l.fn.kernel l.kernel;
      keeps : RunsOn g.D.Disk l.fn.kernel l.kernel;
      board : SameBoard g.H.Herald l.fn.kernel.herald l.kernel.herald;
    }
