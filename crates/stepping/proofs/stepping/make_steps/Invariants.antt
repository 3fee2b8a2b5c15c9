use Rattle.std.proofs.Common.{◌≡◌, length}
use Rattle.kernel.specs.Steps.{MakesStep}
use Rattle.kernel.specs.Moves.{Moves}
use Rattle.ports.specs.History.{SameNames}
use Rattle.stepping.proofs.stepping.make_steps.Given as goal

-- the steps so far moved
abbrev pub invariant-loop-step : goal.invariant-loop-step
invariant-loop-step g l = record {
  moves : Moves (MakesStep g.D.Disk g.I.Intake g.H.Herald l.pid) l._step l.initial.kernel l.kernel;
  processes : length l.kernel.world.processes ≡ length l.initial.kernel.world.processes;
  names : SameNames (g.I.Intake.name l.initial.kernel.intake) (g.I.Intake.name l.kernel.intake);
}
