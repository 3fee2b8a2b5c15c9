use Rattle.std.proofs.Common.{◌≡◌, length}
use Rattle.kernel.specs.Heralds.{SameBoard}
use Rattle.kernel.specs.Runs.{RunsOn}
use Rattle.kernel.proofs.Flushed.{HaveWaited}
use Rattle.kernel.proofs.stepping.Kernel.go_on_somewhere.Given as goal

abbrev pub invariant-loop-pid : goal.invariant-loop-pid
invariant-loop-pid g l = record {
  waited : HaveWaited g.D.Disk g.I.Intake g.H.Herald l.pid l.fn.self l.self;
  count : l.pid-end ≡ length l.fn.self.world.processes;
  keeps : RunsOn g.D.Disk l.fn.self l.self;
  board : SameBoard g.H.Herald l.fn.self.herald l.self.herald;
}
