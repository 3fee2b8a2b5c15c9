use Rattle.player.specs.Stepping.{HasSame, IsSeated, KeepOps, KeepsOfFeeders}
use Rattle.player.specs.Disks.{faulty}
use Rattle.player.proofs.player.Player.reconcile_all.Given as goal

-- what is kept of the first processes is a beginning of their operations
abbrev pub invariant-loop-pid : goal.invariant-loop-pid
invariant-loop-pid g l = record {
  seated : IsSeated l.self;
  same : HasSame l.fn.self.kernel l.self.kernel;
  ops : KeepOps l.fn.self.feeders.items l.self.feeders.items;
  own : KeepsOfFeeders (faulty g.D.Disk) l.fn.self.kernel l.pid l.fn.self.feeders.items;
}
