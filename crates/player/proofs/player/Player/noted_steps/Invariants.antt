use Rattle.std.proofs.Common.{◌≡◌, length}
use Rattle.player.specs.Disks.{faulty}
use Rattle.player.specs.Stepping.{HasItsWatch, IsSeated}
use Rattle.player.specs.Told.{NotesMoves}
use Rattle.player.proofs.player.Player.noted_steps.Given as goal

-- the steps so far moved, and each was noted
abbrev pub invariant-loop-step : goal.invariant-loop-step
invariant-loop-step g l = record {
  moves : NotesMoves (faulty g.D.Disk) l.base l.pid l.notes l.initial.self.kernel l.self.kernel;
  count : length l.notes ≡ l._step;
  processes : length l.self.kernel.world.processes ≡ length l.initial.self.kernel.world.processes;
  feeders : l.self.feeders ≡ l.initial.self.feeders;
  watch : HasItsWatch l.initial.self l.self;
  seated : IsSeated l.self;
}
