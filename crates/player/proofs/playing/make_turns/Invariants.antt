use Rattle.std.proofs.Common.{◌≡◌, length, None}
use Rattle.messages.specs.Events.{event_line, is_last}
use Rattle.player.specs.Stepping.{IsSeated, MakesGrantedTurn}
use Rattle.player.proofs.Plays.{PlayedSo}
use Rattle.player.specs.Disks.{faulty}
use Rattle.player.proofs.playing.make_turns.Given as goal

-- where no output is known, nothing is said of it
abbrev pub invariant-loop-word : goal.invariant-loop-word
invariant-loop-word g l = record {
  played : PlayedSo is_last (MakesGrantedTurn (faulty g.D.Disk) l.stop) event_line l.words l.word-index l.fn.player l.player None None;
  seated : IsSeated l.player;
  processes : length l.player.kernel.world.processes ≡ length l.fn.player.kernel.world.processes;
}
