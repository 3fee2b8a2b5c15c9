use Rattle.std.proofs.Common.{◌≡◌, length}
use Rattle.player.specs.Stepping.{IsSeated}
use Rattle.player.specs.Told.{is_last_told}
use Rattle.player.proofs.Plays.{PlayedSo}
use Rattle.player.proofs.Tells.{Both}
use Rattle.player.specs.Disks.{faulty}
use Rattle.player.proofs.playing.play.Given as goal

abbrev pub invariant-loop-word : goal.invariant-loop-word
invariant-loop-word g l = record {
  played : PlayedSo is_last_told (Both (faulty g.D.Disk) l.base l.stop g.T.Teller.hears) ((g.T.Teller.says l.initial.teller).of_turn l.inode_count) l.words l.word-index (l.fn.player, l.initial.teller) (l.player, l.teller) (g.O.Write.contents l.initial.out) (g.O.Write.contents l.out);
  says : g.T.Teller.says l.teller ≡ g.T.Teller.says l.initial.teller;
  seated : IsSeated l.player;
  processes : length l.player.kernel.world.processes ≡ length l.fn.player.kernel.world.processes;
}
