-- How it is told that a script is not replayed.
use Rattle.opening.specs.Openings.{open_telling}
use Rattle.opening.specs.Recoveries.{unrecovered_telling}
use Rattle.messages.specs.Telling.{Telling, disk_telling, unwritten}
use Rattle.player.specs.declared.refusals.ReplayRefusal.{ReplayRefusal}
use Rattle.player.specs.declared.refusals.ReplayRefusal.TheVariants as replay

abbrev pub replay_telling : ReplayRefusal → Telling
replay_telling (replay.Unrecovered refusal) = unrecovered_telling refusal
replay_telling (replay.Unopened fault) = open_telling fault
replay_telling (replay.Disk fault) = disk_telling fault
replay_telling replay.Output = unwritten
