-- How it is told that a command over files of the system isn't done.
use Rattle.cmd.specs.Over.{on_file_telling}
use Rattle.commands_changes.specs.Refusals.{reading_telling}
use Rattle.messages.specs.Telling.{Telling, mkfs_telling as planning_telling, unwritten}
use Rattle.tree_changes.specs.Tellings.{change_telling}
use Rattle.xvnames.specs.declared.refused.FillFault.{FillFault}
use Rattle.xvnames.specs.declared.refused.FillFault.TheVariants as fill
use Rattle.xvnames.specs.declared.refused.MkfsRefusal.{MkfsRefusal}
use Rattle.xvnames.specs.declared.refused.MkfsRefusal.TheVariants as mkfs

abbrev pub fill_telling : FillFault → Telling
fill_telling (fill.Mkfs fault) = planning_telling fault
fill_telling (fill.Change refused) = change_telling refused

abbrev pub mkfs_telling : MkfsRefusal → Telling
mkfs_telling (mkfs.Unplanned fault) = planning_telling fault
mkfs_telling (mkfs.Unread fault) = reading_telling fault
mkfs_telling (mkfs.Of refused) = on_file_telling fill_telling refused
mkfs_telling mkfs.Output = unwritten
