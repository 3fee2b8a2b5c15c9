-- How it is told why a change of files by their paths isn't done.
use Rattle.std.specs.Prelude.{codes}
use Rattle.calls.specs.declared.transactions.fault.TransactionFault.{TransactionFault}
use Rattle.calls.specs.declared.transactions.fault.TransactionFault.TheVariants as call
use Rattle.messages.specs.Telling.{Telling, disk_telling, unwritten}
use Rattle.names.specs.declared.opening.TreeOpenFault.{TreeOpenFault}
use Rattle.names.specs.declared.opening.TreeOpenFault.TheVariants as opening
use Rattle.names.specs.declared.refusal.TreeFault.{TreeFault}
use Rattle.names.specs.declared.refusal.TreeFault.TheVariants as tree
use Rattle.opening.specs.Openings.{open_telling}
use Rattle.tree_looks.specs.Tellings.{look_telling, miscounted, names_told, no_memory, no_tree, path_telling, refusal_telling}
use Rattle.tree_looks.specs.declared.copying.CopyFault.{CopyFault}
use Rattle.tree_looks.specs.declared.copying.CopyFault.TheVariants as uncopied
use Rattle.tree_changes.specs.declared.copying.CopyRefusal.{CopyRefusal}
use Rattle.tree_changes.specs.declared.copying.CopyRefusal.TheVariants as copy
use Rattle.tree_changes.specs.declared.faults.ChangeRefusal.{ChangeRefusal}
use Rattle.tree_changes.specs.declared.faults.ChangeRefusal.TheVariants as change

abbrev pub call_telling : TransactionFault → Telling
call_telling (call.Disk fault) = disk_telling fault
call_telling call.NoMemory = no_memory
call_telling call.NoRoom = names_told 18 (codes "NoRoom")

abbrev pub tree_telling : TreeFault → Telling
tree_telling (tree.Path fault) = path_telling fault
tree_telling (tree.Refused cause) = refusal_telling cause
tree_telling (tree.Call fault) = call_telling fault
tree_telling tree.NoSpace = names_told 11 (codes "NoBlock")
tree_telling tree.NoCall = names_told 17 (codes "NoCall")

abbrev pub tree_open_telling : TreeOpenFault → Telling
tree_open_telling (opening.Kernel fault) = open_telling fault
tree_open_telling opening.NoTree = no_tree
tree_open_telling (opening.Miscounted number) = miscounted number

abbrev pub change_telling : ChangeRefusal → Telling
change_telling (change.Unopened fault) = tree_open_telling fault
change_telling (change.Tree fault) = tree_telling fault
change_telling (change.Unwritten fault) = names_told 12 (codes "TooBig")
change_telling (change.Disk fault) = disk_telling fault
change_telling change.Output = unwritten

abbrev pub uncopied_telling : CopyFault → Telling
uncopied_telling (uncopied.Look refused) = look_telling refused
uncopied_telling uncopied.IsADevice = names_told 22 (codes "IsADevice")
uncopied_telling uncopied.SameFile = names_told 23 (codes "SameFile")

abbrev pub copy_telling : CopyRefusal → Telling
copy_telling (copy.Unplanned fault) = uncopied_telling fault
copy_telling (copy.NoRoom refused) = change_telling refused
copy_telling (copy.Of refused) = change_telling refused
