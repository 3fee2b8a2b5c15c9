-- How it is told why a mount isn't served.
use Rattle.std.specs.Prelude.{codes}
use Rattle.messages.specs.Telling.{Telling, naming, plain}
use Rattle.names.specs.declared.opening.TreeOpenFault.{TreeOpenFault}
use Rattle.names.specs.declared.opening.TreeOpenFault.TheVariants as opening
use Rattle.opening.specs.Openings.{open_telling}
use Rattle.xvmount.specs.declared.refusal.MountRefusal.{MountRefusal}
use Rattle.xvmount.specs.declared.refusal.MountRefusal.TheVariants as mount

abbrev pub tree_open_telling : TreeOpenFault → Telling
tree_open_telling (opening.Kernel fault) = open_telling fault
tree_open_telling opening.NoTree = plain (codes "names") 13 (codes "NoTree")
tree_open_telling (opening.Miscounted number) =
    naming (codes "names") 21 (codes "Miscounted") number

abbrev pub mount_telling : MountRefusal → Telling
mount_telling (mount.Unopened fault) = tree_open_telling fault
mount_telling mount.NoMemory = plain (codes "names") 16 (codes "NoMemory")
mount_telling mount.NoCall = plain (codes "names") 17 (codes "NoCall")
mount_telling mount.Unsynced = plain (codes "disk") 2 (codes "SyncFault")
