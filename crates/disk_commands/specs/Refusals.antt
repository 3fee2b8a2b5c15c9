-- How it is told that a file of an image isn't written.
use Rattle.std.specs.Prelude.{codes}
use Rattle.opening.specs.Recoveries.{unrecovered_telling}
use Rattle.messages.specs.Telling.{Telling, naming, plain, unwritten}
use Rattle.disk_commands.specs.declared.refusals.CatRefusal.{CatRefusal}
use Rattle.disk_commands.specs.declared.refusals.CatRefusal.TheVariants as cat

abbrev pub cat_telling : CatRefusal → Telling
cat_telling cat.NoMemory = plain (codes "open") 3 (codes "NoMemory")
cat_telling (cat.Unrecovered refusal) = unrecovered_telling refusal
cat_telling cat.NoFile = plain (codes "cat") 1 (codes "NoFile")
cat_telling (cat.Disk fault) = naming (codes "disk") 1 (codes "DiskFault") fault.0
cat_telling cat.Output = unwritten
