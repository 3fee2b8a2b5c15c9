-- How it is told that a command over files of the system isn't done.
use Rattle.std.specs.Prelude.{codes}
use Rattle.messages.specs.Telling.{Telling, check_telling, file_telling, naming, plain, unwritten}
use Rattle.cmd.specs.Over.{on_file_telling}
use Rattle.transfer.specs.Tellings.{copy_telling, put_telling}
use Rattle.conversion.specs.declared.fault.ConversionFault.{ConversionFault}
use Rattle.conversion.specs.declared.fault.ConversionFault.TheVariants as conversion
use Rattle.model.specs.declared.types.fault.CheckFault.TheVariants as check
use Rattle.commands_changes.specs.declared.refused.CopyRefusal.{CopyRefusal}
use Rattle.commands_changes.specs.declared.refused.CopyRefusal.TheVariants as copy
use Rattle.commands_changes.specs.declared.refused.PutFileRefusal.{PutFileRefusal}
use Rattle.commands_changes.specs.declared.refused.PutFileRefusal.TheVariants as put
use Rattle.commands_changes.specs.declared.refused.ReadFault.{ReadFault}
use Rattle.commands_changes.specs.declared.refused.ReadFault.TheVariants as read

abbrev pub conversion_telling : ConversionFault → Telling
conversion_telling conversion.BadMagic = check_telling check.BadMagic
conversion_telling conversion.BadGeometry = check_telling check.BadGeometry
conversion_telling (conversion.Unsound fault) = check_telling fault
conversion_telling (conversion.Logged count) = naming (codes "copy") 9 (codes "Logged") count
conversion_telling conversion.SizeRange = plain (codes "mkfs") 1 (codes "SizeRange")
conversion_telling conversion.NoMemory = plain (codes "copy") 5 (codes "NoMemory")
conversion_telling (conversion.Disk block) = plain (codes "copy") 6 (codes "Disk")

abbrev pub copying_telling : CopyRefusal → Telling
copying_telling (copy.File fault) = file_telling fault
copying_telling copy.Exists = plain (codes "copy") 7 (codes "Exists")
copying_telling (copy.Of fault) = copy_telling fault
copying_telling (copy.Unconverted fault) = conversion_telling fault
copying_telling copy.LogRange = plain (codes "copy") 10 (codes "LogRange")
copying_telling copy.Output = unwritten

abbrev pub reading_telling : ReadFault → Telling
reading_telling read.NoMemory = plain (codes "put") 5 (codes "NoMemory")
reading_telling read.File = plain (codes "put") 6 (codes "File")

abbrev pub putting_telling : PutFileRefusal → Telling
putting_telling (put.Unread fault) = reading_telling fault
putting_telling (put.Of refusal) = on_file_telling put_telling refusal
