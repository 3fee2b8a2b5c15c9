-- How it is told why an image isn't copied, and why bytes aren't put into one.
use Rattle.std.specs.Prelude.{codes}
use Rattle.messages.specs.Telling.{Telling, check_telling, disk_telling, mkfs_telling, naming, plain, unwritten}
use Rattle.opening.specs.Openings.{open_telling}
use Rattle.transfer.specs.declared.fault.CopyFault.{CopyFault}
use Rattle.transfer.specs.declared.fault.CopyFault.TheVariants as copy
use Rattle.transfer.specs.declared.refused.PutRefusal.{PutRefusal}
use Rattle.transfer.specs.declared.refused.PutRefusal.TheVariants as put

abbrev pub copy_telling : CopyFault → Telling
copy_telling (copy.Old fault) = check_telling fault
copy_telling copy.NotFirst = plain (codes "copy") 2 (codes "NotFirst")
copy_telling (copy.Mkfs fault) = mkfs_telling fault
copy_telling (copy.Full number) = naming (codes "copy") 4 (codes "Full") number
copy_telling (copy.Leaked number) = naming (codes "copy") 8 (codes "Leaked") number
copy_telling copy.NoMemory = plain (codes "copy") 5 (codes "NoMemory")
copy_telling copy.Disk = plain (codes "copy") 6 (codes "Disk")

abbrev pub put_telling : PutRefusal → Telling
put_telling (put.Check fault) = check_telling fault
put_telling put.NoFile = plain (codes "put") 1 (codes "NoFile")
put_telling put.NotAFile = plain (codes "put") 7 (codes "NotAFile")
put_telling put.NoInode = plain (codes "put") 2 (codes "NoInode")
put_telling put.TooBig = plain (codes "put") 3 (codes "TooBig")
put_telling put.Full = plain (codes "put") 4 (codes "Full")
put_telling put.NoMemory = plain (codes "put") 5 (codes "NoMemory")
put_telling (put.Unopened fault) = open_telling fault
put_telling (put.Disk fault) = disk_telling fault
put_telling put.Output = unwritten
