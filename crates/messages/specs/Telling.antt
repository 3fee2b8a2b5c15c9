-- How it is told why something wasn't done.
use Rattle.std.specs.Prelude.{ℕ, List, [], ◌++◌, Option, Some, None, codes, decimal}
use Rattle.wal.specs.declared.types.DeviceFault.{DeviceFault}
use Rattle.wal.specs.declared.types.DeviceFault.TheVariants.{Block, Sync}
use Rattle.blocks.specs.declared.errors.FileFault.{FileFault}
use Rattle.blocks.specs.declared.errors.FileFault.TheVariants as file
use Rattle.layout.specs.declared.geometry.MkfsFault.{MkfsFault}
use Rattle.layout.specs.declared.geometry.MkfsFault.TheVariants as mkfs
use Rattle.model.specs.declared.types.fault.CheckFault.{CheckFault}
use Rattle.model.specs.declared.types.fault.CheckFault.TheVariants as check
use Rattle.wal.specs.declared.faults.RecoverFault.{RecoverFault}
use Rattle.wal.specs.declared.faults.RecoverFault.TheVariants as recover
use Rattle.scripts.specs.declared.script.ScriptFault.{ScriptFault}
use Rattle.scripts.specs.declared.script.ScriptFault.TheVariants as script
use Rattle.scripts.specs.declared.schedule.ScheduleFault.{ScheduleFault}
use Rattle.scripts.specs.declared.schedule.ScheduleFault.TheVariants as schedule
use Rattle.messages.specs.declared.printed.Printed.{Printed}
use Rattle.messages.specs.declared.printed.Printed.TheVariants as printed
use Rattle.messages.specs.declared.told.Told.{Told}
use Rattle.messages.specs.declared.told.Unwritten.{Unwritten}

-- the layer, the fault's number among that layer's, its name, and the inode, the block, the line or
-- the word that it names
pub record Telling : Type 0 where
  pub layer : List ℕ
  pub number : ℕ
  pub name : List ℕ
  pub argument : Option ℕ

abbrev pub telling_of : Told → Telling
telling_of t = record {
  layer = t.layer.now;
  number = t.number;
  name = t.name.now;
  argument = t.argument;
}

-- of a fault that names nothing
abbrev pub plain : List ℕ → ℕ → List ℕ → Telling
plain layer number name = record { layer = layer; number = number; name = name; argument = None }

abbrev pub naming : List ℕ → ℕ → List ℕ → ℕ → Telling
naming layer number name argument =
    record { layer = layer; number = number; name = name; argument = Some argument }

abbrev pub argument_text : Option ℕ → List ℕ
argument_text None = []
argument_text (Some n) = codes " " ++ decimal n

-- layer, number, name, and what it names, with one space between them
abbrev pub telling_text : Telling → List ℕ
telling_text t =
    t.layer ++ codes " " ++ decimal t.number ++ codes " " ++ t.name ++ argument_text t.argument

-- the line of the program for it
abbrev pub telling_line : Telling → List ℕ
telling_line t = codes "xvfs: " ++ telling_text t ++ codes "\n"

-- the output can't be written
abbrev pub unwritten : Telling
unwritten = plain (codes "output") 1 (codes "Write")

abbrev pub unwritten_telling : Unwritten → Telling
unwritten_telling fault = unwritten

-- a layer's fault, as that layer tells it, or that what it answered can't be written
abbrev pub printed_telling : {F : Type 0} → (F → Telling) → Printed F → Telling
printed_telling telling (printed.Fault fault) = telling fault
printed_telling telling printed.Output = unwritten

abbrev pub file_telling : FileFault → Telling
file_telling file.Open = plain (codes "file") 1 (codes "Open")
file_telling file.Length = plain (codes "file") 2 (codes "Length")
file_telling file.NoMemory = plain (codes "file") 3 (codes "NoMemory")
file_telling file.Locked = plain (codes "file") 4 (codes "Locked")
file_telling file.Exists = plain (codes "file") 5 (codes "Exists")
file_telling file.Unlockable = plain (codes "file") 6 (codes "Unlockable")

abbrev pub mkfs_telling : MkfsFault → Telling
mkfs_telling mkfs.SizeRange = plain (codes "mkfs") 1 (codes "SizeRange")
mkfs_telling mkfs.InodeRange = plain (codes "mkfs") 2 (codes "InodeRange")
mkfs_telling mkfs.Disk = plain (codes "mkfs") 3 (codes "Disk")
mkfs_telling mkfs.NoMemory = plain (codes "mkfs") 4 (codes "NoMemory")

abbrev pub check_telling : CheckFault → Telling
check_telling check.BadMagic = plain (codes "check") 1 (codes "BadMagic")
check_telling check.BadGeometry = plain (codes "check") 2 (codes "BadGeometry")
check_telling check.BadLog = plain (codes "check") 3 (codes "BadLog")
check_telling (check.BadType inode) = naming (codes "check") 4 (codes "BadType") inode
check_telling (check.BadSize inode) = naming (codes "check") 5 (codes "BadSize") inode
check_telling (check.BadAddress inode) = naming (codes "check") 6 (codes "BadAddress") inode
check_telling (check.TwiceUsed block) = naming (codes "check") 7 (codes "TwiceUsed") block
check_telling (check.UsedButFree block) = naming (codes "check") 8 (codes "UsedButFree") block
check_telling (check.LostBlock block) = naming (codes "check") 9 (codes "LostBlock") block
check_telling check.Disk = plain (codes "check") 10 (codes "Disk")
check_telling check.NoMemory = plain (codes "check") 11 (codes "NoMemory")

abbrev pub recover_telling : RecoverFault → Telling
recover_telling recover.Disk = plain (codes "recover") 1 (codes "Disk")
recover_telling recover.BadLog = plain (codes "recover") 2 (codes "BadLog")
recover_telling recover.NoMemory = plain (codes "recover") 3 (codes "NoMemory")
recover_telling recover.Sync = plain (codes "recover") 4 (codes "Sync")

abbrev pub script_telling : ScriptFault → Telling
script_telling (script.BadLine line) = naming (codes "script") 1 (codes "BadLine") line
script_telling script.TooLarge = plain (codes "script") 2 (codes "TooLarge")
script_telling script.NoMemory = plain (codes "script") 3 (codes "NoMemory")
script_telling script.File = plain (codes "script") 4 (codes "File")

abbrev pub schedule_telling : ScheduleFault → Telling
schedule_telling (schedule.BadWord word) = naming (codes "schedule") 1 (codes "BadWord") word
schedule_telling schedule.TooLarge = plain (codes "schedule") 2 (codes "TooLarge")
schedule_telling schedule.NoMemory = plain (codes "schedule") 3 (codes "NoMemory")
schedule_telling schedule.File = plain (codes "schedule") 4 (codes "File")

abbrev pub disk_telling : DeviceFault → Telling
disk_telling (Block fault) = naming (codes "disk") 1 (codes "DiskFault") fault.0
disk_telling (Sync fault) = plain (codes "disk") 2 (codes "SyncFault")
