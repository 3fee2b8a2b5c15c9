-- How a disk failed to which an image was written.
use Rattle.wal.specs.declared.types.DeviceFault.{DeviceFault}
use Rattle.wal.specs.declared.types.DeviceFault.TheVariants as device
use Rattle.transfer.specs.declared.writing_out.WriteFault.{WriteFault}
use Rattle.transfer.specs.declared.writing_out.WriteFault.TheVariants.{Block, Sync}

-- as a kernel's disk fails
abbrev pub device_fault : WriteFault → DeviceFault
device_fault (Block fault) = device.Block fault
device_fault (Sync fault) = device.Sync fault
