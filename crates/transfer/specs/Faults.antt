-- Which fault of a copy another layer's is.
use Rattle.model.specs.declared.types.fault.CheckFault.TheVariants as check
use Rattle.wal.specs.declared.faults.RecoverFault.TheVariants as recover
use Rattle.kernel.specs.declared.types.OpenFault.{OpenFault}
use Rattle.kernel.specs.declared.types.OpenFault.TheVariants as opening
use Rattle.calls.specs.declared.fault.CallFault.{CallFault}
use Rattle.calls.specs.declared.fault.CallFault.TheVariants as call
use Rattle.transfer.specs.declared.fault.CopyFault.{CopyFault}
use Rattle.transfer.specs.declared.fault.CopyFault.TheVariants.{NoMemory, Disk}

abbrev pub fault_of_call : CallFault → CopyFault
fault_of_call (call.Disk cause) = Disk
fault_of_call call.NoMemory = NoMemory

-- the fault of opening a kernel over a new image, in which there is none to find: memory's, or else
-- the disk's
abbrev pub fault_of_opening : OpenFault → CopyFault
fault_of_opening opening.NoMemory = NoMemory
fault_of_opening (opening.Check check.NoMemory) = NoMemory
fault_of_opening (opening.Recover recover.NoMemory) = NoMemory
fault_of_opening fault = Disk
