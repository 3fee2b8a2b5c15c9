-- Why no kernel is opened, and what becomes of the disk.
use Rattle.std.specs.Prelude.{◌≡◌, ◌⊎◌, ℕ, codes}
use Rattle.blocks.specs.declared.disk.Disk.{Ghosts}
use Rattle.kernel.specs.Opening.{RefusesToOpen}
use Rattle.kernel.specs.declared.types.OpenFault.{OpenFault}
use Rattle.kernel.specs.declared.types.OpenFault.TheVariants as open_fault
use Rattle.messages.specs.Telling.{Telling, check_telling, plain, recover_telling}

-- how it is told; a fault of the check or of the recovery inside as that of its own layer
abbrev pub open_telling : OpenFault → Telling
open_telling (open_fault.Check fault) = check_telling fault
open_telling (open_fault.Recover fault) = recover_telling fault
open_telling open_fault.NoMemory = plain (codes "open") 3 (codes "NoMemory")
open_telling open_fault.ProcRange = plain (codes "open") 4 (codes "ProcRange")

-- memory was refused before anything was done with the disk d, now e
abbrev pub HasNoMemory : {D : Type 0} → D → D → OpenFault → Type 0
HasNoMemory d e fault = (fault ≡ open_fault.NoMemory) × (e ≡ d)

-- why no kernel of so many processes was opened over the disk d, now e
abbrev pub IsNotOpened : {D N : Type 0} → Ghosts D N → ℕ → D → D → OpenFault → Type 0
IsNotOpened disk processes d e fault =
    HasNoMemory d e fault ⊎ RefusesToOpen disk d e processes fault
