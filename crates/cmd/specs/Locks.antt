-- Why a file's lock can't be had, or the file.
use Rattle.std.specs.Prelude.{◌≡◌, ◌⊎◌}
use Rattle.blocks.specs.declared.errors.FileFault.{FileFault}
use Rattle.blocks.specs.declared.errors.FileFault.TheVariants.{Locked, NoMemory, Open, Unlockable}

-- it can't be opened, or memory was refused
abbrev pub IsOfOpening : FileFault → Type 0
IsOfOpening fault = (fault ≡ Open) ⊎ (fault ≡ NoMemory)

-- another program holds it, or the system gives none
abbrev pub IsOfLock : FileFault → Type 0
IsOfLock fault = (fault ≡ Locked) ⊎ (fault ≡ Unlockable)
