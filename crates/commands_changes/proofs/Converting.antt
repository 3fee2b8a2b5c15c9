-- What is told of an image that was converted, or wasn't.
use Rattle.std.proofs.Common.{ℕ, Bool, false, Option, List}
use Rattle.blocks.specs.Disk.{Image}
use Rattle.blocks.specs.declared.disk.Disk.{Ghosts}
use Rattle.blocks.specs.declared.file.FileDisk.{FileDisk}
use Rattle.cmd.specs.Opened.{IsOpened}
use Rattle.commands_changes.specs.Conversions.{HasConverted, HasLog, IsKept, IsUnkept, IsUnlogged, OnConvertRefusal, other_log}
use Rattle.commands_changes.specs.declared.refused.CopyRefusal.{CopyRefusal}
use Rattle.commands_changes.specs.declared.refused.CopyRefusal.TheVariants.{File, Exists, Of, Unconverted, LogRange, Output}

-- what was converted and kept is a conversion
pub has_converted : {F N : Type 0} (remaining : F → Option (List ℕ)) (disk : Ghosts (FileDisk F) N) (log size : Option ℕ) (sync : Bool) (d : FileDisk F) (x : Image) (old new : Option (List ℕ)) → IsOpened remaining disk false d
    → HasLog (other_log log) size (disk.image d) x → IsKept disk x sync old new → HasConverted remaining disk log size sync old new
has_converted remaining disk log size sync d x old new opened converted kept = record { x = x; of = record { opened = d; is = opened; converted = converted }; kept = kept }

-- why what was converted was not kept
pub not_kept : {F N : Type 0} (remaining : F → Option (List ℕ)) (disk : Ghosts (FileDisk F) N) (log size : Option ℕ) (sync : Bool) (d : FileDisk F) (x : Image) (none : Type 0) → IsOpened remaining disk false d
    → HasLog (other_log log) size (disk.image d) x → (r : CopyRefusal) → IsUnkept disk x sync none r → OnConvertRefusal remaining disk log size sync none r
not_kept remaining disk log size sync d x none opened converted (File fault) why = why
not_kept remaining disk log size sync d x none opened converted Exists why = why
not_kept remaining disk log size sync d x none opened converted (Of cause) why = (x, record { opened = d; is = opened; converted = converted }, why.0, why.1)
not_kept remaining disk log size sync d x none opened converted (Unconverted fault) why = absurd why
not_kept remaining disk log size sync d x none opened converted LogRange why = absurd why
not_kept remaining disk log size sync d x none opened converted Output why = (x, record { opened = d; is = opened; converted = converted }, why)

-- why an image was not converted
pub not_converted : {F N : Type 0} (remaining : F → Option (List ℕ)) (disk : Ghosts (FileDisk F) N) (log size : Option ℕ) (sync : Bool) (d e : FileDisk F) (none : Type 0) → IsOpened remaining disk false d → none
    → (r : CopyRefusal) → IsUnlogged log size (disk.image d) (disk.fault_count d) (disk.fault_count e) r → OnConvertRefusal remaining disk log size sync none r
not_converted remaining disk log size sync d e none opened silent (File fault) why = absurd why
not_converted remaining disk log size sync d e none opened silent Exists why = absurd why
not_converted remaining disk log size sync d e none opened silent (Of cause) why = absurd why
not_converted remaining disk log size sync d e none opened silent (Unconverted fault) why = (record { opened = d; read = e; is = opened; why = why }, silent)
not_converted remaining disk log size sync d e none opened silent LogRange why = (why, silent)
not_converted remaining disk log size sync d e none opened silent Output why = absurd why
