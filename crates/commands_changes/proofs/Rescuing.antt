-- What is told of a rescue that was made, or wasn't.
use Rattle.std.proofs.Common.{ℕ, Bool, false, Option, List, inr}
use Rattle.blocks.specs.Calls.{OnlyReads}
use Rattle.blocks.specs.declared.disk.Disk.{Ghosts}
use Rattle.blocks.specs.declared.file.FileDisk.{FileDisk}
use Rattle.cmd.specs.Opened.{IsOpened}
use Rattle.commands_changes.specs.Rescues.{IsUnmadeRescue, OnRescueRefusal}
use Rattle.commands_changes.specs.declared.refused.CopyRefusal.{CopyRefusal}
use Rattle.commands_changes.specs.declared.refused.CopyRefusal.TheVariants.{File, Exists, Of, Unconverted, LogRange, Output}

-- why a rescue that was begun was not made
pub unrescued : {F N : Type 0} (remaining : F → Option (List ℕ)) (disk : Ghosts (FileDisk F) N) (d e left : FileDisk F) (none : Type 0) → IsOpened remaining disk false d → OnlyReads disk d e
    → none → (sync : Bool) (r : CopyRefusal) → IsUnmadeRescue disk e left r → OnRescueRefusal remaining disk sync none r
unrescued remaining disk d e left none opened reads silent sync (File fault) why = silent
unrescued remaining disk d e left none opened reads silent sync Exists why = silent
unrescued remaining disk d e left none opened reads silent sync (Of cause) why =
    (inr (record { opened = d; read = e; left = left; is = opened; reads = reads; why = why }), silent)
unrescued remaining disk d e left none opened reads silent sync (Unconverted fault) why = absurd why
unrescued remaining disk d e left none opened reads silent sync LogRange why = absurd why
unrescued remaining disk d e left none opened reads silent sync Output why = absurd why
