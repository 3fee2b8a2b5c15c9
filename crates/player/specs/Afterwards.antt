-- What becomes of a disk over which a kernel is opened.
use Rattle.std.specs.Prelude.{◌≡◌, ◌⊎◌, ℕ}
use Rattle.blocks.specs.FaultyDisk.{inner_of, kind_of, trap_of}
use Rattle.blocks.specs.declared.disk.Disk.{Ghosts}
use Rattle.blocks.specs.declared.faulty.FaultyDisk.{FaultyDisk}
use Rattle.blocks.specs.declared.faulty.Kind.TheVariants.{WriteOld}
use Rattle.blocks.specs.declared.faulty.Trap.{Trap}
use Rattle.model.specs.Log.{logged_count}
use Rattle.kernel.specs.Opening.{RefusesToOpen}
use Rattle.kernel.specs.declared.types.OpenFault.{OpenFault}
use Rattle.opening.specs.Recoveries.{IsRecovered}
use Rattle.opening.specs.Openings.{HasNoMemory}

-- why no kernel of so many processes was opened over a disk over d, now e, whose write of that number
-- is the one that isn't made: what failed is told of that one
pub record RefusesOver {D N : Type 0} (disk : Ghosts (FaultyDisk D) (N × Trap)) (processes stop : ℕ)
    (d e : D) (fault : OpenFault) : Type 0 where
  pub over : FaultyDisk D
  pub now : FaultyDisk D
  pub kind : kind_of over ≡ WriteOld
  pub nth : (trap_of over).nth ≡ stop
  pub below : inner_of over ≡ d
  pub below_now : inner_of now ≡ e
  pub refuses : RefusesToOpen disk over now processes fault

abbrev pub IsUnopenedOver : {D N : Type 0} → Ghosts (FaultyDisk D) (N × Trap) → ℕ → ℕ → D → D
    → OpenFault → Type 0
IsUnopenedOver disk processes stop d e fault =
    HasNoMemory d e fault ⊎ RefusesOver disk processes stop d e fault

-- why no kernel was opened over the disk d, now e, once it was recovered; memory may be refused
-- before that
abbrev pub IsUnready : {D N : Type 0} → Ghosts D N → Ghosts (FaultyDisk D) (N × Trap) → ℕ → ℕ → D
    → D → OpenFault → Type 0
IsUnready {D} below disk processes stop d e fault = HasNoMemory d e fault
    ⊎ ((mid : D) × IsRecovered below (logged_count (below.image d)) d mid
    × IsUnopenedOver disk processes stop mid e fault)
