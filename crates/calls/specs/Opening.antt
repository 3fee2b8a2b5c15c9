-- A kernel that was just opened, of one process or of two.
use Rattle.std.specs.Prelude.{◌≡◌, ◌⊎◌, None}
use Rattle.blocks.specs.Disk.{counted}
use Rattle.blocks.specs.declared.disk.Disk.{Ghosts}
use Rattle.model.specs.Log.{logged_count, recovered}
use Rattle.model.specs.Verdict.{verdict}
use Rattle.wal.specs.Recovery.{IsCalm, LeavesFromSync, RecoversAs, syncs_to_recover, writes_to_recover}
use Rattle.kernel.specs.Opening.{RefusesToOpen}
use Rattle.kernel.specs.declared.types.OpenFault.{OpenFault}
use Rattle.kernel.specs.declared.types.OpenFault.TheVariants as open_fault
use Rattle.calls.specs.Calls.{IsWhole, Rests, call_count, image_on}
use Rattle.calls.specs.Stepping.{Plain}
use Rattle.calls.specs.Transactions as transactions

-- a kernel was opened over the disk d, and rests so: its image was sound, and was recovered
pub record IsOpenedOver {D N : Type 0} (disk : Ghosts D N) (resting : Type 0) (d : D) (k : Plain D)
    : Type 0 where
  pub sound : verdict (disk.image d) ≡ None
  pub image : image_on disk.image k ≡ recovered (disk.image d)
  pub none : logged_count (image_on disk.image k) ≡ 0
  pub whole : IsWhole (disk.image d) (image_on disk.image k)
  pub device : k.store.volume.device ≡ k.opening
  pub rests : resting
  pub none_called : call_count k ≡ 0
  pub name : disk.name k.opening ≡ disk.name d
  pub writes : disk.write_count k.opening
      ≡ counted (disk.write_count d) (writes_to_recover (logged_count (disk.image d)))
  pub syncs : disk.sync_count k.opening ≡ counted (disk.sync_count d)
      (syncs_to_recover (disk.holding (disk.name d)) (logged_count (disk.image d)))
  pub faults : disk.fault_count k.opening ≡ disk.fault_count d
  pub settled : IsCalm disk k.opening
  pub leaves : LeavesFromSync disk d k.opening (RecoversAs (disk.image d))

-- a kernel of one process, or of two, was opened over the disk d
abbrev pub IsOpenedSole : {D N : Type 0} → Ghosts D N → D → Plain D → Type 0
IsOpenedSole disk d k = IsOpenedOver disk (Rests disk.fault_count k) d k

abbrev pub IsOpenedPair : {D N : Type 0} → Ghosts D N → D → Plain D → Type 0
IsOpenedPair disk d k = IsOpenedOver disk (transactions.Rests disk.fault_count k) d k

-- why none is opened: memory for its queues was refused before anything was done, or the kernel
-- refuses to open
abbrev pub IsNotOpenedSole : {D N : Type 0} → Ghosts D N → D → D → OpenFault → Type 0
IsNotOpenedSole disk d e cause =
    ((cause ≡ open_fault.NoMemory) × (e ≡ d)) ⊎ RefusesToOpen disk d e 1 cause

abbrev pub IsNotOpenedPair : {D N : Type 0} → Ghosts D N → D → D → OpenFault → Type 0
IsNotOpenedPair disk d e cause =
    ((cause ≡ open_fault.NoMemory) × (e ≡ d)) ⊎ RefusesToOpen disk d e 2 cause
