-- A kernel that was opened, and why one isn't.
use Rattle.std.specs.Prelude.{◌≡◌, ◌≢◌, ◌≤◌, ◌<◌, ◌⊎◌, ⊤, ℕ, true, replicate, None}
use Rattle.blocks.specs.Disk.{Rose, counted}
use Rattle.blocks.specs.Calls.{UnlessHolds}
use Rattle.blocks.specs.declared.disk.Disk.{Ghosts}
use Rattle.model.specs.Layout.{form_of, inode_count_of}
use Rattle.model.specs.Log.{recovered, logged_count}
use Rattle.model.specs.Verdict.{verdict}
use Rattle.model.specs.declared.types.fault.CheckFault.TheVariants as check
use Rattle.offline.specs.Cause.{IsCause}
use Rattle.wal.specs.Recovery.{IsCalm, LeavesFromSync, LeavesIfSynced, RecoversAs, syncs_to_recover, writes_to_recover}
use Rattle.wal.specs.declared.faults.RecoverFault.{RecoverFault}
use Rattle.inodes.specs.Store.{fresh_volume}
use Rattle.inodes.specs.Table.{new_table}
use Rattle.inodes.specs.Tasks.{no_task}
use Rattle.history.specs.Processes.{fresh_world}
use Rattle.kernel.specs.Device.{SameUse, counts_of}
use Rattle.kernel.specs.State.{State}
use Rattle.kernel.specs.declared.types.OpenFault.{OpenFault}
use Rattle.kernel.specs.declared.types.OpenFault.TheVariants.{Check, Recover, NoMemory, ProcRange}

-- what a stop leaves of a recovery that may be refused before the sync with which it begins
abbrev pub LeavesRecovered : {D N : Type 0} → Ghosts D N → D → D → Type 0
LeavesRecovered disk d e = LeavesIfSynced disk d e (RecoversAs (disk.image d))

-- k was opened with so many processes over the disk d, whose image was sound: it was recovered, and
-- nothing else happened
pub record IsOpened {D N I H : Type 0} (disk : Ghosts D N) (d : D) (i : I) (h : H) (processes : ℕ)
    (k : State D I H) : Type 0 where
  pub some : 1 ≤ processes
  pub few : processes ≤ 32
  pub sound : verdict (disk.image d) ≡ None
  pub opening : disk.image k.opening ≡ recovered (disk.image d)
  pub store : k.store ≡ record {
    volume = fresh_volume disk.image k.opening;
    tasks = replicate processes no_task;
    table = new_table (form_of (disk.image d)) (inode_count_of (disk.image d));
  }
  pub world : k.world ≡ fresh_world processes
  pub intake : k.intake ≡ i
  pub herald : k.herald ≡ h
  pub name : disk.name k.opening ≡ disk.name d
  pub writes : disk.write_count k.opening
      ≡ counted (disk.write_count d) (writes_to_recover (logged_count (disk.image d)))
  pub faults : disk.fault_count k.opening ≡ disk.fault_count d
  pub syncs : disk.sync_count k.opening ≡ counted (disk.sync_count d)
      (syncs_to_recover (disk.holding (disk.name d)) (logged_count (disk.image d)))
  pub settled : IsCalm disk k.opening
  pub leaves : LeavesFromSync disk d k.opening (RecoversAs (disk.image d))

-- the fault of a recovery after a check that found none
abbrev pub IsRecoverCause : {D N : Type 0} → Ghosts D N → D → D → RecoverFault → Type 0
IsRecoverCause disk d e RecoverFault.Disk = Rose (disk.fault_count d) (disk.fault_count e)
IsRecoverCause disk d e RecoverFault.BadLog = ⊥
IsRecoverCause disk d e RecoverFault.NoMemory = Unit {0}
IsRecoverCause disk d e RecoverFault.Sync =
    Rose (disk.fault_count d) (disk.fault_count e) × (disk.holding (disk.name d) ≡ true)

-- the faults at which blocks may have been written: a write of the recovery failed, or a sync
abbrev pub MayWrite : OpenFault → Type 0
MayWrite (Check fault) = ⊥
MayWrite (Recover RecoverFault.Disk) = Unit {0}
MayWrite (Recover RecoverFault.BadLog) = ⊥
MayWrite (Recover RecoverFault.NoMemory) = ⊥
MayWrite (Recover RecoverFault.Sync) = Unit {0}
MayWrite NoMemory = ⊥
MayWrite ProcRange = ⊥

-- P holds but where this tells that a call of the disk failed
abbrev pub UnlessDisk : OpenFault → Type 0 → Type 0
UnlessDisk (Check fault) P = fault ≢ check.Disk → P
UnlessDisk (Recover RecoverFault.Disk) P = ⊤
UnlessDisk (Recover RecoverFault.BadLog) P = P
UnlessDisk (Recover RecoverFault.NoMemory) P = P
UnlessDisk (Recover RecoverFault.Sync) P = ⊤
UnlessDisk NoMemory P = P
UnlessDisk ProcRange P = P

-- the disk d is handed back as e, for that reason
abbrev pub IsOpenCause : {D N : Type 0} → Ghosts D N → D → D → ℕ → OpenFault → Type 0
IsOpenCause disk d e processes (Check fault) =
    (1 ≤ processes) × (processes ≤ 32)
    × IsCause (verdict (disk.image d)) (disk.fault_count d) (disk.fault_count e) fault
IsOpenCause disk d e processes (Recover fault) =
    (1 ≤ processes) × (processes ≤ 32) × (verdict (disk.image d) ≡ None)
    × IsRecoverCause disk d e fault
IsOpenCause disk d e processes NoMemory =
    (1 ≤ processes) × (processes ≤ 32) × (verdict (disk.image d) ≡ None)
IsOpenCause disk d e processes ProcRange = ((processes < 1) ⊎ (32 < processes)) × (e ≡ d)

-- and nothing of it was written, nor was it synced, but by a recovery that failed
pub record RefusesToOpen {D N : Type 0} (disk : Ghosts D N) (d e : D) (processes : ℕ)
    (fault : OpenFault) : Type 0 where
  pub cause : IsOpenCause disk d e processes fault
  pub unwritten : MayWrite fault
      ⊎ ((disk.image e ≡ disk.image d) × SameUse (counts_of disk d) (counts_of disk e))
  -- no failed call is told as anything else
  pub faults : UnlessDisk fault (disk.fault_count e ≡ disk.fault_count d)
  pub name : disk.name e ≡ disk.name d
  pub leaves : LeavesRecovered disk d e
  -- a disk that holds no writes back is not synced
  pub plain : UnlessHolds disk d (disk.sync_count e ≡ disk.sync_count d)
