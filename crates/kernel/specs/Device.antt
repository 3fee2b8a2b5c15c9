-- What a step of a process does to the disk.
use Rattle.std.specs.Prelude.{◌≡◌, ◌≢◌, ◌⊎◌, ◌↔◌, ℕ, true, false, IsSome, IfSome, Option, Some, None}
use Rattle.blocks.specs.Disk.{Elapses, one_more}
use Rattle.blocks.specs.Calls.{OnlyReads, UnlessHolds}
use Rattle.blocks.specs.declared.disk.Disk.{Ghosts}
use Rattle.wal.specs.declared.types.DeviceFault.{DeviceFault}
use Rattle.wal.specs.declared.types.DeviceFault.TheVariants.{Block, Sync}
use Rattle.wal.specs.Machine.{is_syncing}
use Rattle.wal.specs.Joint.{place_at}
use Rattle.inodes.specs.Store.{StoreState}
use Rattle.inodes.specs.Stages.{block_at_stage}
use Rattle.inodes.specs.Tasks.{task}
use Rattle.history.specs.declared.types.Phase.{Phase}
use Rattle.model.specs.declared.types.operations.Step.{Step}
use Rattle.history.specs.Alone.{is_committing_at}

-- the counts of a disk that its use raises
pub record Counts : Type 0 where
  pub writes : ℕ
  pub syncs : ℕ

abbrev pub counts_of : {D N : Type 0} → Ghosts D N → D → Counts
counts_of disk d = record { writes = disk.write_count d; syncs = disk.sync_count d }

-- neither a write nor a sync was made
abbrev pub SameUse : Counts → Counts → Type 0
SameUse old new = (new.writes ≡ old.writes) × (new.syncs ≡ old.syncs)

-- a step makes one write at most, or one sync
abbrev pub UsesOnce : Counts → Counts → Type 0
UsesOnce old new =
    SameUse old new
    ⊎ (((new.writes ≡ one_more old.writes) × (new.syncs ≡ old.syncs))
    ⊎ ((new.writes ≡ old.writes) × (new.syncs ≡ one_more old.syncs)))

-- a step has a fault exactly where the disk counts one, and then neither write nor sync
abbrev pub CountsItsFault : Option DeviceFault → Counts → Counts → ℕ → ℕ → Type 0
CountsItsFault None old new faults failed = failed ≡ faults
CountsItsFault (Some fault) old new faults failed =
    SameUse old new × (failed ≡ one_more faults)

-- the block that a step reads or writes; 0 where it does neither
abbrev pub block_at_step : {D : Type 0} → Phase → StoreState D → ℕ → ℕ
block_at_step Phase.Idle s p = 0
block_at_step (Phase.BeforeTurn group op) s p = block_at_stage (task s.tasks p).stage
block_at_step (Phase.AfterTurn group k) s p = block_at_stage (task s.tasks p).stage
block_at_step (Phase.Ending group k) s p = 0
block_at_step (Phase.Committing group k) s p = place_at s.volume.log.commit s.volume.log.homes

-- its step is a sync
abbrev pub SyncsAt : {D : Type 0} → Phase → StoreState D → Type 0
SyncsAt a s = (is_committing_at a ≡ true) × (is_syncing s.volume.log.commit ≡ true)

-- a fault is of the block that the step reads or writes, or of its sync
abbrev pub FailsSo : {D : Type 0} → Phase → StoreState D → ℕ → DeviceFault → Type 0
FailsSo a s p (Block fault) = fault.0 ≡ block_at_step a s p
FailsSo a s p (Sync fault) = SyncsAt a s

-- a step of process p, which stands so, uses the disk of a store: it writes one block, or syncs, or
-- only reads; how often it reads isn't said
pub record UsesDisk {D N : Type 0} (disk : Ghosts D N) (a : Phase) (p : ℕ) (r : Step)
    (s t : StoreState D) : Type 0 where
  pub halted : (r ≡ Step.Halted) ↔ IsSome t.volume.fault
  pub name : disk.name t.volume.device ≡ disk.name s.volume.device
  pub time : Elapses (disk.moment s.volume.device) (disk.moment t.volume.device)
      (disk.leaves s.volume.device) (disk.leaves t.volume.device)
  -- only a commit's step does more than read
  pub reads : is_committing_at a ≡ false → OnlyReads disk s.volume.device t.volume.device
  pub written : is_committing_at a ≡ true → is_syncing s.volume.log.commit ≡ false → r ≢ Step.Halted
      → disk.write_count t.volume.device ≡ one_more (disk.write_count s.volume.device)
  pub synced : SyncsAt a s → r ≢ Step.Halted
      → disk.sync_count t.volume.device ≡ one_more (disk.sync_count s.volume.device)
  -- a disk that holds no writes back is not synced
  pub plain : UnlessHolds disk s.volume.device
      (disk.sync_count t.volume.device ≡ disk.sync_count s.volume.device)
  pub once : UsesOnce (counts_of disk s.volume.device) (counts_of disk t.volume.device)
  pub faults : s.volume.fault ≡ None → CountsItsFault t.volume.fault
      (counts_of disk s.volume.device) (counts_of disk t.volume.device)
      (disk.fault_count s.volume.device) (disk.fault_count t.volume.device)
  pub block : s.volume.fault ≡ None → IfSome t.volume.fault (FailsSo a s p)
