-- A player at its opening, and a whole replay.
use Rattle.std.specs.Prelude.{◌≡◌, ℕ, false, List, replicate, Option, Some, None}
use Rattle.blocks.specs.Disk.{Image}
use Rattle.wal.specs.declared.types.DeviceFault.{DeviceFault}
use Rattle.blocks.specs.FaultyDisk.{inner_of, trap_of}
use Rattle.blocks.specs.declared.disk.Disk.{Ghosts}
use Rattle.blocks.specs.declared.faulty.FaultyDisk.{FaultyDisk}
use Rattle.blocks.specs.declared.faulty.Kind.TheVariants.{WriteOld}
use Rattle.blocks.specs.declared.faulty.Trap.{Trap}
use Rattle.inodes.specs.Store.{fresh_volume}
use Rattle.inodes.specs.Table.{new_table}
use Rattle.inodes.specs.Tasks.{no_task}
use Rattle.history.specs.Processes.{fresh_world}
use Rattle.blocks.specs.Disk.{counted}
use Rattle.model.specs.Layout.{form_of, inode_count_of}
use Rattle.model.specs.Log.{logged_count, recovered}
use Rattle.model.specs.Verdict.{verdict}
use Rattle.scripts.specs.declared.schedule.Word.{Word}
use Rattle.scripts.specs.declared.script.Task.{Task}
use Rattle.history.specs.Keeps.{KeepsBetween}
use Rattle.history.specs.Own.{KeepsOwn}
use Rattle.history.specs.Most.{most_of}
use Rattle.kernel.specs.Opening.{LeavesRecovered}
use Rattle.kernel.specs.Runs.{RunsOn}
use Rattle.wal.specs.Recovery.{LeavesFromSync, RecoversAs, writes_to_recover}
use Rattle.player.specs.Afterwards.{IsUnready}
use Rattle.rings.specs.Boards.{asked}
use Rattle.clients.specs.Backlogs.{ops_of}
use Rattle.clients.specs.Feeders.{AreNewFeeders}
use Rattle.rings.specs.Callers.{intake_names}
use Rattle.player.specs.Stepping.{BreaksOff, Ringed}
use Rattle.player.specs.Told.{RunsTo, Saying, Told, base_of}
use Rattle.opening.specs.Recoveries.{IsUnrecovered}
use Rattle.player.specs.declared.player.Player.{Player}
use Rattle.player.specs.declared.refusals.ReplayRefusal.{ReplayRefusal}
use Rattle.player.specs.declared.refusals.ReplayRefusal.TheVariants.{Unrecovered, Unopened, Disk, Output}

-- The player of these operations, of so many processes, over a disk whose image was x: the image
-- was recovered, a kernel was opened over it, and nothing was handed in.
pub record IsOpenedOver {D N : Type 0} (image : FaultyDisk D → Image) (x : Image)
    (tasks : List Task) (processes : ℕ) (player : Player D N) : Type 0 where
  pub sound : verdict x ≡ None
  pub recovers : image player.kernel.opening ≡ recovered x
  pub store : player.kernel.store ≡ record {
    volume = fresh_volume image player.kernel.opening;
    tasks = replicate processes no_task;
    table = new_table (form_of x) (inode_count_of x);
  }
  pub world : player.kernel.world ≡ fresh_world processes
  pub feeders : AreNewFeeders (intake_names player.kernel.intake) tasks processes
      player.feeders.items
  pub unasked : asked player.watch ≡ false

-- The write of that number, from 1, is the one that isn't made, counted from here on: since the
-- trap was set no write was counted, and no fault.
abbrev pub IsArmed : {D N : Type 0} → Ghosts (FaultyDisk D) N → ℕ → FaultyDisk D → Type 0
IsArmed disk stop d = trap_of d ≡ record {
  kind = WriteOld;
  nth = stop;
  writes = disk.write_count d;
  faults = disk.fault_count d;
}

-- The disk d was recovered, and a player of these operations opened over it, which made no write.
-- Whatever a stop left until then is recovered as d is: from the recovery's first sync on, or from
-- the start where nothing was held on d.
pub record IsReadyOver {D N : Type 0} (below : Ghosts D N) (disk : Ghosts (FaultyDisk D) (N × Trap))
    (d : D) (tasks : List Task) (processes stop : ℕ) (player : Player D N) : Type 0 where
  pub sound : verdict (below.image d) ≡ None
  pub opened : IsOpenedOver disk.image (recovered (below.image d)) tasks processes player
  pub writes : disk.write_count player.kernel.store.volume.device
      ≡ counted (below.write_count d) (writes_to_recover (logged_count (below.image d)))
  pub armed : IsArmed disk stop player.kernel.store.volume.device
  pub name : below.name (inner_of player.kernel.store.volume.device) ≡ below.name d
  pub leaves : LeavesFromSync below d (inner_of player.kernel.store.volume.device)
      (RecoversAs (below.image d))

-- what a stop leaves that keeps some of the groups that a kernel committed, on a disk that was d
abbrev pub KeepsSome : {D N : Type 0} → Ghosts (FaultyDisk D) (N × Trap) → Ringed (FaultyDisk D)
    → Image → Type 0
KeepsSome disk k x = KeepsBetween 0 (most_of k.store.volume) (disk.image k.opening)
    k.world.journal.list x

-- What turns make of a player of these operations over the disk d, now e. No group that is committed
-- is lost, and whatever a stop leaves keeps some beginning of the run's groups, from the recovery's
-- first sync on, or from the start where nothing was held on d; up to any group, what is kept of
-- each process is a beginning of its changing operations.
pub record IsPlayedOn {D N : Type 0} (below : Ghosts D N) (disk : Ghosts (FaultyDisk D) (N × Trap))
    (d e : D) (tasks : List Task) (processes : ℕ) (player last : Player D N) : Type 0 where
  pub now : e ≡ inner_of last.kernel.store.volume.device
  pub keeps : RunsOn disk player.kernel last.kernel
  pub own : KeepsOwn (inode_count_of (disk.image last.kernel.opening))
      last.kernel.world.journal.list processes (λ p. ops_of p tasks)
  pub name : below.name e ≡ below.name d
  pub leaves : LeavesFromSync below d e (KeepsSome disk last.kernel)

-- The disk d, now e, was recovered. A player was opened over it, and made the turns of these words,
-- which were noted so. Printed is what `says` has of each, over an image of so many inode numbers,
-- and of the counts, of writes from behind the recovery on; the write to be stopped is counted from
-- there, too. This fault is told of the disk.
pub record Replays {D N : Type 0} (below : Ghosts D N) (disk : Ghosts (FaultyDisk D) (N × Trap))
    (d e : D) (tasks : List Task) (processes : ℕ) (words : List Word) (stop : ℕ) (says : Saying)
    (fault : Option DeviceFault) (text printed : Option (List ℕ)) (tolds : List Told) : Type 0 where
  pub player : Player D N
  pub last : Player D N
  pub ready : IsReadyOver below disk d tasks processes stop player
  pub runs : RunsTo disk (base_of disk player.kernel.store.volume.device) stop says words
      player last fault text printed tolds
  pub played : IsPlayedOn below disk d e tasks processes player last

-- the same up to a turn behind which the output failed
pub record ReplaysPart {D N : Type 0} (below : Ghosts D N)
    (disk : Ghosts (FaultyDisk D) (N × Trap)) (d e : D) (tasks : List Task) (processes : ℕ)
    (words : List Word) (stop : ℕ) : Type 0 where
  pub player : Player D N
  pub last : Player D N
  pub ready : IsReadyOver below disk d tasks processes stop player
  pub breaks : BreaksOff disk stop words player last
  pub played : IsPlayedOn below disk d e tasks processes player last

-- the disk d, now e, wasn't recovered, or no kernel was opened over it, and this is why; whatever a
-- stop left is recovered as d is, as a recovery promises it
pub record HasNotBegun {D N : Type 0} (below : Ghosts D N) (d e : D) (why : Type 0) : Type 0 where
  pub cause : why
  pub name : below.name e ≡ below.name d
  pub leaves : LeavesRecovered below d e

abbrev pub IsNotBegun : {D N : Type 0} → Ghosts D N → Ghosts (FaultyDisk D) (N × Trap) → ℕ → ℕ → D
    → D → ReplayRefusal → Type 0
IsNotBegun below disk processes stop d e (Unrecovered refusal) =
    HasNotBegun below d e (IsUnrecovered below d e refusal)
IsNotBegun below disk processes stop d e (Unopened fault) =
    HasNotBegun below d e (IsUnready below disk processes stop d e fault)
IsNotBegun below disk processes stop d e r = ⊥

-- why a replay over the disk d, now e, was refused, and what it came to; `none` says that nothing
-- was printed
abbrev pub IsNotReplayed : {D N : Type 0} → Ghosts D N → Ghosts (FaultyDisk D) (N × Trap) → D → D
    → List Task → ℕ → List Word → ℕ → Saying → Option (List ℕ) → Option (List ℕ) → Type 0
    → ReplayRefusal → Type 0
IsNotReplayed below disk d e tasks processes words stop says text printed none (Disk fault) =
    (tolds : List Told)
    × Replays below disk d e tasks processes words stop says (Some fault) text printed tolds
IsNotReplayed below disk d e tasks processes words stop says text printed none Output =
    ReplaysPart below disk d e tasks processes words stop
IsNotReplayed below disk d e tasks processes words stop says text printed none r =
    IsNotBegun below disk processes stop d e r × none
