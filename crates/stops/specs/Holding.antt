-- The runs of a script over a disk that holds writes back, and the images that their stops may leave.
use Rattle.std.specs.Prelude.{◌≡◌, ◌<◌, ◌⊎◌, ◌+◌, ◌-◌, ℕ, zero, suc, Bool, List, [], ◌∷◌, ◌++◌, length, min, Option, Some, option_map, ◌^◌}
use Rattle.blocks.specs.FaultyDisk.{inner_of, kind_of, trap_of}
use Rattle.blocks.specs.SyncDisk.{held_of}
use Rattle.blocks.specs.contracts.sync.SyncDiskDisk.TheImpl.{ghosts}
use Rattle.blocks.specs.declared.disk.Disk.{Ghosts}
use Rattle.blocks.specs.declared.faulty.FaultyDisk.{FaultyDisk}
use Rattle.blocks.specs.declared.faulty.Kind.TheVariants.{Sync}
use Rattle.blocks.specs.declared.faulty.Trap.{Trap}
use Rattle.blocks.specs.declared.sync.SyncDisk.{SyncDisk}
use Rattle.scripts.specs.declared.schedule.Word.{Word}
use Rattle.scripts.specs.declared.script.Task.{Task}
use Rattle.player.specs.Disks.{faulty}
use Rattle.player.specs.Stepping.{MakesGrantedTurns}
use Rattle.player.specs.declared.player.Player.{Player}
use Rattle.crash_check.specs.Choices.{HasAllDue, IsChoice, choice_count, due_files, left_by}
use Rattle.crash_check.specs.Images.{HasFiles, kept_files}
use Rattle.crash_check.specs.Mismatches.{LacksFiles, choice_of}
use Rattle.crash_check.specs.declared.choices.Due.{Due}
use Rattle.crash_check.specs.declared.mismatch.Cause.{Cause}
use Rattle.crash_check.specs.declared.mismatch.Choice.{Choice}
use Rattle.crash_check.specs.declared.mismatch.Mismatch.{Mismatch}
use Rattle.crash_check.specs.declared.mismatch.Stop.{Stop}
use Rattle.crash_check.specs.declared.mismatch.Stop.TheVariants.{End, Write, Sync as AtSync}
use Rattle.messages.specs.declared.events.Event.{Event}
use Rattle.stops.specs.Trials.{HasPlayed, IsUnopenedNew, MakesRun, TellsOtherRun, TellsUnopened}
use Rattle.stops.specs.declared.held_trial.Calls.{Calls}
use Rattle.stops.specs.declared.held_trial.Calls.TheVariants.{Writes, Syncs}
use Rattle.stops.specs.declared.held_trial.HeldRun.{HeldRun}
use Rattle.stops.specs.Tried.{tried_at}
use Rattle.stops.specs.declared.held_trial.Played.{Played}
use Rattle.pictures.specs.declared.stops.Column.{Column}

-- a disk in memory that holds writes back, of which one sync fails
abbrev pub HeldDisk : Type 0
HeldDisk = FaultyDisk SyncDisk

-- what contracts see of one
abbrev pub below : Ghosts HeldDisk (Unit {0} × Trap)
below = faulty ghosts

-- and of one over that, of which one write is not made
abbrev pub over : Ghosts (FaultyDisk HeldDisk) ((Unit {0} × Trap) × Trap)
over = faulty below

-- a player over it
abbrev pub HeldPlayer : Type 0
HeldPlayer = Player HeldDisk (Unit {0} × Trap)

-- the disk of a player that holds writes back
abbrev pub disk_of : HeldPlayer → SyncDisk
disk_of player = inner_of (inner_of player.kernel.store.volume.device)

-- the sync of that number fails, counted from 1, the opening's among them; none does where it is 0
pub record FailsSync (sync : ℕ) (d : HeldDisk) : Type 0 where
  pub kind : kind_of d ≡ Sync
  pub nth : (trap_of d).nth ≡ sync

-- A player was opened over a new image on a disk that holds writes back, and made the turns of these
-- words. The write of that number, from 1, was the one that isn't made, or that sync the one that
-- fails.
pub record MakesHeldRun (tasks : List Task) (processes : ℕ) (words : List Word) (write sync : ℕ)
    (player last : HeldPlayer) : Type 0 where
  pub run : MakesRun over tasks processes words write player last
  pub trap : FailsSync sync (inner_of player.kernel.store.volume.device)

-- The image that a choice leaves has exactly the files of the committed groups; and where its own
-- header logs something, those of all groups that were opened.
abbrev pub IsKeptBy : HeldPlayer → List Bool → Type 0
IsKeptBy last keep = HasFiles (left_by (disk_of last) keep)
    (due_files (kept_files last.kernel.world.journal.list last.kernel.store.volume.log.committed)
    (kept_files last.kernel.world.journal.list last.kernel.store.volume.log.opened)
    (left_by (disk_of last) keep))

-- each choice does
abbrev pub KeepsAll : HeldPlayer → Type 0
KeepsAll last = (keep : List Bool) → IsChoice (length (held_of (disk_of last))) keep
    → IsKeptBy last keep

-- the image that this choice leaves has not these files, for this cause
abbrev pub IsLostBy : HeldPlayer → List Bool → Cause → Type 0
IsLostBy last keep cause = LacksFiles (left_by (disk_of last) keep)
    (due_files (kept_files last.kernel.world.journal.list last.kernel.store.volume.log.committed)
    (kept_files last.kernel.world.journal.list last.kernel.store.volume.log.opened)
    (left_by (disk_of last) keep)) cause

-- the choice that is told doesn't, for this cause
abbrev pub LosesSome : HeldPlayer → Option Choice → Cause → Type 0
LosesSome last choice cause = (keep : List Bool)
    × IsChoice (length (held_of (disk_of last))) keep
    × (choice ≡ Some (choice_of keep)) × IsLostBy last keep cause

-- these are the files of the groups that a player committed, and of those that it opened
pub record AreDue (last : HeldPlayer) (due : Due) : Type 0 where
  pub committed : option_map (λ f. f.items) due.committed
      ≡ kept_files last.kernel.world.journal.list last.kernel.store.volume.log.committed
  pub opened : option_map (λ f. f.items) due.opened
      ≡ kept_files last.kernel.world.journal.list last.kernel.store.volume.log.opened

-- The turns of these words, of which that write is stopped, made `last` of a player, and these files
-- are due behind them.
pub record HasPlayedHeld (words : List Word) (write : ℕ) (player last : HeldPlayer)
    (played : Played) : Type 0 where
  pub turns : HasPlayed over words write played.ended player last
  pub due : AreDue last played.due

-- a run whose turns were played came to this on the disk d, whose images all have their files
pub record IsJudged (d : SyncDisk) (run : HeldRun) (played : Played) : Type 0 where
  pub writes : run.writes ≡ played.ended.writes
  pub syncs : run.syncs ≡ ghosts.sync_count d
  pub images : run.images ≡ choice_count (length (held_of d))
  pub all : HasAllDue d played.due

-- The turns of these words over a player came to this, and each image that it may have left at its
-- end keeps its files.
pub record RunsHeld (words : List Word) (write : ℕ) (player : HeldPlayer) (count : HeldRun)
    : Type 0 where
  pub last : HeldPlayer
  pub events : List Event
  pub makes : MakesGrantedTurns over write words events player last
  pub writes : count.writes ≡ over.write_count last.kernel.store.volume.device
      - over.write_count player.kernel.store.volume.device
  pub syncs : count.syncs ≡ over.sync_count last.kernel.store.volume.device
  pub images : count.images ≡ choice_count (length (held_of (disk_of last)))
  pub kept : KeepsAll last

-- the one of this choice doesn't, for this cause
pub record LosesHeld (words : List Word) (write : ℕ) (player : HeldPlayer) (choice : Option Choice)
    (cause : Cause) : Type 0 where
  pub last : HeldPlayer
  pub events : List Event
  pub makes : MakesGrantedTurns over write words events player last
  pub lost : LosesSome last choice cause

-- so is it of turns of which this is told
abbrev pub TellsHeldLoss : List Word → ℕ → HeldPlayer → Mismatch → Type 0
TellsHeldLoss words write player m = LosesHeld words write player m.choice m.cause

-- A run was made and came to this, and each image that it may have left at its end keeps its files.
pub record IsTriedHeld (tasks : List Task) (processes : ℕ) (words : List Word) (write sync : ℕ)
    (count : HeldRun) : Type 0 where
  pub player : HeldPlayer
  pub last : HeldPlayer
  pub run : MakesHeldRun tasks processes words write sync player last
  pub writes : count.writes ≡ over.write_count last.kernel.store.volume.device
      - over.write_count player.kernel.store.volume.device
  pub syncs : count.syncs ≡ over.sync_count last.kernel.store.volume.device
  pub images : count.images ≡ choice_count (length (held_of (disk_of last)))
  pub kept : KeepsAll last

-- a run was made, and of the images that it may have left that of this choice doesn't
pub record HasLostHeld (tasks : List Task) (processes : ℕ) (words : List Word) (write sync : ℕ)
    (choice : Option Choice) (cause : Cause) : Type 0 where
  pub player : HeldPlayer
  pub last : HeldPlayer
  pub run : MakesHeldRun tasks processes words write sync player last
  pub lost : LosesSome last choice cause

-- why a run doesn't pass, as a mismatch tells it
abbrev pub FailsHeld : List Task → ℕ → List Word → ℕ → ℕ → Mismatch → Type 0
FailsHeld tasks processes words write sync m =
    HasLostHeld tasks processes words write sync m.choice m.cause
    ⊎ (TellsUnopened m × IsUnopenedNew below over (FailsSync sync) processes write)

-- The call that a run is stopped before, where so many of its kind were made in front of it: the
-- number of the write, and that of the sync, for which the opening's is the first.
abbrev pub write_behind : Calls → ℕ → ℕ
write_behind Writes before = before + 1
write_behind Syncs before = 0

abbrev pub sync_behind : Calls → ℕ → ℕ
sync_behind Writes before = 0
sync_behind Syncs before = before + 2

-- so many calls of a kind that a run made behind its opening
abbrev pub calls_of : Calls → HeldRun → ℕ
calls_of Writes run = run.writes
calls_of Syncs run = run.syncs - 1

-- the run that is stopped before that call made just those before it, and kept its files in each of
-- so many images
abbrev pub PassesHeld : List Task → ℕ → List Word → Calls → ℕ → ℕ → Type 0
PassesHeld tasks processes words calls before images = (run : HeldRun)
    × IsTriedHeld tasks processes words (write_behind calls before) (sync_behind calls before) run
    × (calls_of calls run ≡ before) × (run.images ≡ images)

-- where such a run was stopped, by the number of that call behind the opening
abbrev pub stop_behind : Calls → ℕ → Stop
stop_behind Writes before = Write (before + 1)
stop_behind Syncs before = AtSync (before + 1)

-- it doesn't pass, or made other calls, and a mismatch tells that call, and why
abbrev pub FailsHeldBehind : List Task → ℕ → List Word → Calls → ℕ → Mismatch → Type 0
FailsHeldBehind tasks processes words calls before m = (m.stop ≡ stop_behind calls before)
    × (FailsHeld tasks processes words (write_behind calls before) (sync_behind calls before) m
    ⊎ (TellsOtherRun m × (run : HeldRun) × ¬ (calls_of calls run ≡ before)
    × IsTriedHeld tasks processes words (write_behind calls before) (sync_behind calls before) run))

-- a sum of counts, which stays at the limit
abbrev pub limited_sum : ℕ → ℕ → ℕ
limited_sum a b = min (a + b) (2 ^ 64 - 1)

-- the runs that are stopped before each of so many calls pass, with so many images in all; these stops
-- were tried
abbrev pub PassEach : List Task → ℕ → List Word → Calls → ℕ → ℕ → List Column → Type 0
PassEach tasks processes words calls zero images tried = (images ≡ 0) × (tried ≡ [])
PassEach tasks processes words calls (suc k) images tried = (before : ℕ) × (one : ℕ)
    × (early : List Column) × PassEach tasks processes words calls k before early
    × PassesHeld tasks processes words calls k one × (images ≡ limited_sum before one)
    × (tried ≡ early ++ tried_at (stop_behind calls k) one ∷ [])

-- The whole run passes, and each that is stopped before one of its writes or its syncs, with so many
-- images in all. These stops were tried.
pub record AllHeldPass (tasks : List Task) (processes : ℕ) (words : List Word) (images : ℕ)
    (tried : List Column) : Type 0 where
  pub run : HeldRun
  pub whole : IsTriedHeld tasks processes words 0 0 run
  pub before_writes : ℕ
  pub at_writes : List Column
  pub writes : PassEach tasks processes words Writes run.writes before_writes at_writes
  pub before_syncs : ℕ
  pub at_syncs : List Column
  pub syncs : PassEach tasks processes words Syncs (run.syncs - 1) before_syncs at_syncs
  pub count : images ≡ limited_sum (limited_sum run.images before_writes) before_syncs
  pub told : tried ≡ tried_at End run.images ∷ at_writes ++ at_syncs

-- the first run that doesn't pass, of those that are stopped before so many calls, is the one that a
-- mismatch tells; these passed before
abbrev pub FirstFails : List Task → ℕ → List Word → Calls → ℕ → Mismatch → List Column → Type 0
FirstFails tasks processes words calls count m tried = (before : ℕ) × (before < count)
    × FailsHeldBehind tasks processes words calls before m
    × (images : ℕ) × PassEach tasks processes words calls before images tried

-- The run that a mismatch tells doesn't pass: the whole one, or the first of those that are stopped,
-- before a write or, behind all these, before a sync. These passed before.
abbrev pub SomeHeldFails : List Task → ℕ → List Word → Mismatch → List Column → Type 0
SomeHeldFails tasks processes words m tried =
    ((m.stop ≡ End) × (tried ≡ []) × FailsHeld tasks processes words 0 0 m)
    ⊎ ((run : HeldRun) × IsTriedHeld tasks processes words 0 0 run × (more : List Column)
    × (tried ≡ tried_at End run.images ∷ more)
    × (FirstFails tasks processes words Writes run.writes m more
    ⊎ ((images : ℕ) × (at_writes : List Column) × (at_syncs : List Column)
    × (more ≡ at_writes ++ at_syncs)
    × PassEach tasks processes words Writes run.writes images at_writes
    × FirstFails tasks processes words Syncs (run.syncs - 1) m at_syncs)))
