-- The runs of a script over a new image, and whether what they leave has the files that it has to.
use Rattle.std.specs.Prelude.{◌≡◌, ◌≢◌, ◌<◌, ◌⊎◌, ◌+◌, ◌-◌, ⊤, ℕ, false, List, [], ◌∷◌, map, None, option_map}
use Rattle.std.specs.List.{range_with_len}
use Rattle.blocks.specs.Disk.{counted}
use Rattle.blocks.specs.contracts.memory.MemDiskDisk.TheImpl.{ghosts}
use Rattle.blocks.specs.declared.disk.Disk.{Ghosts}
use Rattle.blocks.specs.declared.faulty.FaultyDisk.{FaultyDisk}
use Rattle.blocks.specs.declared.faulty.Trap.{Trap}
use Rattle.blocks.specs.declared.memory.MemDisk.{MemDisk}
use Rattle.scripts.specs.declared.schedule.Word.{Word}
use Rattle.scripts.specs.declared.script.Task.{Task}
use Rattle.messages.specs.declared.events.Event.{Event}
use Rattle.kernel.specs.declared.types.OpenFault.{OpenFault}
use Rattle.player.specs.Afterwards.{IsUnopenedOver}
use Rattle.player.specs.Disks.{faulty}
use Rattle.player.specs.Opening.{IsArmed, IsOpenedOver}
use Rattle.player.specs.Stepping.{MakesGrantedTurns}
use Rattle.player.specs.declared.player.Player.{Player}
use Rattle.player.specs.declared.turns.Outcome.{Outcome}
use Rattle.crash_check.specs.Images.{HasFiles, is_want_of_memory, kept_files, new_image}
use Rattle.crash_check.specs.Mismatches.{LacksFiles}
use Rattle.crash_check.specs.declared.mismatch.Cause.{Cause}
use Rattle.crash_check.specs.declared.mismatch.Cause.TheVariants.{Unopened, OtherRun}
use Rattle.crash_check.specs.declared.mismatch.Mismatch.{Mismatch}
use Rattle.crash_check.specs.declared.mismatch.Stop.TheVariants.{End, Write}
use Rattle.stops.specs.Tried.{tried_at}
use Rattle.stops.specs.declared.trial.Played.{Played}
use Rattle.pictures.specs.declared.stops.Column.{Column}

-- what contracts see of a disk in memory of which one call fails
abbrev pub memory : Ghosts (FaultyDisk MemDisk) (Unit {0} × Trap)
memory = faulty ghosts

-- a player over one
abbrev pub MemoryPlayer : Type 0
MemoryPlayer = Player MemDisk (Unit {0})

-- A player of these operations was opened over a new image, and made the turns of these words, none of
-- which came to refused memory. The write of that number, from 1, was the one that isn't made.
pub record MakesRun {D N : Type 0} (disk : Ghosts (FaultyDisk D) (N × Trap)) (tasks : List Task)
    (processes : ℕ) (words : List Word) (stop : ℕ) (player last : Player D N) : Type 0 where
  pub opened : IsOpenedOver disk.image new_image tasks processes player
  pub armed : IsArmed disk stop player.kernel.store.volume.device
  pub events : List Event
  pub makes : MakesGrantedTurns disk stop words events player last

-- the writes of a run
abbrev pub writes_of : MemoryPlayer → MemoryPlayer → ℕ
writes_of player last = memory.write_count last.kernel.store.volume.device
    - memory.write_count player.kernel.store.volume.device

-- what a run left has exactly the files of the groups that it committed
abbrev pub IsKept : MemoryPlayer → Type 0
IsKept last = HasFiles (memory.image last.kernel.store.volume.device)
    (kept_files last.kernel.world.journal.list last.kernel.store.volume.log.committed)

-- The turns of these words, of which that write is stopped, made `last` of a player, and came to
-- so many writes and groups. None came to refused memory, nor does one in what follows.
pub record HasPlayed {D N : Type 0} (disk : Ghosts (FaultyDisk D) (N × Trap)) (words : List Word)
    (stop : ℕ) (ended : Outcome) (player last : Player D N) : Type 0 where
  pub events : List Event
  pub makes : MakesGrantedTurns disk stop words events player last
  pub writes : ended.writes ≡ disk.write_count last.kernel.store.volume.device
      - disk.write_count player.kernel.store.volume.device
  pub committed : ended.committed ≡ last.kernel.store.volume.log.committed

-- so did those of a run, and these files are due behind them
pub record HasPlayedOn (words : List Word) (stop : ℕ) (player last : MemoryPlayer) (played : Played)
    : Type 0 where
  pub turns : HasPlayed memory words stop played.ended player last
  pub files : option_map (λ f. f.items) played.files
      ≡ kept_files last.kernel.world.journal.list last.kernel.store.volume.log.committed

-- so many writes were made, and what is left on the disk has the files that are due
abbrev pub IsKeptOf : MemDisk → ℕ → Played → Type 0
IsKeptOf d writes played = (writes ≡ played.ended.writes)
    × HasFiles (ghosts.image d) (option_map (λ f. f.items) played.files)

-- what is left on the disk has not the files that are due, and a mismatch tells the cause
abbrev pub IsLostOf : MemDisk → Mismatch → Played → Type 0
IsLostOf d m played = (m.choice ≡ None)
    × LacksFiles (ghosts.image d) (option_map (λ f. f.items) played.files) m.cause

-- the turns of these words over a player made so many writes, and kept its files
pub record RunsTo (words : List Word) (stop : ℕ) (player : MemoryPlayer) (count : ℕ)
    : Type 0 where
  pub last : MemoryPlayer
  pub events : List Event
  pub makes : MakesGrantedTurns memory stop words events player last
  pub writes : count ≡ writes_of player last
  pub kept : IsKept last

-- what a run left has not these files, for this cause
abbrev pub IsLost : MemoryPlayer → Cause → Type 0
IsLost last cause = LacksFiles (memory.image last.kernel.store.volume.device)
    (kept_files last.kernel.world.journal.list last.kernel.store.volume.log.committed) cause

-- the turns of these words over a player left other files, for this cause
pub record Loses (words : List Word) (stop : ℕ) (player : MemoryPlayer) (cause : Cause)
    : Type 0 where
  pub last : MemoryPlayer
  pub events : List Event
  pub makes : MakesGrantedTurns memory stop words events player last
  pub lost : IsLost last cause

-- so did turns of which this is told
abbrev pub TellsLoss : List Word → ℕ → MemoryPlayer → Mismatch → Type 0
TellsLoss words stop player m = (m.choice ≡ None) × Loses words stop player m.cause

-- a run of so many writes was made, and kept its files
pub record IsTried (tasks : List Task) (processes : ℕ) (words : List Word) (stop count : ℕ)
    : Type 0 where
  pub player : MemoryPlayer
  pub last : MemoryPlayer
  pub run : MakesRun memory tasks processes words stop player last
  pub writes : count ≡ writes_of player last
  pub kept : IsKept last

-- a run was made, and didn't keep its files, for this cause
pub record HasLost (tasks : List Task) (processes : ℕ) (words : List Word) (stop : ℕ)
    (cause : Cause) : Type 0 where
  pub player : MemoryPlayer
  pub last : MemoryPlayer
  pub run : MakesRun memory tasks processes words stop player last
  pub lost : IsLost last cause

-- Over a new image, on a disk of that kind of which that write is not made, no player was opened, and
-- not for want of memory.
pub record IsUnopenedNew {D N : Type 0} (below : Ghosts D N)
    (disk : Ghosts (FaultyDisk D) (N × Trap)) (IsKind : D → Type 0) (processes stop : ℕ) : Type 0
  where
    pub before : D
    pub now : D
    pub fault : OpenFault
    pub new : below.image before ≡ new_image
    pub kind : IsKind before
    pub unopened : IsUnopenedOver disk processes stop before now fault
    pub other : is_want_of_memory fault ≡ false

-- a mismatch tells that no player was opened
abbrev pub TellsUnopened : Mismatch → Type 0
TellsUnopened m = (m.choice ≡ None) × (m.cause ≡ Unopened)

-- why a run doesn't pass, as a mismatch tells it
abbrev pub Fails : List Task → ℕ → List Word → ℕ → Mismatch → Type 0
Fails tasks processes words stop m =
    ((m.choice ≡ None) × HasLost tasks processes words stop m.cause)
    ⊎ (TellsUnopened m × IsUnopenedNew ghosts memory (λ _. ⊤) processes stop)

-- the run that is stopped behind so many writes made just these, and kept its files
abbrev pub Passes : List Task → ℕ → List Word → ℕ → Type 0
Passes tasks processes words before = IsTried tasks processes words (before + 1) before

-- a mismatch tells that a run is not the one that was made before
abbrev pub TellsOtherRun : Mismatch → Type 0
TellsOtherRun m = (m.choice ≡ None) × (m.cause ≡ OtherRun)

-- it doesn't pass, or made other writes, and a mismatch tells that write, and why
abbrev pub FailsBehind : List Task → ℕ → List Word → ℕ → Mismatch → Type 0
FailsBehind tasks processes words before m = (m.stop ≡ Write (before + 1))
    × (Fails tasks processes words (before + 1) m ⊎ (TellsOtherRun m
    × (writes : ℕ) × (writes ≢ before) × IsTried tasks processes words (before + 1) writes))

-- the stop before the write behind so many, which leaves one image
abbrev pub tried_before : ℕ → Column
tried_before before = tried_at (Write (before + 1)) 1

-- the whole run, and those that are stopped before each of so many writes
abbrev pub tried_writes : ℕ → List Column
tried_writes count = tried_at End 1 ∷ map tried_before (range_with_len 0 count)

-- A run made so many writes, and kept its files; and so did one stopped before each of them. There
-- is an image for each, and one more. These stops were tried.
pub record AllPass (tasks : List Task) (processes : ℕ) (words : List Word) (images : ℕ)
    (tried : List Column) : Type 0 where
  pub writes : ℕ
  pub whole : IsTried tasks processes words 0 writes
  pub each : (before : ℕ) → before < writes → Passes tasks processes words before
  pub count : images ≡ counted writes 1
  pub told : tried ≡ tried_writes writes

-- The run that a mismatch tells doesn't pass: the whole one, or the first of those that are stopped.
-- These passed before.
abbrev pub SomeFails : List Task → ℕ → List Word → Mismatch → List Column → Type 0
SomeFails tasks processes words m tried =
    ((m.stop ≡ End) × (tried ≡ []) × Fails tasks processes words 0 m)
    ⊎ ((writes : ℕ) × IsTried tasks processes words 0 writes
    × (before : ℕ) × (before < writes) × FailsBehind tasks processes words before m
    × ((earlier : ℕ) → earlier < before → Passes tasks processes words earlier)
    × (tried ≡ tried_writes before))
