-- Turns whose steps are told, each as it was noted: what it was to do before it was made, and what
-- it came to.
use Rattle.std.specs.Prelude.{◌≡◌, ◌≢◌, ℕ, ◌-◌, Bool, false, ◌||◌, List, [], ◌∷◌, ◌++◌, flat_map, Option, Some, Result, Ok, Err}
use Rattle.std.specs.Io.KnownBytes.{Appends}
use Rattle.blocks.specs.declared.disk.Disk.{Ghosts}
use Rattle.blocks.specs.declared.faulty.FaultyDisk.{FaultyDisk}
use Rattle.blocks.specs.declared.faulty.Trap.{Trap}
use Rattle.model.specs.declared.types.operations.Step.{Step}
use Rattle.wal.specs.declared.types.DeviceFault.{DeviceFault}
use Rattle.inodes.specs.Deeds.{wanted_holder}
use Rattle.kernel.specs.Deeds.{next_deed}
use Rattle.scripts.specs.declared.schedule.Word.{Word}
use Rattle.scripts.specs.declared.schedule.Word.TheVariants as word
use Rattle.messages.specs.Deeds.{note_text}
use Rattle.messages.specs.Events.{event_line, is_last}
use Rattle.messages.specs.Output.{counts_text}
use Rattle.messages.specs.declared.deeds.Detail.{Detail}
use Rattle.messages.specs.declared.deeds.StepNote.{StepNote}
use Rattle.messages.specs.declared.events.Event.{Event}
use Rattle.json_lines.specs.Counts.{counts_object}
use Rattle.json_lines.specs.Events.{event_object}
use Rattle.json_lines.specs.Steps.{step_objects}
use Rattle.json_lines.specs.declared.written.Written.{Written}
use Rattle.player.specs.Stepping.{BreaksOff, MakesRingedStep, MakesTurn, MakesTurnOf, Ringed, end_text, kernel_fault}
use Rattle.player.specs.Turns.{Turns}
use Rattle.player.specs.declared.noting.Base.{Base}
use Rattle.player.specs.declared.player.Player.{Player}
use Rattle.player.specs.declared.refusals.ReplayRefusal.{ReplayRefusal}
use Rattle.player.specs.declared.refusals.ReplayRefusal.TheVariants.{Disk, Output}

-- what a disk had counted at first
abbrev pub base_of : {D N : Type 0} → Ghosts D N → D → Base
base_of disk d = record { writes = disk.write_count d; syncs = disk.sync_count d }

-- What is noted of a step of process p that answered r and made m of k: what was told of it before,
-- and behind it the writes and the syncs that the disk counts, over those that it had counted at
-- first, and the groups that were opened, and those that are committed.
abbrev pub note_of : {D N : Type 0} → Ghosts D N → Base → ℕ → Step → Ringed D → Ringed D → StepNote
note_of disk base p r k m = record {
  process = p;
  deed = next_deed k p;
  holder = wanted_holder k.store p;
  step = r;
  writes = disk.write_count m.store.volume.device - base.writes;
  syncs = disk.sync_count m.store.volume.device - base.syncs;
  opened = m.store.volume.log.opened;
  committed = m.store.volume.log.committed;
}

-- these are the notes of steps that moved, which make m of k
abbrev pub NotesMoves : {D N : Type 0} → Ghosts D N → Base → ℕ → List StepNote → Ringed D → Ringed D
    → Type 0
NotesMoves disk base p [] k m = m ≡ k
NotesMoves {D} disk base p (note ∷ notes) k m =
    (mid : Ringed D) × MakesRingedStep disk p Step.Moved k mid
    × (note ≡ note_of disk base p Step.Moved k mid) × NotesMoves disk base p notes mid m

-- this is the note of one step
pub record NotesOne {D N : Type 0} (disk : Ghosts D N) (base : Base) (p : ℕ)
    (notes : List StepNote) (r : Step) (k m : Ringed D) : Type 0 where
  pub made : MakesRingedStep disk p r k m
  pub note : notes ≡ note_of disk base p r k m ∷ []

-- these are the notes of steps up to the first that doesn't move
pub record NotesAll {D N : Type 0} (disk : Ghosts D N) (base : Base) (p : ℕ)
    (notes : List StepNote) (r : Step) (k m : Ringed D) : Type 0 where
  pub before : List StepNote
  pub mid : Ringed D
  pub moves : NotesMoves disk base p before k mid
  pub made : MakesRingedStep disk p r mid m
  pub last : r ≢ Step.Moved
  pub all : notes ≡ before ++ note_of disk base p r mid m ∷ []

-- a turn, and the notes of its steps
pub record Told : Type 0 where
  pub event : Event
  pub notes : List StepNote

-- the turn of a word makes new of old, comes to the event, and its steps were noted so
abbrev pub TellsTurn : {D N : Type 0} → Ghosts (FaultyDisk D) (N × Trap) → Base → ℕ → Word → Told
    → Player D N → Player D N → Type 0
TellsTurn disk base stop (word.Step p) told old new =
    MakesTurnOf (NotesOne disk base p told.notes) stop p told.event old new
TellsTurn disk base stop (word.Steps p) told old new =
    MakesTurnOf (NotesAll disk base p told.notes) stop p told.event old new
TellsTurn disk base stop word.Shutdown told old new =
    (told.notes ≡ []) × MakesTurn disk stop word.Shutdown told.event old new

-- whether it is the last that can be made
abbrev pub is_last_told : Told → Bool
is_last_told told = is_last told.event

-- the turns of these words make new of old, and were noted so
abbrev pub TellsTurns : {D N : Type 0} → Ghosts (FaultyDisk D) (N × Trap) → Base → ℕ → List Word
    → List Told → Player D N → Player D N → Type 0
TellsTurns disk base stop words tolds old new =
    Turns is_last_told (TellsTurn disk base stop) words tolds old new

-- ---- who hears of turns, and what is printed of them

-- the turn of a word makes new of old and comes to the event, and who hears of it, and of its steps
-- as they were noted, was t, and is u then
pub record HearsTurn {D N T : Type 0} (disk : Ghosts (FaultyDisk D) (N × Trap)) (base : Base)
    (stop : ℕ) (hears : Word → Told → T → T → Type 0) (w : Word) (event : Event)
    (old new : Player D N) (t u : T) : Type 0 where
  pub notes : List StepNote
  pub turn : TellsTurn disk base stop w (record { event = event; notes = notes }) old new
  pub heard : hears w (record { event = event; notes = notes }) t u

-- some turns of these words were told as P says, and who heard of each was t, and is u then
pub record HearsTurns {T : Type 0} (hears : Word → Told → T → T → Type 0) (words : List Word)
    (t u : T) (P : List Told → Type 0) : Type 0 where
  pub tolds : List Told
  pub told : P tolds
  pub heard : Turns is_last_told hears words tolds t u

-- what is printed of a run: of a turn, over an image of n inode numbers; and at the end, of how many
-- blocks were written, and how many groups are committed
pub record Saying : Type 0 where
  pub of_turn : ℕ → Told → List ℕ
  pub of_end : ℕ → ℕ → List ℕ

-- the line of a turn, and below it what is told of its steps, over an image of n inode numbers
abbrev pub told_text : Detail → ℕ → Told → List ℕ
told_text detail n told = event_line told.event ++ flat_map (note_text detail n) told.notes

-- lines of text
abbrev pub in_lines : Detail → Saying
in_lines detail = record { of_turn = told_text detail; of_end = counts_text }

-- objects of JSON: those of a turn's steps, in a run of these writes, then that of the turn, and that of
-- the counts
abbrev pub in_objects : List Written → Saying
in_objects written = record {
  of_turn = λ n told. step_objects n written told.notes ++ event_object told.event;
  of_end = counts_object;
}

-- the writes, where memory for them was had
abbrev pub writes_in : {V E : Type 0} → Result V E → (V → List Written) → List Written
writes_in (Ok written) items_of = items_of written
writes_in (Err refused) items_of = []

-- whether something is told of steps
abbrev pub tells_steps : Detail → Bool
tells_steps detail = detail.steps || detail.writes

abbrev pub no_detail : Detail
no_detail = record { steps = false; writes = false }

-- The turns of these words made new of old, and were noted so; printed is of each what `says` has.
pub record PlaysTo {D N : Type 0} (disk : Ghosts (FaultyDisk D) (N × Trap)) (base : Base)
    (stop : ℕ) (says : Told → List ℕ) (words : List Word) (old new : Player D N)
    (text printed : Option (List ℕ)) (tolds : List Told) : Type 0 where
  pub makes : TellsTurns disk base stop words tolds old new
  pub lines : Appends text printed (flat_map says tolds)

-- The same, over an image of as many inode numbers as the kernel's, and behind it what `says` has of
-- the counts of the kernel. This fault is told of it.
pub record RunsTo {D N : Type 0} (disk : Ghosts (FaultyDisk D) (N × Trap)) (base : Base)
    (stop : ℕ) (says : Saying) (words : List Word) (old new : Player D N)
    (fault : Option DeviceFault) (text printed : Option (List ℕ)) (tolds : List Told)
    : Type 0 where
  pub makes : TellsTurns disk base stop words tolds old new
  pub tells : kernel_fault new.kernel ≡ fault
  pub lines : Appends text printed (flat_map (says.of_turn old.kernel.store.table.inode_count) tolds
      ++ end_text disk base.writes says.of_end new.kernel)

-- What a run that was refused came to: where the disk failed, all was printed; where the output
-- did, turns were made up to then.
abbrev pub IsBrokenOff : {D N : Type 0} → Ghosts (FaultyDisk D) (N × Trap) → Base → ℕ → Saying
    → List Word → Player D N → Player D N → Option (List ℕ) → Option (List ℕ) → ReplayRefusal
    → Type 0
IsBrokenOff disk base stop says words old new text printed (Disk fault) =
    (tolds : List Told)
    × RunsTo disk base stop says words old new (Some fault) text printed tolds
IsBrokenOff disk base stop says words old new text printed Output =
    BreaksOff disk stop words old new
IsBrokenOff disk base stop says words old new text printed r = ⊥
