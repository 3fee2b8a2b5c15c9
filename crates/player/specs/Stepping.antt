-- What steps and turns make of a kernel, and of the operations that wait to be handed in.
use Rattle.std.specs.Prelude.{◌≡◌, ⊤, ℕ, ◌-◌, Bool, true, false, length, List, [], ◌∷◌, ◌++◌, set, slice_get, take, Option, Some, None}
use Rattle.std.specs.Io.KnownBytes.{Appends}
use mathlib.Core.List.{IsPrefix}
use Rattle.wal.specs.declared.types.DeviceFault.{DeviceFault}
use Rattle.blocks.specs.declared.disk.Disk.{Ghosts}
use Rattle.blocks.specs.declared.faulty.Trap.{Trap}
use Rattle.blocks.specs.FaultyDisk.{has_fired}
use Rattle.blocks.specs.declared.faulty.FaultyDisk.{FaultyDisk}
use Rattle.model.specs.declared.types.operations.Answer.{Answer}
use Rattle.ports.specs.declared.herald.Herald.{Ghosts as Heralds}
use Rattle.ports.specs.declared.intake.Intake.{Ghosts as Intakes}
use Rattle.rings.specs.Boards.{HasHeeded, HasPublished, WatchOf, asked, heard, kept_board, published}
use Rattle.rings.specs.declared.herald.BoardHerald.{BoardHerald}
use Rattle.rings.specs.Callers.{Reconciles, intake_count, intake_names, intake_side, polled, submitted, unpolled, IntakeFits}
use Rattle.rings.specs.declared.caller.Caller.{Caller}
use Rattle.rings.specs.declared.intake.RingIntake.{RingIntake}
use Rattle.rings.specs.declared.name.Names.{Names}
use Rattle.scripts.specs.declared.schedule.Word.{Word}
use Rattle.scripts.specs.declared.schedule.Word.TheVariants as word
use Rattle.clients.specs.Backlogs.{backlog_of}
use Rattle.clients.specs.Feeders.{HasHandedIn, HaveSourceRings, feeder_ops}
use Rattle.clients.specs.declared.feeder.Feeder.{Feeder}
use Rattle.model.specs.declared.types.operations.Step.{Step}
use Rattle.model.specs.declared.types.operations.Step.TheVariants as step
use Rattle.model.specs.Layout.{inode_count_of}
use Rattle.model.specs.declared.types.operations.Op.{Op}
use Rattle.history.specs.Own.{KeepsFirst, KeepsOwn}
use Rattle.kernel.specs.State.{State}
use Rattle.kernel.specs.Steps.{MakesStep}
use Rattle.kernel.specs.Moves.{MakesSteps}
use Rattle.messages.specs.declared.events.Event.{Event}
use Rattle.messages.specs.declared.events.Event.TheVariants.{Shut, Stepped}
use Rattle.player.specs.declared.player.Player.{Player}
use Rattle.player.specs.declared.refusals.ReplayRefusal.{ReplayRefusal}
use Rattle.player.specs.declared.refusals.ReplayRefusal.TheVariants.{Disk, Output}
use Rattle.messages.specs.Events.{is_last}
use Rattle.player.specs.Turns.{Turns, event_of, told_fault}

-- a kernel over rings and a board
abbrev pub Ringed : Type 0 → Type 0
Ringed D = State D RingIntake BoardHerald

-- what contracts see of rings
abbrev pub ring_ends : Intakes RingIntake (Option Names)
ring_ends = record {
  name = intake_names;
  process_count = intake_count;
  side = intake_side;
  fits = IntakeFits;
}

-- and of a board's herald
abbrev pub board_herald : Heralds BoardHerald
board_herald = record {
  board = λ h. kept_board h.keeper;
  count = λ h. published h.keeper;
  told = λ h. heard h.keeper;
  asks = λ old new. HasHeeded old.keeper new.keeper;
  hears = λ old new. HasPublished old.keeper new.keeper;
}

abbrev pub MakesRingedStep : {D N : Type 0} → Ghosts D N → ℕ → Step → Ringed D → Ringed D → Type 0
MakesRingedStep disk p r k m = MakesStep disk ring_ends board_herald p r k m

-- nothing of the kernel changed but its ends of the rings
abbrev pub HasSame : {D : Type 0} → Ringed D → Ringed D → Type 0
HasSame k m = m ≡ record k { intake = m.intake }

-- both ends of the rings of process p met, and no other feeder changed
pub record ReconcilesAt (p : ℕ) (i : RingIntake) (b : List Feeder) (j : RingIntake) (c : List Feeder)
    : Type 0 where
  pub feeder : Feeder
  pub met : Caller
  pub is : slice_get b p ≡ Some feeder
  pub set : c ≡ set b p (record feeder { caller = met })
  pub reconciles : Reconciles i p feeder.caller j met

-- Both ends of the rings of process p met, and then its feeder handed in what its ring takes. No
-- other feeder changed, and nothing of the kernel but what it knows of that ring.
pub record HandsIn {D : Type 0} (p : ℕ) (k : Ringed D) (b : List Feeder) (m : Ringed D)
    (c : List Feeder) : Type 0 where
  pub feeder : Feeder
  pub met : Caller
  pub now : Feeder
  pub is : slice_get b p ≡ Some feeder
  pub set : c ≡ set b p now
  pub reconciles : Reconciles k.intake p feeder.caller m.intake met
  pub ops : feeder_ops now ≡ submitted met ++ backlog_of feeder.backlog
  pub polled : polled now.caller ≡ polled met
  pub all : HasHandedIn now
  pub same : HasSame k m

-- the oldest answer of those that a caller knew was polled, if there was one
abbrev pub TakesOldest : Option Answer → Caller → Caller → Type 0
TakesOldest None old new = (polled new ≡ polled old) × (unpolled old ≡ [])
TakesOldest (Some a) old new = (polled new ≡ polled old ++ a ∷ [])
    × IsPrefix (unpolled old) (a ∷ unpolled new)

-- Both ends of the rings of process p met, so that its caller knew all answers that were given, and
-- then it polled the oldest. No other feeder changed, and nothing of the kernel but what it knows of
-- that ring.
pub record Polls {D : Type 0} (p : ℕ) (answer : Option Answer) (k : Ringed D) (b : List Feeder)
    (m : Ringed D) (c : List Feeder) : Type 0 where
  pub feeder : Feeder
  pub met : Caller
  pub now : Feeder
  pub is : slice_get b p ≡ Some feeder
  pub set : c ≡ set b p now
  pub reconciles : Reconciles k.intake p feeder.caller m.intake met
  pub takes : TakesOldest answer met now.caller
  pub untouched : (submitted now.caller ≡ submitted met) × (now.backlog ≡ feeder.backlog)
  pub same : HasSame k m

-- the watch is of the player's board, and each process has a feeder, of its own rings
pub record IsSeated {D N : Type 0} (player : Player D N) : Type 0 where
  pub watched : WatchOf player.board.now player.watch
  pub ringed : HaveSourceRings (intake_names player.kernel.intake) player.feeders.items
  pub many : length player.feeders.items ≡ length player.kernel.world.processes

-- each feeder has these operations in all
abbrev pub HaveOps : (ℕ → List Op) → List Feeder → Type 0
HaveOps ops ss = (p : ℕ) (s : Feeder) → slice_get ss p ≡ Some s → feeder_ops s ≡ ops p

-- each feeder has the operations that it had
abbrev pub KeepOps : List Feeder → List Feeder → Type 0
KeepOps old new = (ops : ℕ → List Op) → HaveOps ops old → HaveOps ops new

-- what is kept of process p is a beginning of the changing operations of its feeder
abbrev pub KeepsOfSource : {D N : Type 0} → Ghosts D N → ℕ → Ringed D → List Feeder → Type 0
KeepsOfSource disk p k ss = (ops : ℕ → List Op) → HaveOps ops ss
    → KeepsFirst (inode_count_of (disk.image k.opening)) k.world.journal.list p (ops p)

-- the same of the first processes
abbrev pub KeepsOfFeeders : {D N : Type 0} → Ghosts D N → Ringed D → ℕ → List Feeder → Type 0
KeepsOfFeeders disk k processes ss = (ops : ℕ → List Op) → HaveOps ops ss
    → KeepsOwn (inode_count_of (disk.image k.opening)) k.world.journal.list processes ops

-- it still has its board and its watch
abbrev pub HasItsWatch : {D N : Type 0} → Player D N → Player D N → Type 0
HasItsWatch old new = (new.board ≡ old.board) × (new.watch ≡ old.watch)

-- The turn of process p: its operations are handed in, its steps are made, its oldest answer is
-- polled, and the event tells what they came to.
pub record MakesTurnOf {D N : Type 0}
    (makes : Step → Ringed (FaultyDisk D) → Ringed (FaultyDisk D) → Type 0) (stop p : ℕ)
    (event : Event) (old new : Player D N) : Type 0 where
  pub handed : Ringed (FaultyDisk D)
  pub stepped : Ringed (FaultyDisk D)
  pub feeders : List Feeder
  pub answer : Step
  pub polled : Option Answer
  pub hands_in : HandsIn p old.kernel old.feeders.items handed feeders
  pub steps : makes answer handed stepped
  pub polls : Polls p polled stepped feeders new.kernel new.feeders.items
  pub tells : event ≡ event_of (has_fired stepped.store.volume.device) stop p answer polled
  pub watch : HasItsWatch old new

-- the turn of a word, where that write is stopped, makes new of old, and comes to the event; a
-- shutdown is asked for by the watch, and the next beginning hears of it
abbrev pub MakesTurn : {D N : Type 0} → Ghosts (FaultyDisk D) (N × Trap) → ℕ → Word → Event
    → Player D N → Player D N → Type 0
MakesTurn disk stop (word.Step p) event old new =
    MakesTurnOf (MakesRingedStep disk p) stop p event old new
MakesTurn disk stop (word.Steps p) event old new =
    MakesTurnOf (MakesSteps disk ring_ends board_herald p) stop p event old new
MakesTurn disk stop word.Shutdown event old new =
    (event ≡ Shut) × (asked new.watch ≡ true) × (new.kernel ≡ old.kernel)
    × (new.feeders ≡ old.feeders)

-- the turns of these words make new of old, and come to these events
abbrev pub MakesTurns : {D N : Type 0} → Ghosts (FaultyDisk D) (N × Trap) → ℕ → List Word
    → List Event → Player D N → Player D N → Type 0
MakesTurns disk stop words events old new =
    Turns is_last (MakesTurn disk stop) words events old new

-- a step was refused memory, and nothing else came of its turn
abbrev pub is_refused : Event → Bool
is_refused (Stepped p step.NoMemory) = true
is_refused event = false

-- a turn that came to something else
abbrev pub MakesGrantedTurn : {D N : Type 0} → Ghosts (FaultyDisk D) (N × Trap) → ℕ → Word → Event
    → Player D N → Player D N → Type 0
MakesGrantedTurn disk stop word event old new =
    MakesTurn disk stop word event old new × (is_refused event ≡ false)

-- the turns of these words make new of old, and come to these events: none to refused memory
abbrev pub MakesGrantedTurns : {D N : Type 0} → Ghosts (FaultyDisk D) (N × Trap) → ℕ → List Word
    → List Event → Player D N → Player D N → Type 0
MakesGrantedTurns disk stop words events old new =
    Turns is_last (MakesGrantedTurn disk stop) words events old new

-- the turns of the first of these words made new of old
pub record BreaksOff {D N : Type 0} (disk : Ghosts (FaultyDisk D) (N × Trap)) (stop : ℕ)
    (words : List Word) (old new : Player D N) : Type 0 where
  pub count : ℕ
  pub events : List Event
  pub makes : MakesTurns disk stop (take count words) events old new

-- what `says` has of the counts of a kernel, of writes over a disk that had counted `base` of them
-- before
abbrev pub end_text : {D N : Type 0} → Ghosts D N → ℕ → (ℕ → ℕ → List ℕ) → Ringed D → List ℕ
end_text disk base says k =
    says (disk.write_count k.store.volume.device - base) k.store.volume.log.committed

-- the fault that is told of a kernel's disk
abbrev pub kernel_fault : {D : Type 0} → Ringed (FaultyDisk D) → Option DeviceFault
kernel_fault k = told_fault (has_fired k.store.volume.device) k.store.volume.fault

-- its counts were printed, as `says` has them, and this fault is told of it
abbrev pub IsClosed : {D N : Type 0} → Ghosts (FaultyDisk D) N → ℕ → (ℕ → ℕ → List ℕ)
    → Ringed (FaultyDisk D) → Option DeviceFault → Option (List ℕ) → Option (List ℕ) → Type 0
IsClosed disk base says k fault text printed =
    (kernel_fault k ≡ fault) × Appends text printed (end_text disk base says k)

-- the same where that was refused: a fault is told, or the output failed
abbrev pub IsNotClosed : {D N : Type 0} → Ghosts (FaultyDisk D) N → ℕ → (ℕ → ℕ → List ℕ)
    → Ringed (FaultyDisk D) → Option (List ℕ) → Option (List ℕ) → ReplayRefusal → Type 0
IsNotClosed disk base says k text printed (Disk fault) =
    IsClosed disk base says k (Some fault) text printed
IsNotClosed disk base says k text printed Output = ⊤
IsNotClosed disk base says k text printed r = ⊥
