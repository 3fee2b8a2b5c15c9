-- What the beginning of an operation that waits makes of a kernel.
use Rattle.std.specs.Prelude.{◌≡◌, ◌∷◌, ℕ, Option, Some, None, true}
use Rattle.model.specs.declared.types.operations.Op.{Op}
use Rattle.model.specs.declared.types.operations.Why.{Why}
use Rattle.wal.specs.Machine.{LogState, begin_cause}
use Rattle.ports.specs.declared.intake.Intake.{Ghosts}
use Rattle.ports.specs.History.{AllFit, FitWith, takes}
use Rattle.history.specs.Processes.{World, with_more_room}
use Rattle.kernel.specs.declared.beginning.Rooms.{Rooms}
use Rattle.kernel.specs.declared.class.OpClass.{OpClass}
use Rattle.model.specs.declared.types.operations.Step.{Step}
use Rattle.kernel.specs.Next.{BeginsWith, IsNotTaken}
use Rattle.kernel.specs.Ports.{KeepsOthers}
use Rattle.kernel.specs.State.{State, room_for}

-- why the log keeps out what waits: only what changes files is its business
abbrev pub kept_out : OpClass → LogState → Option Why
kept_out OpClass.Change l = begin_cause l
kept_out (OpClass.Look count) l = None
kept_out OpClass.Refused l = None

-- how many bytes may be read of what waits
abbrev pub count_of : OpClass → Option ℕ
count_of OpClass.Change = None
count_of (OpClass.Look count) = count
count_of OpClass.Refused = None

-- room for so many bytes that are read, and as much for their answer
abbrev pub rooms_for : Option ℕ → Rooms
rooms_for count = record { read = room_for count; answer = room_for count }

-- process p's first operation was taken, with all the room that it needs
pub record TakesFirst {I N : Type 0} (intake : Ghosts I N) (what : OpClass) (l : LogState) (p : ℕ)
    (op : Op) (rooms : Rooms) (old new : I) (w z : World) : Type 0 where
  pub sides : KeepsOthers intake p old new
  pub served : intake.process_count new ≡ intake.process_count old
  pub ahead : (intake.side old p).ahead ≡ op ∷ (intake.side new p).ahead
  pub room : (intake.side new p).has_room ≡ true
  pub fits : FitWith (intake.fits old) (intake.fits new) p (takes (Some op))
  pub free : kept_out what l ≡ None
  pub rooms_are : rooms ≡ rooms_for (count_of what)
  pub world : z ≡ with_more_room w

-- it was left, for the cause that the step says
pub record LeavesFirst {I N : Type 0} (intake : Ghosts I N) (what : OpClass) (l : LogState) (p : ℕ)
    (r : Step) (old new : I) (w z : World) : Type 0 where
  pub sides : KeepsOthers intake p old new
  pub served : intake.process_count new ≡ intake.process_count old
  pub ahead : (intake.side new p).ahead ≡ (intake.side old p).ahead
  pub room : (intake.side old p).has_room ≡ true → (intake.side new p).has_room ≡ true
  pub fits : AllFit (intake.fits old) (intake.fits new)
  pub why : IsNotTaken (Some what) l (intake.side new p).has_room r
  pub world : z ≡ w

-- what waits first for process p is of this kind, if there is one; it begins, or has to wait
pub record Begins {D I H N : Type 0} (intake : Ghosts I N) (what : Option OpClass) (p : ℕ)
    (r : Step) (k m : State D I H) : Type 0 where
  pub next : BeginsWith what k.store k.world p (intake.side k.intake p).ahead
      (intake.side m.intake p) r m.store m.world
  pub sides : KeepsOthers intake p k.intake m.intake
  pub herald : m.herald ≡ k.herald
  pub opening : m.opening ≡ k.opening
