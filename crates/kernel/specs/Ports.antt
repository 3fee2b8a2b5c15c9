-- What the calls of an intake make of it.
use Rattle.std.specs.Option.{option_map}
use Rattle.std.specs.Prelude.{◌≡◌, ℕ, Option, Some}
use mathlib.Core.List.{IsPrefix}
use Rattle.model.specs.declared.types.operations.Answer.{Answer}
use Rattle.ports.specs.declared.intake.Intake.{Ghosts}
use Rattle.ports.specs.History.{SameNames, OthersStay, FitWith, gives, first_in}
use Rattle.history.specs.Processes.{World, process, last_answer}
use Rattle.kernel.specs.declared.class.OpClass.{OpClass}
use Rattle.kernel.specs.State.{class_of}

-- what the first operation that is known to wait for process p is to a kernel with so many inodes
abbrev pub first_waiting : {I N : Type 0} → Ghosts I N → ℕ → I → ℕ → Option OpClass
first_waiting intake inode_count i p =
    option_map (class_of inode_count) (first_in (intake.side i p).ahead)

-- it is the same, but for process p's side
pub record KeepsOthers {I N : Type 0} (intake : Ghosts I N) (p : ℕ) (old new : I) : Type 0 where
  pub names : SameNames (intake.name old) (intake.name new)
  pub others : OthersStay (intake.side old) (intake.side new) p

-- it was asked what waits for process p
pub record Asks {I N : Type 0} (intake : Ghosts I N) (p : ℕ) (old new : I) : Type 0 where
  pub keeps : KeepsOthers intake p old new
  pub prefix : IsPrefix (intake.side old p).ahead (intake.side new p).ahead

-- process p got the answer of its operation
pub record Gives {I N : Type 0} (intake : Ghosts I N) (w : World) (p : ℕ)
    (old new : I) : Type 0 where
  pub keeps : KeepsOthers intake p old new
  pub served : intake.process_count new ≡ intake.process_count old
  pub ahead : (intake.side new p).ahead ≡ (intake.side old p).ahead
  pub fits : (answer : Answer) → last_answer w (process w p).at ≡ Some answer
      → FitWith (intake.fits old) (intake.fits new) p (gives answer)
