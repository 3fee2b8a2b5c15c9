-- Turns that go round all processes.
use Rattle.std.specs.Prelude.{◌≡◌, ◌<◌, ◌≤◌, ℕ, zero, suc, ◌+◌, ◌++◌, IsTrue, List, [], ◌∷◌, length, None}
use Rattle.blocks.specs.Disk.{Image}
use Rattle.std.specs.List.{list_all, All, Contains}
use Rattle.blocks.specs.declared.disk.Disk as disk_trait
use Rattle.ports.specs.declared.herald.Herald as herald_trait
use Rattle.ports.specs.declared.intake.Intake as intake_trait
use Rattle.history.specs.Processes.{World, process}
use Rattle.kernel.specs.declared.types.Turn.{Turn}
use Rattle.kernel.specs.declared.types.Turn.TheVariants.{Proc}
use Rattle.kernel.specs.Awake.{AreIdle}
use Rattle.kernel.specs.Bound.{left_of}
use Rattle.kernel.specs.Known.{Known}
use Rattle.kernel.specs.Runs.{Session, is_turn_of}
use Rattle.kernel.specs.State.{State}

-- each of so many processes has a turn among these
pub record IsRound (count : ℕ) (ts : List Turn) : Type 0 where
  pub turns : IsTrue (list_all (is_turn_of count) ts)
  pub each : (p : ℕ) → p < count → Contains ts (Proc p)

-- the turns of rounds, one round after the other
abbrev pub turns_of : List (List Turn) → List Turn
turns_of [] = []
turns_of (ts ∷ rounds) = ts ++ turns_of rounds

-- the sum of the first values of a function, so many of them
abbrev pub sum_below : (ℕ → ℕ) → ℕ → ℕ
sum_below f zero = 0
sum_below f (suc count) = sum_below f count + f count

-- the steps that are left in all
abbrev pub all_left : {D I H : Type 0} → (D → Image) → State D I H → ℕ
all_left image k = sum_below (left_of image k) (length k.world.processes)

-- no operation was begun
abbrev pub BeginsNone : World → World → Type 0
BeginsNone w z = (p : ℕ) → (process z p).begun ≡ (process w p).begun

-- ROUNDS END ALL: whatever turns go round all processes, as many times as steps are left in all, end
-- every operation that is under way, where none begins meanwhile and the disk doesn't fail.
abbrev pub RoundsEndAll : {D N I M H : Type 0} → disk_trait.Ghosts D N
    → intake_trait.Ghosts I M → herald_trait.Ghosts H → Type 0
RoundsEndAll {D} {N} {I} {M} {H} disk intake herald =
    (rounds : List (List Turn)) (k m : State D I H) → Known disk intake herald k →
    All (IsRound (length k.world.processes)) rounds → all_left disk.image k ≤ length rounds →
    Session disk intake herald (turns_of rounds) k m → BeginsNone k.world m.world →
    m.store.volume.fault ≡ None → AreIdle m.world
