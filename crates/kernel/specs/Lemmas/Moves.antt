-- Steps of a process, one after the other.
use Rattle.std.proofs.Common.{ℕ, ◌+◌, zero, suc, ◌≢◌, ◌<◌, ◌≤◌, refl, sym, subst, arith, add-one}
use Rattle.kernel.specs.Common.{busy_with, Form, form_of, left_of, MakesStep, One, process, State, Step, step_bound, Two}
use Rattle.blocks.specs.declared.disk.Disk as disk_trait
use Rattle.ports.specs.declared.herald.Herald as herald_trait
use Rattle.ports.specs.declared.intake.Intake as intake_trait
use Rattle.kernel.specs.Moves.{MakesSteps, Moves}

-- none yet
pub none_moved : {K : Type 0} (steps : Step → K → K → Type 0) (k : K) → Moves steps 0 k k
unfolding Moves
none_moved steps k = refl

moves_then : {K : Type 0} (steps : Step → K → K → Type 0) (n : ℕ) (k m next : K) → Moves steps n k m → steps Step.Moved m next → Moves steps (suc n) k next
unfolding Moves
moves_then steps zero k m next is made = (next, subst (λ o. steps Step.Moved o next) is made, refl)
moves_then steps (suc n) k m next moves made = (moves.0, moves.1, moves_then steps n moves.0 m next moves.2 made)

-- one step more that moves
pub one_moved : {K : Type 0} (steps : Step → K → K → Type 0) (n : ℕ) (k m next : K) → Moves steps n k m → steps Step.Moved m next → Moves steps (n + 1) k next
one_moved steps n k m next moves made = subst (λ count. Moves steps count k next) (sym (add-one n)) (moves_then steps n k m next moves made)

-- what each step keeps that moves, any number of them keep
pub moves_keep : {K : Type 0} (steps : Step → K → K → Type 0) (P : K → Type 0) → ((k m : K) → steps Step.Moved k m → P k → P m) → (n : ℕ) (k m : K) → Moves steps n k m → P k → P m
unfolding Moves
moves_keep steps P keeps zero k m is holds = subst P (sym is) holds
moves_keep steps P keeps (suc n) k m (mid, made, moves) holds = moves_keep steps P keeps n mid m moves (keeps k mid made holds)

some_bound : (form : Form) → 0 < step_bound form
some_bound One = omega arith
some_bound Two = omega arith

pub most_bound : (form : Form) → step_bound form ≤ 40000
most_bound One = omega arith
most_bound Two = omega arith

module _ {D N I M H : Type 0} (disk : disk_trait.Ghosts D N) (intake : intake_trait.Ghosts I M) (herald : herald_trait.Ghosts H) (p : ℕ) where
  -- each of them takes one
  moves_left : (n : ℕ) (k m : State D I H) → 0 < left_of disk.image k p → Moves (MakesStep disk intake herald p) n k m → n < left_of disk.image k p
  unfolding Moves
  moves_left zero k m some moves = some
  moves_left (suc n) k m some (mid, made, moves) =
      let one = made.progress.bound refl in
      omega (arith, (one.falls (busy_with (process k.world p).at _ k.store.volume.log some)), (moves_left n mid m one.some moves))

  -- so fewer of them move than an operation may have
  pub moves_few : (n : ℕ) (k m : State D I H) → Moves (MakesStep disk intake herald p) n k m → n < step_bound (form_of (disk.image k.opening))
  unfolding Moves
  moves_few zero k m moves = some_bound (form_of (disk.image k.opening))
  moves_few (suc n) k m (mid, made, moves) =
      let one = made.progress.bound refl in
      let rest = moves_left n mid m one.some moves in
      omega (arith, (subst (λ (o : D). left_of disk.image mid p < step_bound (form_of (disk.image o))) made.acts.opening one.few), rest)

  -- what any step keeps, all of them keep
  pub steps_keep : (P : State D I H → Type 0) → ((r : Step) (k m : State D I H) → MakesStep disk intake herald p r k m → P k → P m) → (r : Step) (k m : State D I H) → MakesSteps disk intake herald p r k m → P k → P m
  steps_keep P keeps r k m steps holds = keeps r steps.mid m steps.made (moves_keep (MakesStep disk intake herald p) P (keeps Step.Moved) steps.moved k steps.mid steps.moves holds)

  -- steps up to one that doesn't move
  pub stops : (n : ℕ) (r : Step) (k mid m : State D I H) → Moves (MakesStep disk intake herald p) n k mid → MakesStep disk intake herald p r mid m → r ≢ Step.Moved → MakesSteps disk intake herald p r k m
  stops n r k mid m moves made other = record { moved = n; mid = mid; moves = moves; few = moves_few n k mid moves; last = other; made = made }
