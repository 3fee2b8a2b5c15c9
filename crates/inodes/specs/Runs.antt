-- Runs: the steps of one task, between which the other processes go on.
use Rattle.std.specs.Prelude.{◌≡◌, ◌≢◌, ◌<◌, ℕ, IsTrue, IsSome, List, [], ◌∷◌, Option, Some}
use Rattle.std.specs.List.{Any}
use Rattle.blocks.specs.Disk.{Image}
use Rattle.blocks.specs.declared.disk.Disk.{Ghosts}
use Rattle.model.specs.declared.types.operations.Op.{Op}
use Rattle.model.specs.declared.types.operations.Op.TheVariants.{Create}
use Rattle.model.specs.declared.types.operations.Reply.{Reply}
use Rattle.model.specs.declared.types.operations.Reply.TheVariants.{Made, NoInode}
use Rattle.model.specs.declared.types.operations.TaskProgress.{TaskProgress}
use Rattle.model.specs.Gathered.{GatheredBytes}
use Rattle.model.specs.Journal.{is_number}
use Rattle.model.specs.Layout.{inode_block, inode_of}
use Rattle.wal.specs.declared.types.Committed.{Committed}
use Rattle.wal.specs.Machine.{LogState}
use Rattle.inodes.specs.declared.tasks.Stage.{Stage}
use Rattle.inodes.specs.Ialloc.{SearchState}
use Rattle.inodes.specs.Tasks.{task}
use Rattle.inodes.specs.Store.{StoreState, current_of, first_stage, with_begun, with_log, with_look}
use Rattle.inodes.specs.Steps.{Steps, Commits}

-- a step that a task made: the store before it, its answer, and the store after it
pub record StepMade (D : Type 0) : Type 0 where
  pub before : StoreState D
  pub answer : TaskProgress
  pub after : StoreState D

-- Between two steps of process p's task anything may happen to the store, but to that task and to
-- the count of numbers.
pub record LeavesTask {D : Type 0} (old : StoreState D) (p : ℕ) (new : StoreState D) : Type 0 where
  pub own : task new.tasks p ≡ task old.tasks p
  pub numbers : new.table.inode_count ≡ old.table.inode_count

-- these are the steps of process p's task from store s on, in their order
abbrev pub IsRun : {D N : Type 0} → Ghosts D N → ℕ → Op → StoreState D → List (StepMade D) → Type 0
IsRun disk p op s [] = Unit {0}
IsRun disk p op s (step ∷ rest) =
    LeavesTask s p step.before × Steps disk step.before p op step.answer step.after
    × IsRun disk p op step.after rest

-- the last of them gives that answer
abbrev pub EndsWith : {D : Type 0} → List (StepMade D) → TaskProgress → Type 0
EndsWith [] r = ⊥
EndsWith (step ∷ []) r = step.answer ≡ r
EndsWith (step ∷ next ∷ rest) r = EndsWith (next ∷ rest) r

-- THE RUN OF A SEARCH: a creation's steps, from its first stage to the turn that gives its reply
pub record IsSearchRun {D N : Type 0} (disk : Ghosts D N) (p kind : ℕ) (s : StoreState D)
    (steps : List (StepMade D)) (reply : Reply) : Type 0 where
  pub begins : (task s.tasks p).stage ≡ first_stage (Create kind) s.table.inode_count
  pub runs : IsRun disk p (Create kind) s steps
  pub ends : EndsWith steps (TaskProgress.Turned (Some reply))

-- a step of process p that looks at number i's block, and the current image has the number taken
pub record SeesTaken {D : Type 0} (image : D → Image) (p i : ℕ) (step : StepMade D) : Type 0 where
  pub search : SearchState
  pub stands : (task step.before.tasks p).stage ≡ Stage.Creating search
  pub got : IsSome search.slot
  pub looks : search.block ≡ inode_block i
  pub taken : (inode_of (current_of image step.before.volume) i).kind ≢ 0

-- one of the steps saw the number taken
abbrev pub WasSeenTaken : {D : Type 0} → (D → Image) → ℕ → List (StepMade D) → ℕ → Type 0
WasSeenTaken image p steps i = Any (SeesTaken image p i) steps

-- THE CAUSE OF NoInode: the run saw taken each number that operations may name
abbrev pub NoInodeSawAll : {D N : Type 0} → Ghosts D N → Type 0
NoInodeSawAll {D} disk = (s : StoreState D) (p kind : ℕ) (steps : List (StepMade D)) →
    IsSearchRun disk p kind s steps NoInode →
    (i : ℕ) → IsTrue (is_number s.table.inode_count i) → WasSeenTaken disk.image p steps i

-- the run that made number i saw each lower one taken
abbrev pub MadeSawLower : {D N : Type 0} → Ghosts D N → Type 0
MadeSawLower {D} disk = (s : StoreState D) (p kind i : ℕ) (steps : List (StepMade D)) →
    IsSearchRun disk p kind s steps (Made i) →
    (j : ℕ) → IsTrue (is_number s.table.inode_count j) → j < i → WasSeenTaken disk.image p steps j

-- a step of another process leaves a task
abbrev pub StepsLeaveOthers : {D N : Type 0} → Ghosts D N → Type 0
StepsLeaveOthers {D} disk = (old new : StoreState D) (p q : ℕ) (op : Op) (r : TaskProgress) →
    q ≢ p → Steps disk old q op r new → LeavesTask old p new

-- so does a commit's write
abbrev pub CommitsLeaveAll : {D N : Type 0} → Ghosts D N → Type 0
CommitsLeaveAll {D} disk = (old new : StoreState D) (p : ℕ) (r : Committed) →
    Commits disk old r new → LeavesTask old p new

-- so do the beginnings of another's operation, and the end of anyone's
abbrev pub BoundsLeaveOthers : {D : Type 0} → StoreState D → ℕ → Type 0
BoundsLeaveOthers old p =
    ((q : ℕ) (op : Op) → q ≢ p → LeavesTask old p (with_begun old q op))
    × ((q : ℕ) (op : Op) (room : Option GatheredBytes) → q ≢ p
    → LeavesTask old p (with_look old q op room))
    × ((log : LogState) → LeavesTask old p (with_log old log))
