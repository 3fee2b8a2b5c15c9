-- How many steps an operation has left at most.
use Rattle.std.specs.Prelude.{◌≡◌, ◌≢◌, ◌<◌, ◌≤◌, ℕ, true}
use Rattle.blocks.specs.Disk.{Image}
use Rattle.model.specs.declared.types.image.Form.{Form}
use Rattle.model.specs.declared.types.image.Form.TheVariants.{One, Two}
use Rattle.model.specs.Layout.{form_of}
use Rattle.inodes.specs.Stages.{steps_left}
use Rattle.inodes.specs.Store.{StoreState, current_of}
use Rattle.inodes.specs.Tasks.{task}
use Rattle.history.specs.Bound.{all_steps_left, is_busy_at}
use Rattle.history.specs.Processes.{World, process}
use Rattle.kernel.specs.State.{State}

-- those that a process's task has, over the store's current image
abbrev pub task_left : {D : Type 0} → (D → Image) → StoreState D → ℕ → ℕ
task_left image s q =
    steps_left (current_of image s.volume) (task s.tasks q).stage s.table.inode_count

-- those of a process: of its task, of its end, and of its commit
abbrev pub left_in : {D : Type 0} → (D → Image) → StoreState D → World → ℕ → ℕ
left_in image s w q = all_steps_left (process w q).at (task_left image s q) s.volume.log

abbrev pub left_of : {D I H : Type 0} → (D → Image) → State D I H → ℕ → ℕ
left_of image k q = left_in image k.store k.world q

-- more steps than an operation has, by the form of the image
abbrev pub step_bound : Form → ℕ
step_bound One = 2000
step_bound Two = 40000

-- A step that moved process p took one of them, or began an operation that has fewer than that
-- bound. Some are left: the operation goes on.
pub record TakesOne {D I H : Type 0} (image : D → Image) (k : State D I H) (p : ℕ)
    (m : State D I H) : Type 0 where
  pub falls : is_busy_at (process k.world p).at ≡ true → left_of image m p < left_of image k p
  pub few : left_of image m p < step_bound (form_of (image m.opening))
  pub some : 0 < left_of image m p

-- a step of process p gives no other process more of them
abbrev pub GivesNone : {D I H : Type 0} → (D → Image) → State D I H → ℕ → State D I H → Type 0
GivesNone image k p m = (q : ℕ) → q ≢ p → left_of image m q ≤ left_of image k q
