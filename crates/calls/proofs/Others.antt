-- A step of a process leaves the others as they are, and their tasks; and no step shuts a kernel.
use Rattle.std.proofs.Common.{◌≡◌, ◌≢◌, ◌∙◌, ℕ, zero, suc, Bool, false, List, length, set, Option, Some, None, refl, sym, ap, inl, inr, ⊎_elim, length-set}
use Rattle.std.specs.Option.{option_map}
use Rattle.std.proofs.lemmas.List.{get_or-set_other, set-get_or}
use Rattle.blocks.specs.declared.disk.Disk.{Ghosts}
use Rattle.wal.specs.Machine.{end_answer}
use Rattle.wal.specs.declared.types.Committed.{Committed}
use Rattle.wal.specs.declared.types.Committed.TheVariants as committed
use Rattle.wal.specs.declared.types.DeviceFault.{DeviceFault}
use Rattle.wal.specs.declared.types.Ended.{Ended}
use Rattle.wal.specs.declared.types.Ended.TheVariants as ended_as
use Rattle.model.specs.declared.types.operations.Op.{Op}
use Rattle.model.specs.declared.types.operations.Reply.{Reply}
use Rattle.model.specs.declared.types.operations.TaskProgress.{TaskProgress}
use Rattle.model.specs.declared.types.operations.TaskProgress.TheVariants as progress
use Rattle.inodes.specs.Store.{StoreState}
use Rattle.inodes.specs.Tasks.{TaskState, no_task, task}
use Rattle.ports.specs.History.{Side, first_in}
use Rattle.history.specs.declared.types.Phase.{Phase}
use Rattle.history.specs.declared.types.Phase.TheVariants as at
use Rattle.history.specs.declared.types.Process.{Process}
use Rattle.history.specs.Journal.{Entries}
use Rattle.history.specs.Lemmas.Phases.{others_stay}
use Rattle.history.specs.Processes.{World, answered, entry_index, idle, process, told_at, turned_from}
use Rattle.model.specs.declared.types.operations.Step.{Step}
use Rattle.kernel.specs.Next.{BeginsWith, HearsShutdown, NextAt, NextIf, world_after, world_behind, world_ended, world_written}
use Rattle.kernel.specs.State.{class_of}

-- no task but that of process p is another
pub record SameTasks {D : Type 0} (p : ℕ) (s t : StoreState D) : Type 0 where
  pub many : length t.tasks ≡ length s.tasks
  pub others : (q : ℕ) → q ≢ p → task t.tasks q ≡ task s.tasks q

pub tasks_none : {D : Type 0} {p : ℕ} (s : StoreState D) → SameTasks p s s
tasks_none s = record { many = refl; others = λ q apart. refl }

pub tasks_then : {D : Type 0} {p : ℕ} (s t u : StoreState D) → SameTasks p s t → SameTasks p t u → SameTasks p s u
tasks_then s t u first then_on = record { many = then_on.many ∙ first.many; others = λ q apart. then_on.others q apart ∙ first.others q apart }

-- only process p and the journal are others
record LeavesWorld (w : World) (p : ℕ) (z : World) : Type 0 where
  pub now : Process
  pub journal : Entries
  pub is : z ≡ record w { processes = set w.processes p now; journal = journal }

module _ {D N : Type 0} (disk : Ghosts D N) (s : StoreState D) (w : World) (p : ℕ) (before : List Op) (side : Side) (heard : Bool) (unshut : w.is_shut ≡ false) (untold : heard ≡ false) (t : StoreState D) (z : World) where
  -- ---- the world

  went : (u : Process) (j : Entries) → z ≡ record w { processes = set w.processes p u; journal = j } → LeavesWorld w p z
  went u j is = record { now = u; journal = j; is = is }

  same_processes : (j : Entries) → z ≡ record w { journal = j } → LeavesWorld w p z
  same_processes j is = went (process w p) j (is ∙ ap (λ (ps : List Process). record w { processes = ps; journal = j }) (sym (set-get_or w.processes p idle)))

  same_world : z ≡ w → LeavesWorld w p z
  same_world is = same_processes w.journal is

  begun_world : (r : Step) (ahead : List Op) → BeginsWith (option_map (class_of s.table.inode_count) (first_in ahead)) s w p ahead side r t z → LeavesWorld w p z
  begun_world r ahead (inl change) = went _ _ change.world
  begun_world r ahead (inr (inl look)) = went _ _ look.world
  begun_world r ahead (inr (inr (inl refused))) = went _ _ refused.world
  begun_world r ahead (inr (inr (inr none))) = same_world none.same.1

  turned_world : (a : Phase) (reply : Option Reply) (over : Bool) → z ≡ turned_from a w p reply over → LeavesWorld w p z
  turned_world at.Idle reply over is = same_world is
  turned_world (at.BeforeTurn group op) reply over is = went _ _ is
  turned_world (at.AfterTurn group k) reply over is = same_world is
  turned_world (at.Ending group k) reply over is = same_world is
  turned_world (at.Committing group k) reply over is = same_world is

  after_world : (q : TaskProgress) (over : Bool) → z ≡ world_after q over w p → LeavesWorld w p z
  after_world progress.Moved over is = same_world is
  after_world (progress.Turned reply) over is = turned_world (process w p).at reply over is
  after_world (progress.Decided reply) over is = same_world is
  after_world progress.Over over is = same_world is
  after_world (progress.Sleeping cause) over is = same_world is
  after_world (progress.Fault fault) over is = same_world is

  told_world : (place : Option ℕ) (reply : Reply) → z ≡ told_at place w reply → LeavesWorld w p z
  told_world None reply is = same_world is
  told_world (Some k) reply is = same_processes _ is

  told_answered : (place : Option ℕ) (reply : Reply) → z ≡ answered (told_at place w reply) p → LeavesWorld w p z
  told_answered None reply is = went _ _ is
  told_answered (Some k) reply is = went _ _ is

  behind_world : (group : ℕ) (q : TaskProgress) → z ≡ world_behind group q w p → LeavesWorld w p z
  behind_world group progress.Moved is = same_world is
  behind_world group (progress.Turned reply) is = same_world is
  behind_world zero (progress.Decided reply) is = told_answered (entry_index (process w p).at) reply is
  behind_world (suc group) (progress.Decided reply) is = told_world (entry_index (process w p).at) reply is
  behind_world zero progress.Over is = went _ _ is
  behind_world (suc group) progress.Over is = went _ _ is
  behind_world group (progress.Sleeping cause) is = same_world is
  behind_world group (progress.Fault fault) is = same_world is

  ended_world : (e : Ended) → z ≡ world_ended e w p → LeavesWorld w p z
  ended_world ended_as.Commit is = went _ _ is
  ended_world ended_as.Left is = went _ _ is

  written_world : (r : Committed) → z ≡ world_written r w p → LeavesWorld w p z
  written_world committed.More is = same_world is
  written_world (committed.Durable count) is = same_world is
  written_world committed.Done is = went _ _ is
  written_world (committed.Fault fault) is = same_world is

  hears_none : (r : Step) → HearsShutdown s w heard r t z → ⊥
  hears_none r shut = ⊎_elim (λ was. cc (was, unshut)) (λ told. cc (told, untold)) shut.heard

  next_world : (r : Step) (a : Phase) → NextAt disk a s w p before side heard r t z → LeavesWorld w p z
  next_world r at.Idle (inl shut) = absurd (hears_none r shut)
  next_world r at.Idle (inr none) = begun_world r none.ahead none.begins
  next_world r (at.BeforeTurn group op) next = after_world next.progress _ next.world
  next_world r (at.AfterTurn group k) next = behind_world group next.progress next.world
  next_world r (at.Ending group k) next = ended_world (end_answer s.volume.log) next.world
  next_world r (at.Committing group k) next = written_world next.result next.world

  leaves_world : (r : Step) (f : Option DeviceFault) → NextIf disk f s w p before side heard r t z → LeavesWorld w p z
  leaves_world r None next = next_world r (process w p).at next
  leaves_world r (Some fault) next = same_world next.1.1

  -- so the other processes stay, and the kernel is not shut
  pub other_stays : (r : Step) (f : Option DeviceFault) → NextIf disk f s w p before side heard r t z → (q : ℕ) → q ≢ p → process z q ≡ process w q
  other_stays r f next q apart = let leaves = leaves_world r f next in others_stay w z p leaves.now (ap (λ (v : World). v.processes) leaves.is) q apart

  pub unshut_still : (r : Step) (f : Option DeviceFault) → NextIf disk f s w p before side heard r t z → z.is_shut ≡ false
  unshut_still r f next = ap (λ (v : World). v.is_shut) (leaves_world r f next).is ∙ unshut

  -- ---- the tasks

  same_tasks : t.tasks ≡ s.tasks → SameTasks p s t
  same_tasks is = record { many = ap (λ (ts : List TaskState). length ts) is; others = λ q apart. ap (λ (ts : List TaskState). task ts q) is }

  set_tasks : (u : TaskState) → t.tasks ≡ set s.tasks p u → SameTasks p s t
  set_tasks u is = record {
    many = ap (λ (ts : List TaskState). length ts) is ∙ length-set s.tasks p u;
    others = λ q apart. ap (λ (ts : List TaskState). task ts q) is ∙ get_or-set_other s.tasks p q u no_task apart;
  }

  begun_tasks : (r : Step) (ahead : List Op) → BeginsWith (option_map (class_of s.table.inode_count) (first_in ahead)) s w p ahead side r t z → SameTasks p s t
  begun_tasks r ahead (inl takes) = set_tasks _ (ap (λ (y : StoreState D). y.tasks) takes.store)
  begun_tasks r ahead (inr (inl takes)) = set_tasks _ (ap (λ (y : StoreState D). y.tasks) takes.store)
  begun_tasks r ahead (inr (inr (inl takes))) = same_tasks (ap (λ (y : StoreState D). y.tasks) takes.store)
  begun_tasks r ahead (inr (inr (inr takes))) = same_tasks (ap (λ (y : StoreState D). y.tasks) takes.same.0)

  tasks_at : (r : Step) (a : Phase) → NextAt disk a s w p before side heard r t z → SameTasks p s t
  tasks_at r at.Idle (inl shut) = same_tasks (ap (λ (y : StoreState D). y.tasks) shut.store)
  tasks_at r at.Idle (inr none) = begun_tasks r none.ahead none.begins
  tasks_at r (at.BeforeTurn group op) next = record { many = next.steps.tasks.many; others = next.steps.tasks.others }
  tasks_at r (at.AfterTurn group k) next = record { many = next.steps.tasks.many; others = next.steps.tasks.others }
  tasks_at r (at.Ending group k) next = same_tasks (ap (λ (y : StoreState D). y.tasks) next.store)
  tasks_at r (at.Committing group k) next = same_tasks next.commits.tasks

  pub tasks_stay : (r : Step) (f : Option DeviceFault) → NextIf disk f s w p before side heard r t z → SameTasks p s t
  tasks_stay r None next = tasks_at r (process w p).at next
  tasks_stay r (Some fault) next = same_tasks (ap (λ (y : StoreState D). y.tasks) next.1.0)
