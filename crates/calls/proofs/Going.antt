-- An operation of a process of a kernel, over its steps, while the other processes make none.
use Rattle.std.proofs.Common.{◌≡◌, ◌≢◌, ◌∙◌, ◌<◌, ℕ, false, length, refl, sym, ap, subst}
use Rattle.blocks.specs.declared.disk.Disk.{Ghosts}
use Rattle.model.specs.declared.types.operations.Op.{Op}
use Rattle.inodes.specs.Store.{StoreState}
use Rattle.history.specs.Processes.{process}
use Rattle.ports.specs.History.{Side}
use Rattle.ports.specs.Queues.{queue_name, waiting}
use Rattle.kernel.specs.Known.{Known}
use Rattle.kernel.specs.Lemmas.Moves.{moves_keep, steps_keep}
use Rattle.kernel.specs.Lemmas.Turns.{runs_on_none, runs_on_step, runs_on_then}
use Rattle.kernel.specs.Moves.{MakesSteps, Moves}
use Rattle.kernel.specs.Runs.{RunsOn}
use Rattle.model.specs.declared.types.operations.Step.{Step}
use Rattle.model.specs.declared.types.operations.Step.TheVariants as step
use Rattle.calls.specs.Stepping.{MakesPlainStep, Plain, plain_herald, plain_queues}
use Rattle.calls.proofs.Others.{SameTasks, other_stays, tasks_none, tasks_stay, tasks_then, unshut_still}
use Rattle.calls.proofs.Stages.{Comes, IsKept, StandsAt, Where, step_comes}

-- what the steps of process p leave of the others
pub record LeavesOthers {D : Type 0} (p : ℕ) (k m : Plain D) : Type 0 where
  pub many : length m.world.processes ≡ length k.world.processes
  pub names : (q : ℕ) → queue_name m.intake q ≡ queue_name k.intake q
  pub unshut : m.world.is_shut ≡ false
  pub others : (q : ℕ) → q ≢ p → process m.world q ≡ process k.world q
  pub sides : (q : ℕ) → q ≢ p → waiting m.intake q ≡ waiting k.intake q
  pub tasks : SameTasks p k.store m.store

pub others_none : {D : Type 0} (p : ℕ) (k : Plain D) → k.world.is_shut ≡ false → LeavesOthers p k k
others_none p k unshut = record { many = refl; names = λ q. refl; unshut = unshut; others = λ q apart. refl; sides = λ q apart. refl; tasks = tasks_none k.store }

-- and one step more
pub others_step : {D N : Type 0} (disk : Ghosts D N) (p : ℕ) (r : Step) (k m n : Plain D) → LeavesOthers p k m → MakesPlainStep disk p r m n → LeavesOthers p k n
others_step disk p r k m n rest made = record {
  many = made.progress.many ∙ rest.many;
  names = λ q. made.acts.ports.sides.names q ∙ rest.names q;
  unshut = unshut_still disk m.store m.world p (waiting m.intake p) (plain_queues.side n.intake p) false rest.unshut refl n.store n.world r m.store.volume.fault made.acts.next;
  others = λ q apart. other_stays disk m.store m.world p (waiting m.intake p) (plain_queues.side n.intake p) false rest.unshut refl n.store n.world r m.store.volume.fault made.acts.next q apart ∙ rest.others q apart;
  sides = λ q apart. ap (λ (side : Side). side.ahead) (made.acts.ports.sides.others q apart) ∙ rest.sides q apart;
  tasks = tasks_then k.store m.store n.store rest.tasks (tasks_stay disk m.store m.world p (waiting m.intake p) (plain_queues.side n.intake p) false rest.unshut refl n.store n.world r m.store.volume.fault made.acts.next);
}

module _ {D N : Type 0} (disk : Ghosts D N) (p : ℕ) (op : Op) (P : Where → StoreState D → Type 0) (k : Plain D) where
  -- the operation of process p waits, or is under way, as it was handed in to k
  pub record Stage (m : Plain D) : Type 0 where
    pub rest : LeavesOthers p k m
    pub stands : StandsAt p op P k.world.journal.list (process m.world p).at (waiting m.intake p) m.store m.world.journal.list

  -- what its steps leave, the last of which answered so
  pub record After (r : Step) (m : Plain D) : Type 0 where
    pub rest : LeavesOthers p k m
    pub comes : Comes p op P k.world.journal.list r (waiting m.intake p) m.store m.world

  module _ (keeps : IsKept disk p op P) (inside : p < length k.world.processes) where
    step_after : (r : Step) (m n : Plain D) → MakesPlainStep disk p r m n → Stage m → After r n
    step_after r m n made stage = record {
      rest = others_step disk p r k m n stage.rest made;
      comes = step_comes disk p op P keeps k.world.journal.list (waiting m.intake p) (waiting n.intake p) (plain_queues.side n.intake p) m.store n.store m.world (subst (λ (c : ℕ). p < c) (sym stage.rest.many) inside) false stage.rest.unshut refl
          m.store.volume.fault r n.world made.acts.next made.progress.grows.journal stage.stands;
    }

    step_moves : (m n : Plain D) → MakesPlainStep disk p step.Moved m n → Stage m → Stage n
    step_moves m n made stage = let now = step_after step.Moved m n made stage in record { rest = now.rest; stands = now.comes }

    -- steps that move
    pub stages_move : (count : ℕ) (m n : Plain D) → Moves (MakesPlainStep disk p) count m n → Stage m → Stage n
    stages_move = moves_keep (MakesPlainStep disk p) Stage step_moves

    -- behind its last one
    pub steps_after : (r : Step) (m n : Plain D) → MakesSteps disk plain_queues plain_herald p r m n → Stage m → After r n
    steps_after r m n makes stage = step_after r makes.mid n makes.made (stages_move makes.moved m makes.mid makes.moves stage)

-- ---- what any steps keep

module _ {D N : Type 0} (disk : Ghosts D N) (p : ℕ) (r : Step) (k m : Plain D) (makes : MakesSteps disk plain_queues plain_herald p r k m) where
  -- they lose no committed group
  pub steps_run : Known disk plain_queues plain_herald k → RunsOn disk k m
  steps_run known =
      steps_keep disk plain_queues plain_herald p (RunsOn disk k) (λ q n o made runs. runs_on_then disk plain_queues plain_herald k n o runs (runs_on_step disk plain_queues plain_herald p q n o made)) r k m makes
      (runs_on_none disk plain_queues plain_herald k known.stop.keeps)

  -- and the disk is the same one
  pub steps_name : disk.name m.store.volume.device ≡ disk.name k.store.volume.device
  steps_name = steps_keep disk plain_queues plain_herald p (λ (o : Plain D). disk.name o.store.volume.device ≡ disk.name k.store.volume.device) (λ q n o made same. made.acts.device.name ∙ same) r k m makes refl
