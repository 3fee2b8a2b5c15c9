-- A step that has to wait changes nothing.
use Rattle.std.proofs.Common.{◌≡◌, ◌∙◌, ℕ, zero, suc, Bool, true, List, Option, Some, None, sym, ap}
use Rattle.blocks.specs.declared.disk.Disk.{Ghosts}
use Rattle.model.specs.declared.types.operations.Op.{Op}
use Rattle.model.specs.declared.types.operations.TaskProgress.{TaskProgress}
use Rattle.model.specs.declared.types.operations.TaskProgress.TheVariants as progress
use Rattle.model.specs.declared.types.operations.Why.{Why}
use Rattle.wal.specs.Machine.{end_answer}
use Rattle.wal.specs.declared.types.Committed.{Committed}
use Rattle.wal.specs.declared.types.Committed.TheVariants as committed
use Rattle.wal.specs.declared.types.DeviceFault.{DeviceFault}
use Rattle.wal.specs.declared.types.Ended.{Ended}
use Rattle.wal.specs.declared.types.Ended.TheVariants as ended_as
use Rattle.inodes.specs.Stages.{is_over}
use Rattle.inodes.specs.Store.{StoreState}
use Rattle.inodes.specs.Tasks.{task}
use Rattle.ports.specs.History.{Side}
use Rattle.history.specs.declared.types.Phase.{Phase}
use Rattle.history.specs.declared.types.Phase.TheVariants as at
use Rattle.history.specs.Bound.{is_busy_at}
use Rattle.history.specs.Processes.{World, process}
use Rattle.kernel.specs.Next.{NextAt, NextIf, Same, step_behind, step_of, step_of_end, step_of_last, step_of_told, step_of_write, world_after, world_behind}
use Rattle.model.specs.declared.types.operations.Step.TheVariants as step

pub task_sleeps : (r : TaskProgress) (cause : Why) → step.Sleeping cause ≡ step_of r → r ≡ progress.Sleeping cause
task_sleeps progress.Moved cause e = absurd (cc e)
task_sleeps (progress.Turned reply) cause e = absurd (cc e)
task_sleeps (progress.Decided reply) cause e = absurd (cc e)
task_sleeps progress.Over cause e = absurd (cc e)
task_sleeps (progress.Sleeping other) cause e = let same : cause ≡ other = cc e in ap progress.Sleeping (sym same)
task_sleeps (progress.Fault fault) cause e = absurd (cc e)

told_made : (group : ℕ) (cause : Why) → step.Sleeping cause ≡ step_of_told group → ⊥
told_made zero cause e = cc e
told_made (suc group) cause e = cc e

last_made : (group : ℕ) (cause : Why) → step.Sleeping cause ≡ step_of_last group → ⊥
last_made zero cause e = cc e
last_made (suc group) cause e = cc e

pub behind_sleeps : (group : ℕ) (r : TaskProgress) (cause : Why) → step.Sleeping cause ≡ step_behind group r → r ≡ progress.Sleeping cause
behind_sleeps group progress.Moved cause e = absurd (cc e)
behind_sleeps group (progress.Turned reply) cause e = absurd (cc e)
behind_sleeps group (progress.Decided reply) cause e = absurd (told_made group cause e)
behind_sleeps group progress.Over cause e = absurd (last_made group cause e)
behind_sleeps group (progress.Sleeping other) cause e = let same : cause ≡ other = cc e in ap progress.Sleeping (sym same)
behind_sleeps group (progress.Fault fault) cause e = absurd (cc e)

pub end_made : (r : Ended) (cause : Why) → step.Sleeping cause ≡ step_of_end r → ⊥
end_made ended_as.Commit cause e = cc e
end_made ended_as.Left cause e = cc e

pub write_made : (r : Committed) (cause : Why) → step.Sleeping cause ≡ step_of_write r → ⊥
write_made committed.More cause e = cc e
write_made (committed.Durable count) cause e = cc e
write_made committed.Done cause e = cc e
write_made (committed.Fault fault) cause e = cc e

module _ {D N : Type 0} (disk : Ghosts D N) (s : StoreState D) (w : World) (p : ℕ) (cause : Why) (before : List Op) (side : Side) (told : Bool) (t : StoreState D) (z : World) where
  asleep_at : (a : Phase) → is_busy_at a ≡ true → NextAt disk a s w p before side told (step.Sleeping cause) t z → Same s w t z
  asleep_at at.Idle busy next = absurd (cc busy)
  asleep_at (at.BeforeTurn group op) busy next =
      let asleep = task_sleeps next.progress cause next.answer in
      (next.steps.waits.sleeping cause asleep, next.world ∙ ap (λ (q : TaskProgress). world_after q (is_over (task t.tasks p).stage) w p) asleep)
  asleep_at (at.AfterTurn group k) busy next =
      let asleep = behind_sleeps group next.progress cause next.answer in
      (next.steps.waits.sleeping cause asleep, next.world ∙ ap (λ (q : TaskProgress). world_behind group q w p) asleep)
  asleep_at (at.Ending group k) busy next = absurd (end_made (end_answer s.volume.log) cause next.answer)
  asleep_at (at.Committing group k) busy next = absurd (write_made next.result cause next.answer)

  pub asleep_same : (f : Option DeviceFault) → NextIf disk f s w p before side told (step.Sleeping cause) t z → is_busy_at (process w p).at ≡ true → Same s w t z
  asleep_same None next busy = asleep_at (process w p).at busy next
  asleep_same (Some fault) next busy = let e = next.0 in absurd (cc e)
