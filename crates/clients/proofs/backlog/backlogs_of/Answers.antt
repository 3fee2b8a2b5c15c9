use Rattle.std.proofs.Common.{◌<◌, ◌∷◌, ◌∙◌, length, refl, sym, subst, suc, arith}
use Rattle.std.specs.Prelude.{All}
use Rattle.std.proofs.lemmas.List.{length-set}
use Rattle.std.proofs.lemmas.Option.{slice_get_read}
use Rattle.scripts.specs.declared.script.Task.{Task}
use Rattle.clients.proofs.Backlogs.{one_added}
use Rattle.clients.proofs.backlog.backlogs_of.Goals as goal

pub loop-task-preserved : goal.loop-task-preserved
loop-task-preserved c =
    let left : All (λ (task : Task). task.pid < c.args.processes) (c.in-Some.task ∷ c.next.new.self.rest.items) = subst (All (λ (task : Task). task.pid < c.args.processes)) c.in-Some.ensures.steps.0 c.loop-task.invariant.left in
    let within : c.in-Some.task.pid < length c.loop-task.backlogs.items = subst (λ n. c.in-Some.task.pid < n) (sym c.loop-task.invariant.count) (left 0 c.in-Some.task (omega arith)) in
    record {
      count = length-set c.loop-task.backlogs.items c.in-Some.task.pid c.add.new.self ∙ c.loop-task.invariant.count;
      left = λ k d low. left (suc k) d (omega (arith, low));
      each = λ p low. one_added c.loop-task.backlogs.items c.index_mut.result.now c.add.new.self c.loop-task.yielded c.in-Some.task p within
          (slice_get_read c.loop-task.backlogs.items (length c.loop-task.backlogs.items) c.in-Some.task.pid c.index_mut.result.now refl within c.index_mut.ensures.value) c.in_ok-add.ensures (c.loop-task.invariant.each p low);
    }
