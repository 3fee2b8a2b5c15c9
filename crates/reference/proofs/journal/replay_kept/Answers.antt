use Rattle.std.proofs.Common.{sym, ◌∙◌, ap}
use Rattle.std.specs.Prelude.{◌&&◌, nat_le}
use Rattle.model.specs.Journal.{is_changing}
use Rattle.model.specs.Operations.{where_true}
use Rattle.reference.proofs.ReplayLemmas.{run_ended, run_on_the_way, run_passed, run_stopped, run_taken}
use Rattle.reference.proofs.journal.replay_kept.Goals.{else-is_kept-via-then-is_kept+in_ok-replay_one+else-not-branch, else-is_kept-via-else-is_kept}
use Rattle.reference.proofs.journal.replay_kept.Goals as goal

pub returns-in_err-replay_one-clause-err : goal.returns-in_err-replay_one-clause-err
returns-in_err-replay_one-clause-err c =
    run_on_the_way (λ e. is_changing c.args.inode_count e.op && nat_le e.group c.args.c) c.args.form c.args.files.now.items c.loop-entry.files.items c.replay_one.new.files.items c.args.entries.now c.loop-entry.entry-index c.from_residual.result
    c.loop-entry.invariant c.in_err-replay_one.ensures.err

pub loop-entry-preserved : goal.loop-entry-preserved
loop-entry-preserved c =
    elim c.else-is_kept.branch [
      | else-is_kept-via-then-is_kept+in_ok-replay_one+else-not-branch w ↦
          rw w.files-is (run_taken (λ e. is_changing c.args.inode_count e.op && nat_le e.group c.args.c) c.args.form c.args.files.now.items c.loop-entry.files.items w.replay_one.new.files.items c.args.entries.now c.loop-entry.entry-index c.entry-item.result c.loop-entry.invariant c.loop-entry-test.true c.entry-item.is (sym c.is_kept.ensures ∙ w.if-is_kept.true) (w.in_ok-replay_one.ensures.after ∙ ap (λ yes. where_true yes w.replay_one.new.files.items) w.if-not-branch.false))
      | else-is_kept-via-else-is_kept w ↦
          rw w.files-is (run_passed (λ e. is_changing c.args.inode_count e.op && nat_le e.group c.args.c) c.args.form c.args.files.now.items c.loop-entry.files.items c.args.entries.now c.loop-entry.entry-index c.entry-item.result c.loop-entry.invariant c.loop-entry-test.true c.entry-item.is (sym c.is_kept.ensures ∙ w.if-is_kept.false))
    ]

pub returns-then-not-branch-clause-after : goal.returns-then-not-branch-clause-after
returns-then-not-branch-clause-after c =
    (run_stopped (λ e. is_changing c.args.inode_count e.op && nat_le e.group c.args.c) c.args.form c.args.files.now.items c.loop-entry.files.items c.args.entries.now c.loop-entry.entry-index c.entry-item.result c.loop-entry.invariant c.loop-entry-test.true c.entry-item.is (sym c.is_kept.ensures ∙ c.if-is_kept.true)
    (c.in_ok-replay_one.ensures.after ∙ ap (λ yes. where_true yes c.replay_one.new.files.items) c.if-not-branch.true)).0

pub returns-clause-after : goal.returns-clause-after
returns-clause-after c = (run_ended (λ e. is_changing c.args.inode_count e.op && nat_le e.group c.args.c) c.args.form c.args.files.now.items c.loop-entry.files.items c.args.entries.now c.loop-entry.entry-index c.loop-entry.invariant c.loop-entry-test.false).0

pub returns-clause-stop : goal.returns-clause-stop
returns-clause-stop c = (run_ended (λ e. is_changing c.args.inode_count e.op && nat_le e.group c.args.c) c.args.form c.args.files.now.items c.loop-entry.files.items c.args.entries.now c.loop-entry.entry-index c.loop-entry.invariant c.loop-entry-test.false).1
