use Rattle.std.proofs.Common.{◌∙◌, ◌^◌, ◌≤◌, refl, inr, arith}
use Rattle.calls.specs.Calls.{call_count}
use Rattle.names.specs.declared.refusal.TreeFault.TheVariants.{NoCall}
use Rattle.names.proofs.Going.{ends_on}
use Rattle.names.specs.Inside.{files_seen}
use Rattle.names.proofs.Rising.{has_parent, inside_itself, parent_decides, parent_there, root_decides, stepped_as}
use Rattle.names.proofs.tree.Tree.is_outside.Goals as goal

pub returns-then-at-number-clause-told : goal.returns-then-at-number-clause-told
returns-then-at-number-clause-told g c = (
  λ yes. absurd (cc yes),
  λ outside. absurd (inside_itself (files_seen g.D.Disk.image c.args.self.now.kernel) c.args.number c.args.from c.loop-step.at c.loop-step.invariant.decides
      c.if-at-number.true outside),
)

pub returns-then-at-eq-DIRECTORY-clause-told : goal.returns-then-at-eq-DIRECTORY-clause-told
returns-then-at-eq-DIRECTORY-clause-told g c = (
  λ yes. root_decides (files_seen g.D.Disk.image c.args.self.now.kernel) c.args.number c.args.from c.loop-step.at c.requires.tree c.requires.below
      c.loop-step.invariant.decides c.if-at-eq-DIRECTORY.true,
  λ outside. refl,
)

pub unreachable-requires : goal.unreachable-requires
unreachable-requires g c =
    has_parent (files_seen g.D.Disk.image c.args.self.now.kernel) c.loop-step.at c.in_ok-parent.field-0 c.requires.tree c.loop-step.invariant.is
    (stepped_as c.in_ok-parent.field-0 (files_seen g.D.Disk.image c.loop-step.self.kernel) (files_seen g.D.Disk.image c.args.self.now.kernel) c.loop-step.at c.parent.result
    c.in_ok-parent.ensures.led c.loop-step.invariant.files c.parent.ensures) c.in_default.not-Ok

pub loop-step-preserved : goal.loop-step-preserved
loop-step-preserved g c =
    let leads = stepped_as c.in_ok-parent.field-0 (files_seen g.D.Disk.image c.loop-step.self.kernel) (files_seen g.D.Disk.image c.args.self.now.kernel) c.loop-step.at
    c.parent.result c.in_ok-parent.ensures.led c.loop-step.invariant.files c.parent.ensures in
    let decide = parent_decides (files_seen g.D.Disk.image c.args.self.now.kernel) c.args.number c.loop-step.at c.in-Ok.parent c.in_ok-parent.field-0 c.requires.tree
    c.loop-step.invariant.is c.if-at-eq-DIRECTORY.false leads c.in-Ok.is c.if-at-number.false in
    record {
      way = c.in_ok-parent.ensures.goes.on.way;
      same = c.in_ok-parent.ensures.goes.on.same ∙ c.loop-step.invariant.same;
      opening = c.in_ok-parent.ensures.goes.on.opening ∙ c.loop-step.invariant.opening;
      answered = omega (arith, c.loop-step.invariant.answered, c.in_ok-parent.ensures.answered);
      files = c.in_ok-parent.ensures.same ∙ c.loop-step.invariant.files;
      stays = record {
        on = λ o same so_far. c.step.ensures.goes.stays.on o (c.loop-step.invariant.same ∙ same) (c.loop-step.invariant.stays.on o same so_far);
      };
      reached = λ o so_far. c.in_ok-parent.ensures.goes.on.reached o (c.loop-step.invariant.reached o so_far);
      is = parent_there (files_seen g.D.Disk.image c.args.self.now.kernel) c.args.number c.loop-step.at c.in-Ok.parent c.in_ok-parent.field-0 c.requires.tree
          c.loop-step.invariant.is c.if-at-eq-DIRECTORY.false leads c.in-Ok.is;
      decides = (λ outside. decide.0 (c.loop-step.invariant.decides.0 outside), λ outside. c.loop-step.invariant.decides.1 (decide.1 outside));
    }

-- each step made a call, and as many were made as a tree makes
pub returns-clause-goes : goal.returns-clause-goes
returns-clause-goes g c =
    let before = c.loop-step.invariant in
    let spent : 2 ^ 62 ≤ call_count c.loop-step.self.kernel =
    omega (arith, c.requires.way.many, before.answered, c.loop-step-test.false, c.loop-step.auto._step-end) in
    record {
      on = tt;
      stays = before.stays;
      ends = ends_on g.D.Disk c.args.self.now.kernel c.loop-step.self.kernel c.loop-step.self.kernel c.args.self.now.calls_left c.loop-step.self.calls_left 0 NoCall
          c.requires.way (record { way = before.way; same = before.same; opening = before.opening; later = omega (arith, before.answered); reached = before.reached })
          (record { none = refl; broken = (record { image = refl; faults = refl }, inr spent) });
    }
