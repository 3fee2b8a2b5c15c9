use Rattle.std.proofs.Common.{refl, subst, arith}
use Rattle.model.specs.declared.types.operations.Op.TheVariants.{Create}
use Rattle.model.specs.declared.types.operations.Reply.{Reply}
use Rattle.names.specs.Inside.{files_seen, form_seen, Answers}
use Rattle.names.proofs.FileMakes.{create_none, create_some}
use Rattle.names.proofs.RootMaking.{root_filled, root_full, root_past}
use Rattle.names.proofs.tree.Tree.root_made.Goals as goal

pub returns-in_default : goal.returns-in_default
returns-in_default g c =
    let disk = g.D.Disk in
    let k = c.args.self.now.kernel in
    let m = c.called.new.self.kernel in
    record {
      goes = record { on = c.in_ok-number.ensures.goes.on; stays = c.called.ensures.goes.stays; ends = tt };
      made = λ inside.
          (create_none (form_seen disk.image k) (files_seen disk.image k) (files_seen disk.image m) 1 c.in_ok-number.field-0 refl c.in_ok-number.ensures.answers
          c.in_ok-number.ensures.cause.none c.in_default.not-Made).1 1 (omega arith) inside (omega arith);
    }

pub returns-then-number-ne-DIRECTORY-clause-made : goal.returns-then-number-ne-DIRECTORY-clause-made
returns-then-number-ne-DIRECTORY-clause-made g c = λ inside.
    let disk = g.D.Disk in
    let k = c.args.self.now.kernel in
    let m = c.called.new.self.kernel in
    let some = create_some (form_seen disk.image k) (files_seen disk.image k) (files_seen disk.image m) 1 c.in-Made.number refl
    (subst (λ (r : Reply). Answers disk.image (Create 1) k m r) c.in-Made.is c.in_ok-number.ensures.answers) in
    root_past disk k c.in-Made.number c.in_ok-number.field-0 c.in_ok-number.ensures.cause.lowest c.in-Made.is some.1 c.if-number-ne-DIRECTORY.true

pub returns-then-branch-clause-made : goal.returns-then-branch-clause-made
returns-then-branch-clause-made g c = λ none.
    root_filled g.D.Disk c.args.self.now.kernel c.called.new.self.kernel c.filled.new.self.kernel c.in-Made.number c.in_ok-number.field-0 c.in_ok-filled.field-0
    c.in_ok-number.ensures.goes.on.opening c.in-Made.is c.if-number-ne-DIRECTORY.false c.in_ok-number.ensures.answers c.in_ok-filled.ensures.filled c.if-branch.true
    none

pub returns-else-branch-clause-made : goal.returns-else-branch-clause-made
returns-else-branch-clause-made g c =
    root_full g.D.Disk c.args.self.now.kernel c.called.new.self.kernel c.filled.new.self.kernel c.in-Made.number c.in_ok-number.field-0 c.in_ok-filled.field-0
    c.in-Made.is c.if-number-ne-DIRECTORY.false c.in_ok-number.ensures.answers c.in_ok-filled.ensures.filled c.if-branch.false
