use Rattle.std.proofs.Common.{◌<◌, ◌^◌, inr, refl, rules, arith}
use Rattle.std.proofs.lemmas.Grind.{common_steps}
use Rattle.names.proofs.Blocked.{was_short, was_then}
use Rattle.names.proofs.Filling.{filled_made, filled_short, filled_undone}
use Rattle.names.proofs.directing.NewDirectoryNew.create.Goals as goal

pub returns-then-branch-clause-made : goal.returns-then-branch-clause-made
returns-then-branch-clause-made g c =
    let fits : c.in-Some.number < 2 ^ 16 = first_of (search rules, grind (arith, common_steps)) in
    let up_fits : c.args.parent < 2 ^ 16 = first_of (search rules, grind (arith, common_steps)) in
    filled_made g.D.Disk c.args.tree.now.kernel c.created.new.self.kernel c.filled_for.new.self.kernel c.args.parent c.in-Some.number c.args.parent c.in_ok-number.field-0
    c.in_ok-filled_for.field-0 refl c.in-Some.is c.in_ok-number.ensures.made c.in_ok-filled_for.ensures.filled c.if-branch.true c.requires.used fits up_fits

pub returns-clause-made : goal.returns-clause-made
returns-clause-made g c = (
  filled_undone g.D.Disk c.args.tree.now.kernel c.created.new.self.kernel c.filled_for.new.self.kernel c.args.parent c.in-Some.number c.args.parent c.in_ok-number.field-0
      c.in_ok-filled_for.field-0 refl c.in-Some.is c.in_ok-number.ensures.made c.in_ok-filled_for.ensures.filled c.uncreated.new.self.kernel c.from.result
      c.from.ensures c.if-branch.false c.in_ok-uncreated.ensures.undoes,
  inr (refl, tt),
)

pub returns-clause-no_block : goal.returns-clause-no_block
returns-clause-no_block g c = λ tells.
    was_then g.D.Disk c.args.tree.now.kernel c.filled_for.new.self.kernel c.uncreated.new.self.kernel c.in_ok-uncreated.ensures.goes.on.reached
    (was_short g.D.Disk c.args.tree.now.kernel c.created.new.self.kernel c.filled_for.new.self.kernel c.created.new.self.calls_left c.filled_for.new.self.calls_left
    c.in_ok-number.ensures.goes.on c.in_ok-filled_for.ensures.goes.on
    (filled_short g.D.Disk c.args.tree.now.kernel c.created.new.self.kernel c.filled_for.new.self.kernel c.args.parent c.in-Some.number c.args.parent c.in_ok-number.field-0
    c.in_ok-filled_for.field-0 refl c.in-Some.is c.in_ok-number.ensures.made c.in_ok-filled_for.ensures.filled c.if-branch.false))
