use Rattle.std.proofs.Common.{◌∙◌, inr, refl, sym}
use Rattle.names.proofs.Blocked.{was_short, was_then}
use Rattle.names.proofs.PlainPuts.{new_made, new_short, new_undone}
use Rattle.names.proofs.putting.NewBytesNew.create.Goals as goal

pub returns-then-is_whole-clause-made : goal.returns-then-is_whole-clause-made
returns-then-is_whole-clause-made g c =
    new_made g.D.Disk c.args.tree.now.kernel c.created.new.self.kernel c.write_called.new.self.kernel c.in-Some.number c.from.result c.args._parent c.args.self.now.bytes.now
    c.in_ok-number.field-0 c.in_ok-written.written c.in-Some.is c.from.ensures c.in_ok-number.ensures.made c.in_ok-written.ensures.written
    (sym c.is_whole.ensures ∙ c.if-is_whole.true)

pub returns-clause-made : goal.returns-clause-made
returns-clause-made g c = (
  new_undone g.D.Disk c.args.tree.now.kernel c.created.new.self.kernel c.write_called.new.self.kernel c.in-Some.number c.from.result c.args._parent c.args.self.now.bytes.now
      c.in_ok-number.field-0 c.in_ok-written.written c.in-Some.is c.from.ensures c.in_ok-number.ensures.made c.in_ok-written.ensures.written c.uncreated.new.self.kernel
      c.from-2.result c.from-2.ensures c.in_ok-uncreated.ensures.undoes,
  inr (refl, tt),
)

pub returns-clause-no_block : goal.returns-clause-no_block
returns-clause-no_block g c = λ few.
    was_then g.D.Disk c.args.tree.now.kernel c.write_called.new.self.kernel c.uncreated.new.self.kernel c.in_ok-uncreated.ensures.goes.on.reached
    (was_short g.D.Disk c.args.tree.now.kernel c.created.new.self.kernel c.write_called.new.self.kernel c.created.new.self.calls_left c.write_called.new.self.calls_left
    c.in_ok-number.ensures.goes.on c.in_ok-written.ensures.goes.on
    (new_short g.D.Disk c.args.tree.now.kernel c.created.new.self.kernel c.write_called.new.self.kernel c.in-Some.number c.from.result c.args._parent c.args.self.now.bytes.now
    c.in_ok-number.field-0 c.in_ok-written.written c.in-Some.is c.from.ensures c.in_ok-number.ensures.made c.in_ok-written.ensures.written few
    (sym c.is_whole.ensures ∙ c.if-is_whole.false)))
