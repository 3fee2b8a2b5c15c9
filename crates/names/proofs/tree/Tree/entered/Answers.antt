use Rattle.std.proofs.Common.{sym, subst}
use Rattle.model.specs.declared.types.operations.Op.{Op}
use Rattle.calls.specs.Calls.{ShortIsFull}
use Rattle.calls.specs.Transactions.{image_seen}
use Rattle.names.specs.Inside.{Answers}
use Rattle.names.proofs.tree.Tree.entered.Goals as goal

pub returns-clause-entered : goal.returns-clause-entered
returns-clause-entered g c = record {
  reply = c.in_ok-reply.reply;
  answers = subst (λ (o : Op). Answers g.D.Disk.image o c.args.self.now.kernel c.called.new.self.kernel c.in_ok-reply.reply) c.in-Ok.ensures c.in_ok-reply.ensures.answers;
  told = c.is_entered.ensures;
  sized = c.requires.way.sized;
  short = subst (λ (o : Op). ShortIsFull (image_seen g.D.Disk.image c.called.new.self.kernel) o c.in_ok-reply.reply) c.in-Ok.ensures c.in_ok-reply.ensures.cause.short;
}
