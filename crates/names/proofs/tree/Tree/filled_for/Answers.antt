use Rattle.std.proofs.Common.{ℕ, List, subst}
use Rattle.model.specs.declared.types.operations.Op.TheVariants.{Write}
use Rattle.calls.specs.Calls.{ShortIsFull}
use Rattle.calls.specs.Transactions.{image_seen}
use Rattle.names.specs.Inside.{Answers}
use Rattle.names.proofs.tree.Tree.filled_for.Goals as goal

pub returns-clause-filled : goal.returns-clause-filled
returns-clause-filled g c = record {
  reply = c.in_ok-reply.reply;
  answers = subst (λ (b : List ℕ). Answers g.D.Disk.image (Write c.args.number 0 b) c.args.self.now.kernel c.called.new.self.kernel c.in_ok-reply.reply) c.in-Ok.ensures
      (subst (λ (i : ℕ). Answers g.D.Disk.image (Write i 0 c.in-Ok.bytes) c.args.self.now.kernel c.called.new.self.kernel c.in_ok-reply.reply) c.from.ensures c.in_ok-reply.ensures.answers);
  told = c.is_filled.ensures;
  short = subst (λ (b : List ℕ). ShortIsFull (image_seen g.D.Disk.image c.called.new.self.kernel) (Write c.args.number 0 b) c.in_ok-reply.reply) c.in-Ok.ensures
      (subst (λ (i : ℕ). ShortIsFull (image_seen g.D.Disk.image c.called.new.self.kernel) (Write i 0 c.in-Ok.bytes) c.in_ok-reply.reply) c.from.ensures c.in_ok-reply.ensures.cause.short);
}
