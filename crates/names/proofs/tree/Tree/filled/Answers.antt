use Rattle.std.proofs.Common.{List, ℕ, subst}
use Rattle.calls.specs.Calls.{ShortIsFull}
use Rattle.calls.specs.Transactions.{image_seen}
use Rattle.model.specs.declared.types.operations.Op.TheVariants.{Write}
use Rattle.names.specs.Inside.{Answers}
use Rattle.names.proofs.tree.Tree.filled.Goals as goal

pub returns-clause-filled : goal.returns-clause-filled
returns-clause-filled g c =
    let image = g.D.Disk.image in
    let reply = c.in_ok-reply.reply in
    record {
      reply = reply;
      answers = subst (λ (bytes : List ℕ). Answers image (Write 1 0 bytes) c.args.self.now.kernel c.called.new.self.kernel reply) c.in-Ok.ensures c.in_ok-reply.ensures.answers;
      told = c.is_filled.ensures;
      short = subst (λ (bytes : List ℕ). ShortIsFull (image_seen image c.called.new.self.kernel) (Write 1 0 bytes) reply) c.in-Ok.ensures c.in_ok-reply.ensures.cause.short;
    }
