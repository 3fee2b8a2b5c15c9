use Rattle.names.proofs.PlainPuts.{wrote_as}
use Rattle.names.proofs.tree.Tree.write_called.Goals as goal

pub returns-clause-written : goal.returns-clause-written
returns-clause-written g c =
    wrote_as g.D.Disk c.args.self.now.kernel c.called.new.self.kernel c.args.number c.args.offset c.in-Ok.content c.args.bytes.now c.in_ok-reply.reply c.written.result
    c.in-Ok.ensures c.in_ok-reply.ensures.answers c.in_ok-reply.ensures.cause.short c.written.ensures
