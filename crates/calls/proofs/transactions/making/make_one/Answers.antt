use Rattle.std.proofs.Common.{refl}
use Rattle.std.specs.Prelude.{Ok}
use Rattle.std.proofs.lemmas.Result.{err_from_is_err_and}
use Rattle.calls.specs.Lemmas.Reaching.{reached_then}
use Rattle.calls.proofs.Grouped.{one_leaves, one_made, still_leaves, uncommitted_leaves}
use Rattle.calls.proofs.transactions.making.make_one.Goals as goal

pub returns-in_err-begin-clause-leaves : goal.returns-in_err-begin-clause-leaves
returns-in_err-begin-clause-leaves g c = uncommitted_leaves g.D.Disk c.args.op _ c.args.kernel.now c.begin.new.kernel c.begin.ensures.leaves

pub returns-in_err-reply-clause-leaves : goal.returns-in_err-reply-clause-leaves
returns-in_err-reply-clause-leaves g c =
    uncommitted_leaves g.D.Disk c.args.op _ c.args.kernel.now c.call.new.kernel
    (still_leaves g.D.Disk c.args.kernel.now c.begin.new.kernel c.call.new.kernel c.in_ok-begin.ensures.begins.same c.begin.ensures.leaves c.call.ensures.leaves)

pub returns-in_err-commit-clause-leaves : goal.returns-in_err-commit-clause-leaves
returns-in_err-commit-clause-leaves g c =
    let p = err_from_is_err_and c.from_residual-in_err-commit.result c.from_residual-in_err-commit.ensures.1 in
    one_leaves g.D.Disk c.args.op c.args.kernel.now c.begin.new.kernel c.call.new.kernel c.in_ok-reply.reply c.in_ok-begin.ensures.begins c.in_ok-reply.ensures.adds c.begin.ensures.opening c.call.ensures.opening c.begin.ensures.leaves c.call.ensures.leaves
    c.commit.new.kernel c.from_residual-in_err-commit.result (rw (p.1) tt) c.commit.ensures.leaves

pub returns-clause-makes : goal.returns-clause-makes
returns-clause-makes g c =
    one_made g.D.Disk c.args.op c.args.kernel.now c.begin.new.kernel c.call.new.kernel c.in_ok-reply.reply c.in_ok-begin.ensures.begins c.in_ok-reply.ensures.adds c.begin.ensures.opening c.call.ensures.opening c.begin.ensures.leaves c.call.ensures.leaves
    c.commit.new.kernel c.in_ok-commit.ensures.commits

pub returns-clause-leaves : goal.returns-clause-leaves
returns-clause-leaves g c =
    one_leaves g.D.Disk c.args.op c.args.kernel.now c.begin.new.kernel c.call.new.kernel c.in_ok-reply.reply c.in_ok-begin.ensures.begins c.in_ok-reply.ensures.adds c.begin.ensures.opening c.call.ensures.opening c.begin.ensures.leaves c.call.ensures.leaves
    c.commit.new.kernel (Ok c.in_ok-reply.reply) refl c.commit.ensures.leaves

pub returns-in_err-reply-clause-reached : goal.returns-in_err-reply-clause-reached
returns-in_err-reply-clause-reached g c = reached_then g.D.Disk c.args.kernel.now c.begin.new.kernel c.call.new.kernel c.begin.ensures.reached c.call.ensures.reached

pub returns-in_err-commit-clause-reached : goal.returns-in_err-commit-clause-reached
returns-in_err-commit-clause-reached g c =
    reached_then g.D.Disk c.args.kernel.now c.begin.new.kernel c.commit.new.kernel c.begin.ensures.reached
    (reached_then g.D.Disk c.begin.new.kernel c.call.new.kernel c.commit.new.kernel c.call.ensures.reached c.commit.ensures.reached)

pub returns-clause-reached : goal.returns-clause-reached
returns-clause-reached g c =
    reached_then g.D.Disk c.args.kernel.now c.begin.new.kernel c.commit.new.kernel c.begin.ensures.reached
    (reached_then g.D.Disk c.begin.new.kernel c.call.new.kernel c.commit.new.kernel c.call.ensures.reached c.commit.ensures.reached)
