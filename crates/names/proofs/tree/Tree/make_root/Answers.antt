use Rattle.std.proofs.Common.{refl, inr, arith}
use Rattle.names.proofs.RootMaking.{root_alone, root_counted, root_leaves}
use Rattle.names.proofs.tree.Tree.make_root.Goals as goal

pub returns-clause-root : goal.returns-clause-root
returns-clause-root g c =
    root_alone g.D.Disk c.args.self.now.kernel c.begun.new.self.kernel c.root_made.new.self.kernel c.committed.new.self.kernel
    c.begun.new.self.calls_left c.committed.new.self.calls_left c.in_ok-refusal.field-0 c.in_ok-begun.ensures.begins c.in_ok-refusal.ensures.made
    c.in_default.not-Some c.requires.none c.committed.result c.committed.ensures.commits

pub returns-clause-leaves : goal.returns-clause-leaves
returns-clause-leaves g c = λ some.
    root_leaves g.D.Disk c.args.self.now.kernel c.begun.new.self.kernel c.root_made.new.self.kernel c.committed.new.self.kernel
    c.begun.new.self.calls_left c.committed.new.self.calls_left c.in_ok-refusal.field-0 c.in_ok-begun.ensures.begins c.in_ok-refusal.ensures.made
    c.in_default.not-Some c.requires.none c.begun.ensures.leaves c.in_ok-refusal.ensures.goes.on.same c.root_made.ensures.goes.stays c.committed.ensures.leaves

pub returns-then-self-eq0-clause-refused : goal.returns-then-self-eq0-clause-refused
returns-then-self-eq0-clause-refused g c = (record { image = refl; faults = refl }, inr (omega (arith, c.requires.idle.many, c.if-self-eq0.true)))

pub committed-requires-clause-counted : goal.committed-requires-clause-counted
committed-requires-clause-counted g c =
    root_counted g.D.Disk c.args.self.now.kernel c.begun.new.self.kernel c.root_made.new.self.kernel c.root_made.new.self.kernel
    c.begun.new.self.calls_left c.root_made.new.self.calls_left c.in_ok-refusal.field-0 c.in_ok-begun.ensures.begins c.in_ok-refusal.ensures.made
    c.in_default.not-Some c.requires.none
