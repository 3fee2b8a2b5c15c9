use Rattle.calls.specs.Lemmas.Both.{both_leave, both_made, neither_leaves}
use Rattle.calls.proofs.transactions.pairing.make_both.Goals as goal

pub returns-in_err-two-clause-leaves : goal.returns-in_err-two-clause-leaves
returns-in_err-two-clause-leaves g c =
    neither_leaves g.D.Disk c.args.first c.args.second c.args.kernel.now c.begin.new.kernel c.call.new.kernel c.call-2.new.kernel c.in_ok-begin.ensures.begins.same c.in_ok-one.ensures.adds.same c.begin.ensures.leaves c.call.ensures.leaves c.call-2.ensures.leaves

pub returns-in_err-commit-clause-leaves : goal.returns-in_err-commit-clause-leaves
returns-in_err-commit-clause-leaves g c =
    both_leave g.D.Disk c.args.first c.args.second c.args.kernel.now c.begin.new.kernel c.call.new.kernel c.call-2.new.kernel c.in_ok-one.one c.in_ok-two.two c.in_ok-begin.ensures.begins c.in_ok-one.ensures.adds c.in_ok-two.ensures.adds c.begin.ensures.opening c.call.ensures.opening c.call-2.ensures.opening
    c.commit.new.kernel c.begin.ensures.leaves c.call.ensures.leaves c.call-2.ensures.leaves c.commit.ensures.leaves

pub returns-clause-makes : goal.returns-clause-makes
returns-clause-makes g c =
    both_made g.D.Disk c.args.first c.args.second c.args.kernel.now c.begin.new.kernel c.call.new.kernel c.call-2.new.kernel c.in_ok-one.one c.in_ok-two.two c.in_ok-begin.ensures.begins c.in_ok-one.ensures.adds c.in_ok-two.ensures.adds c.begin.ensures.opening c.call.ensures.opening c.call-2.ensures.opening
    c.commit.new.kernel c.in_ok-commit.ensures.commits

pub returns-clause-leaves : goal.returns-clause-leaves
returns-clause-leaves g c =
    both_leave g.D.Disk c.args.first c.args.second c.args.kernel.now c.begin.new.kernel c.call.new.kernel c.call-2.new.kernel c.in_ok-one.one c.in_ok-two.two c.in_ok-begin.ensures.begins c.in_ok-one.ensures.adds c.in_ok-two.ensures.adds c.begin.ensures.opening c.call.ensures.opening c.call-2.ensures.opening
    c.commit.new.kernel c.begin.ensures.leaves c.call.ensures.leaves c.call-2.ensures.leaves c.commit.ensures.leaves
