use Rattle.std.proofs.Common.{sym, subst, arith}
use Rattle.names.proofs.Recounts.{HasCompared, all_compared, none_compared, one_compared}
use Rattle.names.proofs.recounting.differing.Goals as goal

pub loop-number-init : goal.loop-number-init
loop-number-init c = record { compared = subst (HasCompared c.args.counts.now c.args.links.now 0) (sym c.new-wrong.ensures.items) (none_compared c.args.counts.now c.args.links.now) }

pub loop-number-preserved : goal.loop-number-preserved
loop-number-preserved c = record {
  compared = one_compared c.args.counts.now c.args.links.now c.loop-number.number c.loop-number.wrong.items c.add_if.new.wrong.items (omega (arith, c.loop-number-test.true, c.loop-number.auto.number-end, c.requires.counts)) c.loop-number.invariant.compared c.in_ok-add_if.ensures;
}

pub returns : goal.returns
returns c = all_compared c.args.counts.now c.args.links.now c.loop-number.number c.loop-number.wrong.items (omega (arith, c.loop-number-test.false, c.loop-number.auto.number-end, c.requires.counts)) c.loop-number.invariant.compared
