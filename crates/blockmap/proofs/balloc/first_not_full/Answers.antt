use Rattle.std.proofs.Common.{arith}
use Rattle.blockmap.proofs.Taking.{all_full, first_clear}
use Rattle.blockmap.proofs.balloc.first_not_full.Goals as goal

pub returns-then-bytes-place : goal.returns-then-bytes-place
returns-then-bytes-place c = first_clear c.args.bytes.now c.loop-place.place c.loop-place-test.true c.if-bytes-place.true c.loop-place.invariant

pub returns : goal.returns
returns c = all_full c.args.bytes.now (λ i from below. c.loop-place.invariant i from (omega (arith, below, c.loop-place-test.false)))
