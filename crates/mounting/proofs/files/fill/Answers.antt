use Rattle.std.proofs.Common.{arith}
use Rattle.mounting.proofs.files.fill.Goals as goal

pub returns-in_err-at-clause-makes : goal.returns-in_err-at-clause-makes
returns-in_err-at-clause-makes g c = λ task o first within before. (c.fill_piece.ensures.makes task o first within (c.loop-piece.invariant.makes task o first within before))

pub loop-piece-preserved : goal.loop-piece-preserved
loop-piece-preserved g c = record { ready = c.fill_piece.ensures.ready; makes = λ task o first within before. (c.fill_piece.ensures.makes task o first within (c.loop-piece.invariant.makes task o first within before)); end = c.in_ok-at.ensures.end; more = let next = c.in_ok-at.ensures.more in let so_far = c.loop-piece.invariant.more in omega (arith, next.0, so_far); low = c.in_ok-at.ensures.more.1 }
