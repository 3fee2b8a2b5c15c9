use Rattle.lost_writes.proofs.Freshening.{breaks_as_stopped, freshens_safely}
use Rattle.lost_writes.proofs.laws.freshens_safely.Goals as goal

pub returns : goal.returns
returns c = record { left = breaks_as_stopped; anew = freshens_safely }
