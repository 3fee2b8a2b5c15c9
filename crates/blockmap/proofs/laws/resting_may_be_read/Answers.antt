use Rattle.blockmap.specs.Lemmas.Resting.{resting_may_be_read}
use Rattle.blockmap.proofs.laws.resting_may_be_read.Goals as goal

pub returns : goal.returns
returns c = resting_may_be_read
