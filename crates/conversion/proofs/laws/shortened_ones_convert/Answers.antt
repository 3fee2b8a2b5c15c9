use Rattle.conversion.proofs.BackLemmas.{shortened_ones_convert}
use Rattle.conversion.proofs.laws.shortened_ones_convert.Goals as goal

pub returns : goal.returns
returns c = shortened_ones_convert
