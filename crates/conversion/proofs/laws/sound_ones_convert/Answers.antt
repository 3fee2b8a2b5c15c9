use Rattle.conversion.proofs.OwnLemmas.{sound_ones_convert}
use Rattle.conversion.proofs.laws.sound_ones_convert.Goals as goal

pub returns : goal.returns
returns c = sound_ones_convert
