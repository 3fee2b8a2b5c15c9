use Rattle.bcache.specs.Lemmas.Current.{current_filled}
use Rattle.bcache.proofs.laws.filling_keeps.Goals as goal

pub returns : goal.returns
returns c = current_filled
