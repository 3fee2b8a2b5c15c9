use Rattle.model.specs.Lemmas.Recovery.{home_writes_keep}
use Rattle.model.proofs.laws.home_writes_keep.Goals as goal

pub returns : goal.returns
returns c = home_writes_keep
