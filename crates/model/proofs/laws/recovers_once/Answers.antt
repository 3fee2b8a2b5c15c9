use Rattle.model.specs.Lemmas.Recovery.{recovers_once}
use Rattle.model.proofs.laws.recovers_once.Goals as goal

pub returns : goal.returns
returns c = recovers_once
