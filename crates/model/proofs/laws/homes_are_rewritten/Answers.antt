use Rattle.model.specs.Lemmas.Recovery.{homes_are_rewritten}
use Rattle.model.proofs.laws.homes_are_rewritten.Goals as goal

pub returns : goal.returns
returns c = homes_are_rewritten
