use Rattle.model.specs.Lemmas.Faults.{verdict_is_first}
use Rattle.model.proofs.laws.verdict_is_first.Goals as goal

pub returns : goal.returns
returns c = verdict_is_first
