use Rattle.model.specs.Lemmas.Runs.{refusals_first}
use Rattle.model.proofs.laws.refusals_first.Goals as goal

pub returns : goal.returns
returns c = refusals_first
