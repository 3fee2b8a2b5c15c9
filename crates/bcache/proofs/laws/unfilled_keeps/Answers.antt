use Rattle.bcache.specs.Lemmas.Current.{current_unfilled}
use Rattle.bcache.proofs.laws.unfilled_keeps.Goals as goal

pub returns : goal.returns
returns c = current_unfilled
