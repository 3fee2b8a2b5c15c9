use Rattle.bcache.specs.Lemmas.Current.{current_changed}
use Rattle.bcache.proofs.laws.changing_sets.Goals as goal

pub returns : goal.returns
returns c = current_changed
