use Rattle.bcache.specs.Lemmas.Current.{current_write}
use Rattle.bcache.proofs.laws.unshown_write_sets.Goals as goal

pub returns : goal.returns
returns c = current_write
