use Rattle.bcache.specs.Lemmas.Current.{counts_keep_current}
use Rattle.bcache.proofs.laws.counts_keep_current.Goals as goal

pub returns : goal.returns
returns c = counts_keep_current
