use Rattle.bcache.specs.Lemmas.Current.{current_same_write}
use Rattle.bcache.proofs.laws.shown_write_keeps.Goals as goal

pub returns : goal.returns
returns c = λ x d i b bytes is here. current_same_write x d i b bytes is.once here
