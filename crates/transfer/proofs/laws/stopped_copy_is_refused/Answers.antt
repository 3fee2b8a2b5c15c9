use Rattle.transfer.proofs.CopierLemmas.{stopped_copy_is_refused}
use Rattle.transfer.proofs.laws.stopped_copy_is_refused.Goals as goal

pub returns : goal.returns
returns c = stopped_copy_is_refused
