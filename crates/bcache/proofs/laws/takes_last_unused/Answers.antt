use Rattle.bcache.proofs.SlotLemmas.{last_unused_taken}
use Rattle.bcache.proofs.laws.takes_last_unused.Goals as goal

pub returns : goal.returns
returns c = last_unused_taken
