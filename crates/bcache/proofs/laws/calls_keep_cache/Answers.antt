use Rattle.bcache.proofs.SlotLemmas.{calls_keep}
use Rattle.bcache.proofs.laws.calls_keep_cache.Goals as goal

pub returns : goal.returns
returns c = calls_keep
