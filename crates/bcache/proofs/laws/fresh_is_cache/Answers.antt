use Rattle.bcache.specs.Lemmas.Slots.{cache_fresh}
use Rattle.bcache.proofs.laws.fresh_is_cache.Goals as goal

pub returns : goal.returns
returns c = cache_fresh
