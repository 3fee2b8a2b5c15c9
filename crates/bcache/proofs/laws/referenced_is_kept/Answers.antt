use Rattle.bcache.proofs.SlotLemmas.{referenced_kept}
use Rattle.bcache.proofs.laws.referenced_is_kept.Goals as goal

pub returns : goal.returns
returns c = referenced_kept
