use Rattle.bcache.proofs.SlotLemmas.{no_buffer_full}
use Rattle.bcache.proofs.laws.no_buffer_is_full.Goals as goal

pub returns : goal.returns
returns c = no_buffer_full
