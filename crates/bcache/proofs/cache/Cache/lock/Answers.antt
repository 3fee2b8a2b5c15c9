use Rattle.std.proofs.Common.{ap}
use Rattle.bcache.specs.Common.{Buffer}
use Rattle.bcache.proofs.SlotLemmas.{slot_at}
use Rattle.bcache.proofs.EntryLemmas.{entered_kept}
use Rattle.bcache.proofs.cache.Cache.lock.Goals as goal

pub invariant_of-self-2 : goal.invariant_of-self-2
invariant_of-self-2 c = entered_kept c.self.inside.slot_of _ c.args.slot _ c.self.invariant c.requires (ap (λ (s : Buffer). s.block) (slot_at _ c.args.slot _ c.self.invariant.cache c.requires c.index_mut-buffer.ensures.value))
