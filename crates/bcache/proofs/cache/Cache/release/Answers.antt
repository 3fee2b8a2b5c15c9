use Rattle.bcache.proofs.SlotLemmas.{slot_at}
use Rattle.bcache.proofs.EntryLemmas.{entered_unheld}
use Rattle.bcache.proofs.cache.Cache.release.Goals as goal

pub invariant_of-self : goal.invariant_of-self
invariant_of-self c = entered_unheld c.self.inside.slot_of _ c.args.slot c.index_mut-buffer.result.now _ c.self.invariant c.requires.slot (slot_at _ c.args.slot _ c.self.invariant.cache c.requires.slot c.index_mut-buffer.ensures.value) c.move_to_front.ensures.front
