use Rattle.std.proofs.Common.{ℕ, replicate, sym, subst}
use Rattle.bcache.specs.Common.{Buffers, length-replicate}
use Rattle.bcache.proofs.SlotLemmas.{fresh_from}
use Rattle.bcache.proofs.EntryLemmas.{entered_fresh}
use Rattle.bcache.specs.Entries.{IsEntered}
use Rattle.bcache.proofs.cache.Cache.new.Goals as goal

pub invariant_of-result : goal.invariant_of-result
invariant_of-result c = subst (λ (d : Buffers). IsEntered (replicate 8192 0) d) (sym (fresh_from _ _ c.loop-slot.slot c.loop-slot.invariant c.loop-slot-test.false c.loop-slot.auto.slot-end c.new.ensures)) (entered_fresh (replicate 8192 0) (length-replicate {A = ℕ} 8192 0))

pub returns : goal.returns
returns c = fresh_from _ _ c.loop-slot.slot c.loop-slot.invariant c.loop-slot-test.false c.loop-slot.auto.slot-end c.new.ensures
