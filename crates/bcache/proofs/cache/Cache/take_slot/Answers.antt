use Rattle.std.proofs.Common.{ap, subst, sym, ◌∙◌, List, ℕ, Some, false}
use Rattle.bcache.specs.Common.{Buffer, Buffers, found, with_buffer}
use Rattle.bcache.specs.Entries.{IsEntered, with_slot}
use Rattle.bcache.proofs.SlotLemmas.{slot_at}
use Rattle.bcache.proofs.EntryLemmas.{entered_taken}
use Rattle.bcache.proofs.cache.Cache.take_slot.Goals as goal

pub invariant_of-self : goal.invariant_of-self
invariant_of-self c =
    let was : Buffers = record { slots = c.self.inside.buffers.items; order = c.self.inside.order } in
    let at = slot_at was c.args.slot _ c.self.invariant.cache c.requires.slot c.index_mut-buffer.ensures.value in
    let none = ap (λ (d : Buffers). found d c.args.block) c.self.view_is ∙ c.requires.other in
    let table = c.enter.ensures ∙ ap (λ (slots : List Buffer). with_slot c.self.inside.slot_of slots c.args.block c.args.slot) c.deref.ensures.value in
    subst (λ (t : List ℕ). IsEntered t (with_buffer was c.args.slot (record c.index_mut-buffer.result.now { block = Some c.args.block; valid = false; holder = Some c.args.pid }))) (sym table) (entered_taken c.self.inside.slot_of was c.args.pid c.args.block c.args.slot c.index_mut-buffer.result.now c.self.invariant c.requires.slot none at)
