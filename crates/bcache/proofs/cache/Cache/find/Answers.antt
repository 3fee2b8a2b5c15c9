use Rattle.std.proofs.Common.{ap, ◌∙◌}
use Rattle.bcache.specs.Common.{Buffers, found}
use Rattle.bcache.proofs.EntryLemmas.{slot_of_entry}
use Rattle.bcache.proofs.cache.Cache.find.Goals as goal

pub returns-then-slot-lt40-clause-slot : goal.returns-then-slot-lt40-clause-slot
returns-then-slot-lt40-clause-slot c =
    c.this_if_of.ensures ∙ slot_of_entry c.self.inside.slot_of _ c.args.block _ c.self.invariant c.deref.ensures.value c.if-slot-lt40.true ∙ ap (λ (d : Buffers). found d c.args.block) c.self.view_is
