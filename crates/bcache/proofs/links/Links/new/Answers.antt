use Rattle.bcache.proofs.LinkLemmas.{links_first}
use Rattle.bcache.proofs.links.Links.new.Goals as goal

pub returns : goal.returns
returns c = links_first _ _ c.loop-slot.slot c.loop-slot.invariant.before c.loop-slot.invariant.after c.loop-slot-test.false c.loop-slot.auto.slot-end
