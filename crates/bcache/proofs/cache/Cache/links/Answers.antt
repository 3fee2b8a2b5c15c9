use Rattle.std.proofs.Common.{ap, subst, ◌∙◌}
use Rattle.bcache.specs.Common.{buffer, Buffers, IsOrder, links_of}
use Rattle.bcache.proofs.LinkLemmas.{few_on_release, walked, walked_back}
use Rattle.bcache.proofs.cache.Cache.links.Goals as goal

pub returns-clause-forward : goal.returns-clause-forward
returns-clause-forward c = walked _ _ c.self.invariant.cache.order c.links.ensures.links ∙ ap (λ (d : Buffers). d.order) c.self.view_is

pub returns-clause-backward : goal.returns-clause-backward
returns-clause-backward c =
    let same = ap (λ (d : Buffers). d.order) c.self.view_is in
    walked_back c.links.result.now c.args.self.now.order (subst IsOrder same c.self.invariant.cache.order) (c.links.ensures.links ∙ ap links_of same)

pub returns-clause-entries : goal.returns-clause-entries
returns-clause-entries c = λ slot lt.
    let same = ap (λ (d : Buffers). d.order) c.self.view_is in
    few_on_release c.links.result.now c.args.self.now.order slot (buffer c.args.self.now slot).pins (subst IsOrder same c.self.invariant.cache.order) lt (c.links.ensures.links ∙ ap links_of same)
