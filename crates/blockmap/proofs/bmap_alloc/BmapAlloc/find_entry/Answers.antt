use Rattle.std.proofs.Common.{◌≡◌, ◌∙◌, sym, ap, subst, ℕ, List, Option, Some}
use Rattle.std.specs.Prelude.{slice_index}
use Rattle.blockmap.specs.Common.{entry_under, Image, MapAt, named_by, Node, Progress, seen, words_of}
use Rattle.blockmap.specs.BmapAlloc.{LeadsThere}
use Rattle.blockmap.specs.Lemmas.Branches.{lies_last}
use Rattle.blockmap.specs.Lemmas.Leading.{leads_on}
use Rattle.blockmap.proofs.bmap_alloc.BmapAlloc.find_entry.Goals as goal

pub returns-clause-there : goal.returns-clause-there
returns-clause-there g c = λ d.
    let u = c.release_block.new.volume in
    let n : Node = c.args.node in
    let b = c.args.self.now.branch in
    let bits = c.data.result.now in
    let named : named_by (seen (g.D.Disk.image u.device) u.buffers) n ≡ c.entry-address.result =
    ap (λ (y : Image). named_by y n) c.release_block.ensures.current
    ∙ ap (λ (l : List ℕ). slice_index (words_of l) (entry_under n)) (sym (c.data.ensures.bytes ∙ c.requires.holds.bytes))
    ∙ ap (λ (e : ℕ). slice_index (words_of bits) e) (sym c.entry.ensures.entry)
    ∙ sym c.entry-address.ensures in
    subst (λ (q : Progress (Option ℕ)). LeadsThere g.D.Disk.image q b (MapAt.Entry n (Some c.args.slot)) d u) (sym c.go_on.ensures.progress)
    (leads_on g.D.Disk.image n.level c.entry-address.result b (MapAt.Entry n (Some c.args.slot)) d u
    (λ flat lies. lies_last (seen (g.D.Disk.image u.device) u.buffers) d b n lies flat ∙ named))
