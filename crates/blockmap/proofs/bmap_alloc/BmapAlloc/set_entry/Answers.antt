use Rattle.std.proofs.Common.{◌≡◌, ◌∙◌, sym, ap, subst, arith, ℕ, ◌*◌, ◌^◌, ◌<◌, List, length, Option}
use Rattle.blockmap.specs.Common.{block_at, entry_under, Image, MapAt, Node, overwritten, Progress, seen, with_entry}
use Rattle.blockmap.specs.BmapAlloc.{LeadsThere}
use Rattle.blockmap.specs.Lemmas.Branches.{lies_last}
use Rattle.blockmap.specs.Lemmas.Leading.{entry_set, leads_on}
use Rattle.blockmap.specs.Lemmas.Putting.{writes_put}
use Rattle.blockmap.proofs.bmap_alloc.BmapAlloc.set_entry.Goals as goal

pub returns-clause-there : goal.returns-clause-there
returns-clause-there g c = λ d.
    let v = c.args.volume.now in
    let u = c.put_block.new.volume in
    let n : Node = c.args.node in
    let b = c.args.self.now.branch in
    let a = c.in-Some.block in
    let x : Image = seen (g.D.Disk.image v.device) v.buffers in
    let y : Image = seen (g.D.Disk.image u.device) u.buffers in
    let e = entry_under n in
    let at = 4 * c.entry.result in
    let bytes = c.bytes.result in
    let small : a < 2 ^ 32 = omega arith in
    let low : e < 256 = let within = c.entry.ensures.within in omega (arith, c.entry.ensures.entry, within) in
    let full : length (block_at x n.block) ≡ 1024 = ap length (sym (c.data-entries.ensures.bytes ∙ c.requires.holds.bytes)) ∙ c.data-entries.ensures.block.size in
    let makes : overwritten (block_at x n.block) at bytes ≡ with_entry (block_at x n.block) e a =
    ap (λ (l : List ℕ). overwritten (block_at x n.block) at l) c.bytes.ensures.value
    ∙ ap (λ (j : ℕ). with_entry (block_at x n.block) j a) c.entry.ensures.entry in
    let writes = writes_put g.D.Disk v c.args.pid c.args.slot n.block at bytes (with_entry (block_at x n.block) e a) u c.requires.holds makes c.put_block.ensures in
    subst (λ (q : Progress (Option ℕ)). LeadsThere g.D.Disk.image q b (MapAt.Setting n c.args.slot c.args.found) d u) (sym c.go_on.ensures.progress)
    (leads_on g.D.Disk.image n.level a b (MapAt.Setting n c.args.slot c.args.found) d u
    (λ flat lies. lies_last y d b n lies flat ∙ entry_set x y n.block e a full low small writes.current))
