use Rattle.std.proofs.Common.{◌∙◌, ◌<◌, ap, List, ℕ, ◌*◌, subst, length}
use Rattle.blocks.specs.Block.{overwritten}
use Rattle.blocks.specs.Disk.{block_at, Image}
use Rattle.xvfs_c.proofs.Chunks.{laid}
use Rattle.xvfs_c.proofs.image.store.Goals as goal

pub loop-b-preserved : goal.loop-b-preserved
loop-b-preserved c =
    let x : Image = c.args.disk.now.blocks.items in
    let b : ℕ = c.loop-b.b in
    let inside : b < length x = subst (λ (n : ℕ). b < n) c.size-b-end.ensures c.loop-b-test.true in
    c.put.ensures ∙ ap (overwritten c.loop-b.image (b * 1024)) c.block.ensures.value
    ∙ ap (λ (l : List ℕ). overwritten l (b * 1024) (block_at x b)) c.loop-b.invariant
    ∙ laid x c.args.image.now b c.args.disk.now.is_image inside
