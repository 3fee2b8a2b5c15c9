use Rattle.std.proofs.Common.{◌≡◌, ℕ, ◌∙◌, ap, arith}
use Rattle.model.specs.Codec.{with_inode_bytes}
use Rattle.conversion.specs.Common.{moved_inode, overwritten}
use Rattle.conversion.proofs.StepLemmas.{first_inodes, inodes_all, inodes_more}
use Rattle.conversion.proofs.moving.move_inodes.Goals as goal

pub loop-k-preserved : goal.loop-k-preserved
loop-k-preserved c =
    let from = c.args.from in
    let to = c.args.to in
    let k = c.loop-k.k in
    c.write_at.ensures
    ∙ ap (with_inode_bytes c.loop-k.block k) (c.moved_inode.ensures.value ∙ ap (moved_inode from to) c.read_at-inode.ensures.value)
    ∙ inodes_more from to c.args.block.now c.loop-k.block k c.as_slice-bytes.ensures.block (omega (arith, c.loop-k-test.true)) c.loop-k.invariant

pub returns : goal.returns
returns c =
    let k = c.loop-k.k in
    let all : k ≡ 16 = omega (arith, c.loop-k-test.false, c.loop-k.auto.k-end) in
    c.loop-k.invariant
    ∙ ap (λ (n : ℕ). overwritten c.args.block.now 0 (first_inodes c.args.from c.args.to c.args.block.now n)) all
    ∙ inodes_all c.args.from c.args.to c.args.block.now c.as_slice-bytes.ensures.block
