use Rattle.std.proofs.Common.{◌≡◌, ◌≢◌, ◌∙◌, ◌<◌, ℕ, List, length, get_or, replicate, refl, sym, ap, arith}
use Rattle.blocks.specs.Block.{zero_block}
use Rattle.blocks.specs.Disk.{Image, block_at}
use Rattle.model.specs.Log.{homes_of, logged_count, recovered}
use Rattle.xvfs_c.proofs.Homing.{header_block, home_block}
use Rattle.xvfs_c.proofs.recovering.tell_at.Goals as goal

-- the log's block is the home's once it is recovered
pub returns-then-place-count-clause-laid : goal.returns-then-place-count-clause-laid
returns-then-place-count-clause-laid c =
    let x : Image = c.args.blocks.now in
    let homes : c.as_slice-homes.result.now ≡ homes_of x = c.as_slice-homes.ensures.value ∙ c.requires.homes in
    let some : logged_count x ≢ 0 = λ e. c.if-header-eq0.false (c.requires.count ∙ e) in
    let lt : c.args.place < length (homes_of x) = omega (arith, c.if-place-count.true, ap (λ (l : List ℕ). length l) homes) in
    c.copy_from_slice.ensures.after
    ∙ sym (home_block x c.requires.lawful some (omega (arith, c.requires.long)) c.args.place lt)
    ∙ ap (λ (l : List ℕ). block_at (recovered x) (get_or l c.args.place 0)) (sym homes)

zeroes : replicate 1024 0 ≡ zero_block
unfolding zero_block
zeroes = refl

-- so is the empty header
pub returns-in-1-clause-laid : goal.returns-in-1-clause-laid
returns-in-1-clause-laid c =
    let x : Image = c.args.blocks.now in
    let some : logged_count x ≢ 0 = λ e. c.if-header-eq0.false (c.requires.count ∙ e) in
    c.copy_from_slice-in-1.ensures.after ∙ zeroes ∙ sym (header_block x c.requires.lawful some (omega (arith, c.requires.long)))
