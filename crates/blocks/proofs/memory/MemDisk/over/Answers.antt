use Rattle.std.proofs.Common.{arith, ℕ, ◌≡◌, ◌/◌, sym, ◌∙◌, subst, length, ap}
use Rattle.std.proofs.Math.Facts.{Fits-lt-pow}
use Rattle.std.specs.Simd.{first_chunks}
use Rattle.blocks.specs.Common.{IsImage}
use Rattle.blocks.proofs.BlockLemmas.{is_image-first_chunks}
use Rattle.blocks.proofs.memory.MemDisk.over.Goals as goal

pub of-requires-clause-blocks : goal.of-requires-clause-blocks
of-requires-clause-blocks c =
    let bytes = c.args.image.now in
    let count : length bytes / 1024 ≡ c.args.size = omega (arith, c.requires.size) in
    let items = c.in_ok-blocks.ensures.items ∙ c.as_chunks.ensures.front ∙ ap (λ (n : ℕ). first_chunks 1024 n bytes) count in
    subst IsImage (sym items) (is_image-first_chunks c.args.size bytes c.requires.size (λ i. Fits-lt-pow (c.type_inv.image i)))
