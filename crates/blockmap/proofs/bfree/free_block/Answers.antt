use Rattle.std.proofs.Common.{◌≡◌, ◌∙◌, ap, sym, subst, arith, ℕ, ◌/◌, List, [], ◌∷◌}
use Rattle.blockmap.specs.Common.{block_at, overwritten, seen}
use Rattle.model.specs.Codec.{without_bit}
use Rattle.blockmap.specs.Bfree.{byte_without}
use Rattle.blockmap.specs.Getting.{Puts, block_at_slot}
use Rattle.blockmap.specs.Lemmas.Putting.{writes_put}
use Rattle.blockmap.proofs.Clearing.{without_byte}
use Rattle.blockmap.proofs.bfree.free_block.Goals as goal

pub returns : goal.returns
returns g c =
    let v = c.args.volume.now in
    let i = c.args.slot in
    let b = c.args.block in
    let bits = c.data.result.now in
    let x = seen (g.D.Disk.image v.device) v.buffers in
    let w = c.put_block.new.volume in
    let few = c.requires.bit in
    let long = c.data.ensures.block.size in
    let same : bits ≡ block_at x (block_at_slot v i) = c.data.ensures.bytes ∙ c.requires.holds.bytes in
    let puts : Puts g.D.Disk.image v c.args.pid i (b / 8) (byte_without bits b ∷ []) w =
    subst (λ (n : ℕ). Puts g.D.Disk.image v c.args.pid i (b / 8) (n ∷ []) w) c.byte_without-byte.ensures c.put_block.ensures in
    let makes : overwritten bits (b / 8) (byte_without bits b ∷ []) ≡ without_bit bits b = without_byte bits b (omega (arith, few, long)) in
    writes_put g.D.Disk v c.args.pid i (block_at_slot v i) (b / 8) (byte_without bits b ∷ []) (without_bit (block_at x (block_at_slot v i)) b) w c.requires.holds
    (ap (λ (l : List ℕ). overwritten l (b / 8) (byte_without bits b ∷ [])) (sym same) ∙ makes ∙ ap (λ (l : List ℕ). without_bit l b) same) puts
