use Rattle.std.proofs.Common.{◌≡◌, ◌∙◌, sym, ap, subst, arith, ℕ, ◌/◌, ◌<◌, [], ◌∷◌, Some, None}
use Rattle.blockmap.specs.Common.{AllocAt, AllocState, byte_with, lowest_in, MayAlloc, Progress, seen, TakesLowest}
use Rattle.blockmap.specs.Getting.{Puts}
use Rattle.blockmap.specs.Lemmas.Bitmap.{lowest_clear_below}
use Rattle.blockmap.proofs.Taking.{takes_some}
use Rattle.blockmap.proofs.balloc.Balloc.take_lowest.Goals as goal

pub byte_with-byte-requires : goal.byte_with-byte-requires
byte_with-byte-requires g c =
    let few : c.self.inside.size < 8192 = omega (arith, c.requires.ready.size, ap (λ (m : AllocState). m.size) c.self.view_is) in
    let low = lowest_clear_below c.data-bits.result.now c.self.inside.size c.in-Some.block c.in-Some.ensures in
    omega (arith, few, low)

pub put_block-requires-clause-fits : goal.put_block-requires-clause-fits
put_block-requires-clause-fits g c =
    let few : c.self.inside.size < 8192 = omega (arith, c.requires.ready.size, ap (λ (m : AllocState). m.size) c.self.view_is) in
    let low = lowest_clear_below c.data-bits.result.now c.self.inside.size c.in-Some.block c.in-Some.ensures in
    omega (arith, few, low)

pub returns : goal.returns
returns g c =
    let v = c.args.volume.now in
    let i = c.args.slot in
    let b = c.in-Some.block in
    let bits = c.data-bits.result.now in
    let m : AllocState = record { bitmap = c.self.inside.bitmap; size = c.self.inside.size; at = c.self.inside.at } in
    let is : m ≡ c.args.self.now = c.self.view_is in
    let ready : MayAlloc g.D.Disk.image v c.args.pid m = subst (λ (k : AllocState). MayAlloc g.D.Disk.image v c.args.pid k) (sym is) c.requires.ready in
    let at : m.at ≡ AllocAt.Looking (Some i) = ap (λ (k : AllocState). k.at) is ∙ c.requires.at in
    let few : m.size < 8192 = ready.size in
    let low = lowest_clear_below bits m.size b c.in-Some.ensures in
    let puts : Puts g.D.Disk.image v c.args.pid i (b / 8) (byte_with bits b ∷ []) c.put_block.new.volume =
    subst (λ (n : ℕ). Puts g.D.Disk.image v c.args.pid i (b / 8) (n ∷ []) c.put_block.new.volume) c.byte_with-byte.ensures c.put_block.ensures in
    subst (λ (k : AllocState). TakesLowest g.D.Disk (lowest_in (seen (g.D.Disk.image v.device) v.buffers) k) v c.args.pid i k Progress.Moved (record m { at = AllocAt.Zeroing b None }) c.put_block.new.volume) is
    (takes_some g.D.Disk v c.args.pid i b m bits c.put_block.new.volume ready at c.data-bits.ensures.bytes c.data-bits.ensures.block.size (omega (arith, few, low)) c.in-Some.ensures puts)
