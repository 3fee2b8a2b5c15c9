use Rattle.std.proofs.Common.{◌≡◌, ◌<◌, ◌∙◌, ap, subst, sym, arith, length, length-set, set, rules, drop, get_or, [], ℕ, ◌+◌}
use Rattle.std.specs.Vec.{vec_len}
use Rattle.blocks.specs.Common.{chosen, Held, held_by, Holding, Write}
use Rattle.blocks.proofs.HeldLemmas.{chosen_taken, chosen_passed, held_at, length-held}
use Rattle.blocks.proofs.held.Holding.left.Goals as goal
use Rattle.blocks.proofs.held.Holding.left.Goals.{then-keep-i, else-keep-i}

-- the write in the place of the loop
there : (s : Holding) (i : ℕ) (write : Held) → i < s.count → s.count < length s.places.items + 1 → write ≡ get_or s.places.items i write → get_or (held_by s) i (0, []) ≡ (write.at, write.block)
there s i write lt room is = held_at s i write lt (omega (arith, lt, room)) ∙ ap (λ (h : Held). (h.at, h.block)) (sym is)

pub index_mut-requires : goal.index_mut-requires
index_mut-requires c =
    let s = c.args.self.now in
    let write = c.index-write.result.now in
    let len : vec_len c.loop-i.blocks ≡ length c.loop-i.blocks.items = search rules in
    let inside : write.at < length s.synced.items = subst (λ (w : Write). w.0 < length s.synced.items) (there s c.loop-i.i write c.loop-i-test.true c.requires.room c.index-write.ensures)
    (c.requires.inside c.loop-i.i (omega (arith, c.loop-i-test.true, (length-held s (omega (arith, c.requires.room)))))) in
    omega (arith, len, inside, c.loop-i.invariant.size)

pub loop-i-preserved : goal.loop-i-preserved
loop-i-preserved c =
    let s = c.args.self.now in
    let i = c.loop-i.i in
    let blocks = c.loop-i.blocks.items in
    let below : i < length (held_by s) = omega (arith, c.loop-i-test.true, length-held s (omega (arith, c.requires.room))) in
    let less : i < length c.args.keep.now = omega (arith, c.loop-i-test.true, c.requires.count) in
    elim c.if-keep-i.branch [
      | then-keep-i w ↦
          let write = w.index-write.result.now in
          let items : c.if-keep-i.blocks.items ≡ set blocks write.at write.block = ap (λ v. v.items) w.blocks-is ∙ ap (set blocks write.at) (w.copy_from_slice.ensures.after ∙ w.as_slice.ensures.value) in
          record {
            size = ap length items ∙ length-set blocks write.at write.block ∙ c.loop-i.invariant.size;
            left = ap (λ b. chosen b (drop (i + 1) (held_by s)) (drop (i + 1) c.args.keep.now)) items
                ∙ chosen_taken blocks (held_by s) c.args.keep.now i below less (write.at, write.block) (there s i write c.loop-i-test.true c.requires.room w.index-write.ensures) w.if-keep-i.true
                ∙ c.loop-i.invariant.left;
          }
      | else-keep-i w ↦ record {
        size = ap (λ v. length v.items) w.blocks-is ∙ c.loop-i.invariant.size;
        left = ap (λ v. chosen v.items (drop (i + 1) (held_by s)) (drop (i + 1) c.args.keep.now)) w.blocks-is
            ∙ chosen_passed blocks (held_by s) c.args.keep.now i below less w.if-keep-i.false
            ∙ c.loop-i.invariant.left;
      }
    ]
