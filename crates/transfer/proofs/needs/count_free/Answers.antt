use Rattle.std.proofs.Common.{◌≡◌, ◌∙◌, ℕ, Bool, cond, not, ap, sym, arith}
use Rattle.model.specs.Fields.{has_bit}
use Rattle.transfer.proofs.NeedLemmas.{counted_next}
use Rattle.transfer.proofs.needs.count_free.Goals as goal
use Rattle.transfer.proofs.needs.count_free.Goals.{then-not-bit, else-not-bit}

pub loop-b-preserved : goal.loop-b-preserved
loop-b-preserved c =
    let free = λ (b : ℕ). not (has_bit c.args.bitmap.now b) in
    let one : Bool → ℕ = λ v. cond (not v) 1 0 in
    elim c.if-not-bit.branch [
      | then-not-bit w ↦
          let here : one (has_bit c.args.bitmap.now c.loop-b.b) ≡ 1 = ap one (sym c.bit.ensures ∙ w.if-not-bit.true) in
          record {
            few = omega arith;
            counted = counted_next free c.loop-b.b c.args.size c.loop-b.free c.if-not-bit.free _ c.loop-b-test.true c.loop-b.invariant.counted (omega (arith, here));
          }
      | else-not-bit w ↦
          let here : one (has_bit c.args.bitmap.now c.loop-b.b) ≡ 0 = ap one (sym c.bit.ensures ∙ w.if-not-bit.false) in
          record {
            few = omega arith;
            counted = counted_next free c.loop-b.b c.args.size c.loop-b.free c.if-not-bit.free _ c.loop-b-test.true c.loop-b.invariant.counted (omega (arith, here));
          }
    ]
