use mir.Val.{bool_byte}
use Rattle.std.proofs.Common.{◌≡◌, ◌≤◌, length, ℕ, ◌+◌, ◌-◌, ◌*◌, ◌<◌, ◌^◌, List, Bool, drop, true, false, arith, subst, sym}
use Rattle.std.proofs.lemmas.List.{length-drop}
use Rattle.crash_check.specs.Mismatches.{bits_value}
use Rattle.crash_check.proofs.Bits.{one_more_bit}
use Rattle.crash_check.proofs.mismatch.bits_of.Goals as goal

-- there is room for the next bit
room : (keep : List Bool) (done bits : ℕ) → length keep ≤ 64 → done < length keep → bits ≡ bits_value (drop (length keep - done) keep) → bits * 2 + 1 < 2 ^ 64
room keep done bits few inside is =
    subst (λ (n : ℕ). n * 2 + 1 < 2 ^ 64) (sym is) (one_more_bit (drop (length keep - done) keep) (omega (arith, length-drop (length keep - done) keep, few, inside)))

-- a truth value is one bit
one_bit : (b : Bool) (n : ℕ) → n ≡ bool_byte b → n ≤ 1
one_bit true n is = omega (arith, is)
one_bit false n is = omega (arith, is)

pub overflow_mul-bits : goal.overflow_mul-bits
overflow_mul-bits c = omega (arith, room c.args.keep.now c.loop-done.done c.loop-done.bits c.requires c.loop-done-test.true c.loop-done.invariant)

pub overflow_add-bits : goal.overflow_add-bits
overflow_add-bits c = omega (arith, room c.args.keep.now c.loop-done.done c.loop-done.bits c.requires c.loop-done-test.true c.loop-done.invariant, one_bit _ c.from-bit.result c.from-bit.ensures)
