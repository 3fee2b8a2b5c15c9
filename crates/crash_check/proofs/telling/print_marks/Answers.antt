use Rattle.std.proofs.Common.{◌≡◌, ◌∙◌, ◌+◌, ◌-◌, ◌<◌, ◌/◌, ◌++◌, ℕ, suc, List, append_assoc, ap, arith}
use Rattle.std.proofs.KnownBytes.{Appends-trans}
use Rattle.crash_check.specs.Faults.{mark_text, marks_text}
use Rattle.crash_check.proofs.telling.print_marks.Goals as goal

-- the next mark, and the rest behind it
next_mark : (n held bits : ℕ) → n < held → mark_text n bits ++ marks_text (n + 1) (held - (n + 1)) (bits / 2) ≡ marks_text n (held - n) bits
next_mark n held bits more = let one : suc (held - (n + 1)) ≡ held - n = omega (arith, more) in ap (λ (k : ℕ). marks_text n k bits) one

pub loop-place-preserved : goal.loop-place-preserved
loop-place-preserved g c =
    let done = c.loop-place.invariant.0 in
    let n = c.loop-place.place in
    let bits = c.loop-place.bits in
    let held = c.args.choice.held in (
      done ++ mark_text n bits,
      Appends-trans _ _ _ done (mark_text n bits) c.loop-place.invariant.1 c.in_ok-print_mark.ensures.ok,
      append_assoc done _ _ ∙ ap (λ (t : List ℕ). done ++ t) (next_mark n held bits c.loop-place-test.true) ∙ c.loop-place.invariant.2,
    )
