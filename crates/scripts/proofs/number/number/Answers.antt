use Rattle.std.proofs.Common.{◌≡◌, ◌≢◌, ◌∙◌, ◌<◌, ◌-◌, Some, true, ap, sym, length, get_or, rules, tests, arith}
use Rattle.std.proofs.lemmas.Bool.Decides.{nat_tests}
use Rattle.std.proofs.lemmas.List.{take_all}
use Rattle.std.specs.Char.{is_ascii_digit}
use Rattle.std.specs.List.{list_all}
use Rattle.std.specs.Str.Parse.{digits_value}
use Rattle.scripts.proofs.NumberLemmas.{all_more, number_of-digits, number_of-large, value_more}
use Rattle.scripts.proofs.number.number.Goals as goal
use Rattle.scripts.proofs.number.number.Goals.{then-text-gt1, else-text-gt1}

pub returns-in_err-checked_mul : goal.returns-in_err-checked_mul
returns-in_err-checked_mul c =
    let digit : is_ascii_digit (get_or c.args.text.now c.loop-digit.digit-index 0) ≡ true = search (rules, tests) in
    c.from_residual.ensures ∙ sym (number_of-large c.args.text.now _ c.loop-digit-test.true digit (omega (arith, c.in_err-checked_mul.ensures, c.loop-digit.invariant.value)))

pub returns-in_err-value : goal.returns-in_err-value
returns-in_err-value c =
    let digit : is_ascii_digit (get_or c.args.text.now c.loop-digit.digit-index 0) ≡ true = search (rules, tests) in
    let last : get_or c.args.text.now c.loop-digit.digit-index 0 - 48 ≡ c.from.result = grind (arith, nat_tests) in
    c.from_residual-in_err-value.ensures
    ∙ sym (number_of-large c.args.text.now _ c.loop-digit-test.true digit (omega (arith, last, c.in_err-value.ensures, c.in_ok-checked_mul.ensures.1, c.loop-digit.invariant.value)))

pub loop-digit-preserved : goal.loop-digit-preserved
loop-digit-preserved c =
    let text = c.args.text.now in
    let digit : is_ascii_digit (get_or text c.loop-digit.digit-index 0) ≡ true = search (rules, tests) in
    let last : get_or text c.loop-digit.digit-index 0 - 48 ≡ c.from.result = grind (arith, nat_tests) in
    let more = value_more text _ c.loop-digit-test.true digit in
    record {
      digits = all_more text _ c.loop-digit-test.true c.loop-digit.invariant.digits digit;
      value = omega (arith, last, more, c.in_ok-value.ensures.1, c.in_ok-checked_mul.ensures.1, c.loop-digit.invariant.value);
      small = omega (arith, c.in_ok-value.ensures.0, c.in_ok-value.ensures.1);
    }

pub returns : goal.returns
returns c =
    let text = c.args.text.now in
    let whole = take_all c.loop-digit.digit-index text c.loop-digit-test.false in
    let value : c.loop-digit.value ≡ digits_value 10 text = c.loop-digit.invariant.value ∙ ap (digits_value 10) whole in
    let digits : list_all is_ascii_digit text ≡ true = sym (ap (list_all is_ascii_digit) whole) ∙ c.loop-digit.invariant.digits in
    let some : 0 < length text = grind (arith, nat_tests) in
    let first : 1 < length text → get_or text 0 0 ≢ 48 =
    elim c.if-text-gt1.branch [
      | then-text-gt1 w ↦ λ long. grind (arith, nat_tests, w.value-is, c.if-text-eq48.false)
      | else-text-gt1 w ↦ λ long. absurd (omega arith)
    ] in
    ap Some value ∙ sym (number_of-digits text digits some first (omega arith))
