use Rattle.std.proofs.Common.{◌≡◌, ◌∙◌, ap, arith, ℕ, ◌+◌, ◌*◌, List, length, get_or, Some}
use Rattle.blockmap.specs.Common.{lowest_clear}
use Rattle.blockmap.proofs.Taking.{none_clear, clear_below, clear_past}
use Rattle.blockmap.proofs.balloc.lowest_clear.Goals as goal

pub returns-in_err-at : goal.returns-in_err-at
returns-in_err-at c =
    let bits = c.as_slice-bytes.result.now in
    let long : length bits ≡ 1024 = ap length c.as_slice-bytes.ensures.value ∙ c.as_slice-bytes.ensures.block.size in
    c.from_residual.ensures
    ∙ none_clear bits c.args.size (omega (arith, long, c.requires)) c.in_err-at.ensures
    ∙ ap (λ (l : List ℕ). lowest_clear l c.args.size) c.as_slice-bytes.ensures.value

pub returns-then-bit-size : goal.returns-then-bit-size
returns-then-bit-size c =
    let is = c.as_slice-bytes.ensures.value in
    let few = c.as_slice-bytes.ensures.block.each in
    let at = c.in_ok-at.at in
    ap (λ (t : ℕ). Some (8 * at + t)) c.trailing_ones.ensures
    ∙ clear_below c.as_slice-bytes.result.now c.args.size at (λ i. omega (arith, few i, ap (λ (l : List ℕ). get_or l i 0) is)) c.in_ok-at.ensures
    (omega (arith, c.if-bit-size.true, c.trailing_ones.ensures))
    ∙ ap (λ (l : List ℕ). lowest_clear l c.args.size) is

pub returns-else-bit-size : goal.returns-else-bit-size
returns-else-bit-size c =
    let is = c.as_slice-bytes.ensures.value in
    let few = c.as_slice-bytes.ensures.block.each in
    clear_past c.as_slice-bytes.result.now c.args.size c.in_ok-at.at (λ i. omega (arith, few i, ap (λ (l : List ℕ). get_or l i 0) is)) c.in_ok-at.ensures
    (omega (arith, c.if-bit-size.false, c.trailing_ones.ensures))
    ∙ ap (λ (l : List ℕ). lowest_clear l c.args.size) is
