use Rattle.std.proofs.Common.{ℕ, List, [], ◌++◌, ap, ◌∙◌, rules, append_assoc, append-nil, sym}
use Rattle.std.proofs.Output.{has_written_append, has_written_of_eq}
use Rattle.std.proofs.lemmas.List.{nil_from_length}
use Rattle.std.specs.Slice.Iter.{chunks_rest}
use Rattle.hex.specs.Hex.{encode_lower, lower_digits}
use Rattle.messages.proofs.Digits.{encode_with-append, encode_with-nil}
use Rattle.messages.proofs.events.HexTextDisplay.fmt.Goals as goal

pub loop-piece-init : goal.loop-piece-init
loop-piece-init g c = (search rules, tt, search rules, λ plain. ([], search rules, search rules))

pub loop-piece-preserved : goal.loop-piece-preserved
loop-piece-preserved g c =
    let piece = c.in-Some.piece.now in
    let left = chunks_rest c.next.new.self in
    let steps = c.in-Some.ensures.steps in (
      search rules,
      tt,
      steps.0 ∙ c.loop-piece.invariant.2,
      λ plain.
          let so_far = c.loop-piece.invariant.3 plain in (
            so_far.0 ++ encode_lower piece,
            has_written_append _ _ _ _ _ _ so_far.1 (search rules),
            append_assoc so_far.0 _ _
                ∙ ap (λ (t : List ℕ). so_far.0 ++ t) (sym (encode_with-append lower_digits piece left) ∙ ap encode_lower (sym steps.1.0))
                ∙ so_far.2,
          ),
    )

pub returns-clause-writes : goal.returns-clause-writes
returns-clause-writes g c = λ plain _.
    let so_far = c.loop-piece.invariant.3 plain in
    let none = nil_from_length _ c.in-None.ensures.steps.1.0 in
    has_written_of_eq _ _ _ _ _ (rw (none, encode_with-nil, append-nil) at so_far.2) so_far.1
