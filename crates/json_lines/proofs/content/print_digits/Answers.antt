use Rattle.std.proofs.Common.{ℕ, List, [], ◌++◌, ap, ◌∙◌, rules, append_assoc, append-nil, subst, sym}
use Rattle.std.proofs.KnownBytes.{Appends-nil, Appends-trans}
use Rattle.std.proofs.lemmas.List.{nil_from_length}
use Rattle.std.specs.Io.KnownBytes.{Appends}
use Rattle.std.specs.Slice.Iter.{chunks_rest}
use Rattle.hex.specs.Hex.{encode_lower, lower_digits}
use Rattle.json_lines.proofs.Pieces.{encode_with-append, encode_with-nil}
use Rattle.json_lines.proofs.content.print_digits.Goals as goal

pub loop-piece-init : goal.loop-piece-init
loop-piece-init g c = (search rules, tt, search rules, ([], Appends-nil _, search rules))

pub loop-piece-preserved : goal.loop-piece-preserved
loop-piece-preserved g c =
    let piece = c.in-Some.piece.now in
    let left = chunks_rest c.next.new.self in
    let steps = c.in-Some.ensures.steps in
    let so_far = c.loop-piece.invariant.3 in
    let more = subst (Appends (g.O.Write.contents c.loop-piece.out) (g.O.Write.contents c.write_bytes.new.out)) c.digits_of.ensures c.in_ok-write_bytes.ensures.ok in (
      search rules,
      tt,
      steps.0 ∙ c.loop-piece.invariant.2,
      (
        so_far.0 ++ encode_lower piece,
        Appends-trans _ _ _ so_far.0 (encode_lower piece) so_far.1 more,
        append_assoc so_far.0 _ _
            ∙ ap (λ (t : List ℕ). so_far.0 ++ t) (sym (encode_with-append lower_digits piece left) ∙ ap encode_lower (sym steps.1.0))
            ∙ so_far.2,
      ),
    )

pub returns : goal.returns
returns g c =
    let so_far = c.loop-piece.invariant.3 in
    let none = nil_from_length _ c.in-None.ensures.steps.1.0 in
    record { ok = subst (Appends (g.O.Write.contents c.args.out.now) (g.O.Write.contents c.loop-piece.out)) (rw (none, encode_with-nil, append-nil) at so_far.2) so_far.1 }
