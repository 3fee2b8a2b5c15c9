use Rattle.std.proofs.Common.{◌≡◌, ℕ, List, ◌∙◌, map, take, ap, get_or, arith}
use Rattle.model.specs.Codec.{with_entry}
use Rattle.conversion.specs.Common.{bytes_of_words, moved, overwritten, words_of}
use Rattle.conversion.proofs.StepLemmas.{words_all, words_more}
use Rattle.conversion.proofs.moving.move_entries.Goals as goal

pub loop-e-preserved : goal.loop-e-preserved
loop-e-preserved c =
    let from = c.args.from in
    let to = c.args.to in
    let e = c.loop-e.e in
    c.set_entry.ensures
    ∙ ap (with_entry c.loop-e.block e) (c.moved.ensures ∙ ap (λ (words : List ℕ). moved from to (get_or words e 0)) c.read_all-addresses.ensures.value)
    ∙ words_more from to c.args.block.now c.loop-e.block e c.as_slice-bytes.ensures.block.size (omega (arith, c.loop-e-test.true)) c.loop-e.invariant

pub returns : goal.returns
returns c =
    let e = c.loop-e.e in
    let all : e ≡ 256 = omega (arith, c.loop-e-test.false, c.loop-e.auto.e-end) in
    c.loop-e.invariant
    ∙ ap (λ (n : ℕ). overwritten c.args.block.now 0 (bytes_of_words (take n (map (moved c.args.from c.args.to) (words_of c.args.block.now))))) all
    ∙ words_all c.args.from c.args.to c.args.block.now c.as_slice-bytes.ensures.block.size
