use Rattle.std.proofs.Common.{◌∙◌, ◌++◌, [], ◌∷◌, ℕ, List, Option, map, ap, sym, arith}
use Rattle.std.specs.List.{range_with_len}
use Rattle.std.proofs.lemmas.List.FromFn.{map-range_with_len_more}
use Rattle.directories.specs.Flaws.{home_of}
use Rattle.directories.proofs.flaws.homes_of.Goals as goal

pub loop-number-preserved : goal.loop-number-preserved
loop-number-preserved c =
    let f = home_of c.args.files.now in
    let n = c.loop-number.number in
    c.in_ok-push.ensures.items
    ∙ ap (λ (homes : List (Option ℕ)). homes ++ c.home_of.result ∷ []) c.loop-number.invariant
    ∙ ap (λ (one : Option ℕ). map f (range_with_len 0 n) ++ one ∷ []) c.home_of.ensures
    ∙ sym (map-range_with_len_more f 0 n n (omega arith))
