use Rattle.std.proofs.Common.{◌≡◌, ◌++◌, ◌∷◌, Some, arith, inr, string_bytes}
use Rattle.std.proofs.lemmas.Str.Pattern.{split_parts}
use Rattle.cli.proofs.tips.tipped.Goals as goal

pub returns-in-Ok : goal.returns-in-Ok
returns-in-Ok c =
    let first = c.in-Some.first.now in
    let rest = c.in-Some.rest.now in
    let parts = split_parts 10 c.as_str.result.now (Some (c.in-Some.first, c.in-Some.rest)) c.in-Some.ensures.cases (omega arith) in
    let was : string_bytes c.args.text ≡ first ++ 10 ∷ rest = rw (← c.as_str.ensures.value) parts.0 in
    inr (record { first = first; rest = rest; was = was; now = c.in-Ok.ensures.ok })
