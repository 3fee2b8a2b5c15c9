use Rattle.std.proofs.Common.{◌≡◌, ◌-◌, ◌∙◌, ap, arith}
use Rattle.std.specs.List.{flat_map, range_with_len}
use Rattle.model.specs.Places.{pointers_of, addresses_in}
use Rattle.reference.proofs.places.places_below.Goals as goal

pub returns : goal.returns
returns c =
    let end : c.loop-i.i - 1 ≡ c.args.end - 1 = omega arith in
    c.loop-i.invariant ∙ ap (λ n. flat_map (λ j. addresses_in (pointers_of c.args.image.now j)) (range_with_len 1 n)) end
