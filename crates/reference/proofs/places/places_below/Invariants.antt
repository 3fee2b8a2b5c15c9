use Rattle.std.proofs.Common.{◌≡◌, ◌-◌}
use Rattle.std.specs.List.{flat_map, range_with_len}
use Rattle.model.specs.Places.{pointers_of, addresses_in}
use Rattle.reference.proofs.places.places_below.Given as goal

abbrev pub invariant-loop-i : goal.invariant-loop-i
invariant-loop-i l = l.places.items ≡ flat_map (λ j. addresses_in (pointers_of l.image j)) (range_with_len 1 (l.i - 1))
