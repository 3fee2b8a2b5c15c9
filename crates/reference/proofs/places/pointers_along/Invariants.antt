use Rattle.std.proofs.Common.{◌≡◌, ◌++◌, ◌*◌, ◌≤◌}
use Rattle.model.specs.Places.{pointers_along}
use Rattle.reference.proofs.PlacesLemmas.{along_from}
use Rattle.reference.proofs.places.pointers_along.Given as goal

abbrev pub invariant-loop-k : goal.invariant-loop-k
invariant-loop-k l = record {
  rest : l.pointers.items ++ along_from l.image l.size l.first l.depths l.addresses l.k ≡ pointers_along l.image l.size 0 l.depths l.addresses;
  first : l.first ≤ l.k * 65536;
}
