use Rattle.std.proofs.Common.{◌≡◌, ◌++◌, ◌+◌, ◌-◌, ◌*◌, ◌≤◌}
use Rattle.model.specs.Places.{pointers_under}
use Rattle.reference.proofs.PlacesLemmas.{behind_from}
use Rattle.reference.proofs.places.+pointers_under.Given as goal

abbrev pub decreases-pointers_under : goal.decreases-pointers_under
decreases-pointers_under l = l.depth

abbrev pub invariant-loop-k : goal.invariant-loop-k
invariant-loop-k l = record {
  rest : l.pointers.items ++ behind_from l.image l.size (l.depth - 1) l.at l.bytes l.k ≡ pointers_under l.image l.size l.depth l.first l.address;
  at : l.at ≤ l.first + l.k * 65536;
}
