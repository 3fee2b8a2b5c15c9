use Rattle.std.proofs.Common.{◌≡◌, drop}
use Rattle.model.specs.Places.{address_along}
use Rattle.reference.proofs.files.address_along.Given as goal

abbrev pub invariant-loop-j : goal.invariant-loop-j
invariant-loop-j l = address_along l.image l.place (drop l.j l.depths) (drop l.j l.addresses) ≡ address_along l.image l.k l.depths l.addresses
