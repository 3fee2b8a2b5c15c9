use Rattle.in_flight.specs.Lemmas.Claims.{claims}
use Rattle.in_flight.proofs.laws.claims.Goals as goal

pub returns : goal.returns
returns c = claims
