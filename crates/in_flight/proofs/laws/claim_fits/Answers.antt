use Rattle.in_flight.specs.Lemmas.WriteBacks.{claim_fits}
use Rattle.in_flight.proofs.laws.claim_fits.Goals as goal

pub returns : goal.returns
returns c = claim_fits
