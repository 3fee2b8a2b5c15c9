use Rattle.in_flight.specs.Lemmas.Claims.{fits_claimed}
use Rattle.in_flight.proofs.laws.fits_claimed.Goals as goal

pub returns : goal.returns
returns c = fits_claimed
