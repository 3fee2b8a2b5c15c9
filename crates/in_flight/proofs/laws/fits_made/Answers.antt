use Rattle.in_flight.specs.Lemmas.Made.{fits_made}
use Rattle.in_flight.proofs.laws.fits_made.Goals as goal

pub returns : goal.returns
returns c = fits_made
