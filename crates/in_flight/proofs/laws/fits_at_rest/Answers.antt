use Rattle.in_flight.specs.Lemmas.AtRest.{fits_at_rest}
use Rattle.in_flight.proofs.laws.fits_at_rest.Goals as goal

pub returns : goal.returns
returns c = fits_at_rest
