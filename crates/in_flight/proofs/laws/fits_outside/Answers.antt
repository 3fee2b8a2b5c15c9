use Rattle.in_flight.specs.Lemmas.OutsideLog.{fits_outside}
use Rattle.in_flight.proofs.laws.fits_outside.Goals as goal

pub returns : goal.returns
returns c = fits_outside
