use Rattle.in_flight.specs.Lemmas.Soundly.{fits_sound}
use Rattle.in_flight.proofs.laws.fits_sound.Goals as goal

pub returns : goal.returns
returns c = fits_sound
