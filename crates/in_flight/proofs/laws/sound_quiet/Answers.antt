use Rattle.in_flight.specs.Lemmas.Soundly.{sound_quiet}
use Rattle.in_flight.proofs.laws.sound_quiet.Goals as goal

pub returns : goal.returns
returns c = sound_quiet
