use Rattle.in_flight.specs.Lemmas.OutsideLog.{sound_cleared}
use Rattle.in_flight.proofs.laws.sound_cleared.Goals as goal

pub returns : goal.returns
returns c = sound_cleared
