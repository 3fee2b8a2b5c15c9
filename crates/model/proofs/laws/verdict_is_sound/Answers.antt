use Rattle.model.specs.Lemmas.Soundness.{verdict_is_sound}
use Rattle.model.proofs.laws.verdict_is_sound.Goals as goal

pub returns : goal.returns
returns c = verdict_is_sound
