use Rattle.conversion.proofs.OlderSoundLemmas.{soundness_is_kept}
use Rattle.conversion.proofs.laws.soundness_is_kept.Goals as goal

pub returns : goal.returns
returns c = soundness_is_kept
