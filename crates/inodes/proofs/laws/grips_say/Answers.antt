use Rattle.inodes.specs.Lemmas.Grips.{has_place_for_each, locks_exclude, holder_is_another}
use Rattle.inodes.proofs.laws.grips_say.Goals as goal

pub returns : goal.returns
returns c = record { place = has_place_for_each; exclude = locks_exclude; another = holder_is_another }
