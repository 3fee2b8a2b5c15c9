use Rattle.std.proofs.Common.{refl}
use Rattle.clap.proofs.OnLiterals.{clap_on_literals}
use Rattle.xvfs_words.proofs.words.RequestByWords.outline.Goals as goal

pub returns-clause-free : goal.returns-clause-free
unfolding clap_on_literals
returns-clause-free c = refl
