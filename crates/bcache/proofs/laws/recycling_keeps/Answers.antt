use Rattle.bcache.specs.Lemmas.Current.{current_hidden}
use Rattle.std.proofs.Common.{Some, false, refl}
use Rattle.bcache.specs.Common.{buffer}
use Rattle.bcache.proofs.laws.recycling_keeps.Goals as goal

pub returns : goal.returns
returns c = λ x d pid b i is lt clean. current_hidden x d i (record (buffer d i) { block = Some b; valid = false; holder = Some pid }) is lt refl clean
