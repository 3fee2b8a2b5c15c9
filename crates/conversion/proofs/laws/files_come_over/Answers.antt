use Rattle.conversion.proofs.OverLemmas.{files_come_over}
use Rattle.conversion.proofs.laws.files_come_over.Goals as goal

pub returns : goal.returns
returns c = files_come_over
