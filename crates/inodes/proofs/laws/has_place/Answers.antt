use Rattle.inodes.specs.Lemmas.Table.{has_place}
use Rattle.inodes.proofs.laws.has_place.Goals as goal

pub returns : goal.returns
returns c = has_place
