use Rattle.blockmap.specs.Lemmas.Bitmap.{lowest_clear_is_lowest}
use Rattle.blockmap.proofs.laws.lowest_clear_is_lowest.Goals as goal

pub returns : goal.returns
returns c = lowest_clear_is_lowest
