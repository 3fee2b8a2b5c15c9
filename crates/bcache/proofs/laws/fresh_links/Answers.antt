use Rattle.std.proofs.Common.{refl}
use Rattle.bcache.specs.Links.{table_of}
use Rattle.bcache.proofs.laws.fresh_links.Goals as goal

pub returns : goal.returns
unfolding table_of
returns c = record { first = refl; last = refl; before_first = refl; after_first = refl }
