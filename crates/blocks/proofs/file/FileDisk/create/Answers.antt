use Rattle.blocks.proofs.PlacedLemmas.{mirrors_sized}
use Rattle.blocks.proofs.file.FileDisk.create.Goals as goal

pub returns-clause-mirrors : goal.returns-clause-mirrors
returns-clause-mirrors g c = mirrors_sized g.F.Placed.bytes c.sized.result (g.F.Placed.bytes c.in_ok-file.file) c.in_ok-copy.copy c.args.size c.in_ok-copy.ensures.image c.sized.ensures.copy c.sized.ensures.bytes
