use Rattle.transfer.proofs.ImageLemmas.{free_counted}
use Rattle.transfer.proofs.judging.free_blocks.Goals as goal

pub returns-clause-count : goal.returns-clause-count
returns-clause-count g c =
    free_counted (g.D.Disk.image c.args.disk.now) c.args.image.now c.requires.checked c.block.new.into c.count_free.result c.in_ok-block.ensures.ok c.count_free.ensures.count
