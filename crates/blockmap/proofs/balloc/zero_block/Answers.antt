use Rattle.std.proofs.Common.{◌∙◌, sym, ap, length}
use Rattle.blockmap.proofs.Taking.{zeroes}
use Rattle.blockmap.proofs.balloc.zero_block.Goals as goal

pub returns : goal.returns
returns g c =
    zeroes g.D.Disk c.args.volume.now c.args.pid c.args.slot c.args.block c.put_block.new.volume c.requires.holds
    (ap length (sym c.data-bytes.ensures.bytes) ∙ c.data-bytes.ensures.block.size) c.put_block.ensures
