use Rattle.std.proofs.Common.{subst, sym}
use Rattle.blocks.specs.Disk.{Image}
use Rattle.offline.specs.Recovered.{IsRecoveredOf}
use Rattle.second_lines.proofs.room.needed_by_all.Goals as goal

pub loop-number-preserved : goal.loop-number-preserved
loop-number-preserved g c = subst (λ (z : Image). IsRecoveredOf z c.args.image.now) (sym c.inode.ensures.reads.image) c.loop-number.invariant
