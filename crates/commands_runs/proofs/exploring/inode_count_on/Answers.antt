use Rattle.std.proofs.Common.{arith, sym}
use Rattle.commands.specs.Copied.{memory}
use Rattle.commands_runs.proofs.Recording.{no_super}
use Rattle.commands_runs.proofs.exploring.inode_count_on.Goals as goal

pub returns-then-size-lt2 : goal.returns-then-size-lt2
returns-then-size-lt2 c =
    sym (no_super (memory.image c.args.disk.now) (omega (arith, c.size.ensures, c.if-size-lt2.true)))
