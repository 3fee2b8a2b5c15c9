use Rattle.std.proofs.Common.{arith, sym}
use Rattle.cmd.specs.Lemmas.Disks.{file_disk}
use Rattle.commands_runs.proofs.Recording.{no_super}
use Rattle.commands_runs.proofs.heard.count_inodes.Goals as goal

pub returns-then-size-lt2 : goal.returns-then-size-lt2
returns-then-size-lt2 g c =
    sym (no_super (file_disk.image c.args.disk.now) (omega (arith, c.size.ensures, c.if-size-lt2.true)))
