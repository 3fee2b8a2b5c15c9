use Rattle.inodes.specs.Lemmas.ReadRuns.{reads_part}
use Rattle.inodes.proofs.ReadLemmas.{begun_may_step}
use Rattle.inodes.proofs.laws.reads_part.Goals as goal

pub returns : goal.returns
returns g c = record { begins = begun_may_step g.D.Disk; part = reads_part g.D.Disk }
