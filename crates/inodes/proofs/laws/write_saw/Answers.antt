use Rattle.inodes.specs.Lemmas.WriteRuns.{short_saw_full}
use Rattle.inodes.proofs.laws.write_saw.Goals as goal

pub returns : goal.returns
returns g c = record { short = short_saw_full g.D.Disk }
