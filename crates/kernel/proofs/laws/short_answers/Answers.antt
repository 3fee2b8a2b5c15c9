use Rattle.kernel.proofs.Causes.{made_has_cause, no_inode_has_cause}
use Rattle.kernel.proofs.ShortCauses.{short_has_cause}
use Rattle.kernel.proofs.laws.short_answers.Goals as goal

pub returns : goal.returns
returns g c = record {
  none = no_inode_has_cause g.D.Disk g.I.Intake g.H.Herald;
  made = made_has_cause g.D.Disk g.I.Intake g.H.Herald;
  short = short_has_cause g.D.Disk g.I.Intake g.H.Herald;
}
