use Rattle.inodes.specs.Lemmas.Runs.{no_inode_saw_all, made_saw_lower}
use Rattle.inodes.proofs.laws.search_saw.Goals as goal

pub returns : goal.returns
returns g c = record { none = no_inode_saw_all g.D.Disk; made = made_saw_lower g.D.Disk }
