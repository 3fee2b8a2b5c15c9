use Rattle.offline.specs.Lemmas.Checked.{inode_used, none_free, none_past}
use Rattle.model.specs.Log.{recovered}
use Rattle.model.specs.Lemmas.FileNumbers.{none_at_zero}
use Rattle.offline.proofs.recovered.Recovered.inode_at.Goals as goal
use Rattle.offline.proofs.recovered.Recovered.inode_at.Goals.{then-number-eq0-via-then-number-eq0, then-number-eq0-via-else-number-eq0+then-number-self}

pub returns-then-number-eq0-clause-none : goal.returns-then-number-eq0-clause-none
returns-then-number-eq0-clause-none g c =
    let x = g.D.Disk.image c.args.disk.now in
    elim c.then-number-eq0.branch [
      | then-number-eq0-via-then-number-eq0 w ↦ none_at_zero (recovered x) c.args.number w.if-number-eq0.true
      | then-number-eq0-via-else-number-eq0+then-number-self w ↦ none_past x c.args.self.now c.args.number c.requires.checked.recovered w.if-number-self.true
    ]

pub returns-then-inode-eq0-clause-none : goal.returns-then-inode-eq0-clause-none
returns-then-inode-eq0-clause-none g c =
    none_free (g.D.Disk.image c.args.disk.now) c.args.self.now c.args.number c.in_ok-inode.inode c.requires.checked.recovered c.if-number-eq0.false c.if-number-self.false c.in_ok-inode.ensures.ok c.if-inode-eq0.true

pub returns-clause-found : goal.returns-clause-found
returns-clause-found g c =
    inode_used (g.D.Disk.image c.args.disk.now) c.args.self.now c.args.number c.in_ok-inode.inode (g.met.D.Disk.is_image c.args.disk.now) c.checked_files_may_be_read.ensures c.requires.checked c.if-number-eq0.false c.if-number-self.false c.in_ok-inode.ensures.ok c.if-inode-eq0.false
