use Rattle.names.specs.Inside.{files_seen, form_seen}
use Rattle.names.proofs.Relinking.{relinks_by}
use Rattle.names.proofs.tree.Tree.relinked.Goals as goal

pub returns-clause-relinks : goal.returns-clause-relinks
returns-clause-relinks g c =
    relinks_by (form_seen g.D.Disk.image c.args.self.now.kernel) (files_seen g.D.Disk.image c.args.self.now.kernel) (files_seen g.D.Disk.image c.called.new.self.kernel)
    c.args.number c.args.count c.in_ok-_done._done c.requires.there c.in_ok-_done.ensures.answers
