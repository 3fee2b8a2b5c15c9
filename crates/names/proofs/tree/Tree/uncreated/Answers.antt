use Rattle.names.specs.Inside.{files_seen, form_seen}
use Rattle.directories.specs.Lemmas.Unnamed.{remove_undoes}
use Rattle.names.proofs.tree.Tree.uncreated.Goals as goal

pub returns-clause-undoes : goal.returns-clause-undoes
returns-clause-undoes g c = λ files file unnamed.
    (remove_undoes (form_seen g.D.Disk.image c.args.self.now.kernel) files (files_seen g.D.Disk.image c.args.self.now.kernel)
    (files_seen g.D.Disk.image c.called.new.self.kernel) c.args.number file _ unnamed c.in_ok-_done.ensures.answers).1
