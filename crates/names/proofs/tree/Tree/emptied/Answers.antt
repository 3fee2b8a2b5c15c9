use Rattle.names.specs.Inside.{files_seen}
use Rattle.directories.specs.Trees.{IsDirectory}
use Rattle.names.proofs.PlainFiles.{not_told}
use Rattle.names.proofs.PlainPuts.{empties_plain, empties_tree}
use Rattle.names.proofs.tree.Tree.emptied.Goals as goal

pub returns-clause-tree : goal.returns-clause-tree
returns-clause-tree g c =
    empties_tree g.D.Disk c.args.self.now.kernel c.is_directory.new.self.kernel c.called.new.self.kernel c.args.number c.in_ok-_done._done
    c.in_ok-is_directory.ensures.same c.in_ok-_done.ensures.answers c.requires.tree
    (not_told c.in_ok-is_directory.field-0 (IsDirectory (files_seen g.D.Disk.image c.args.self.now.kernel) c.args.number) c.if-branch.false
    c.in_ok-is_directory.ensures.told)

pub returns-clause-emptied : goal.returns-clause-emptied
returns-clause-emptied g c =
    empties_plain g.D.Disk c.args.self.now.kernel c.is_directory.new.self.kernel c.called.new.self.kernel c.args.number c.in_ok-_done._done
    c.in_ok-is_directory.ensures.same c.in_ok-_done.ensures.answers c.requires.there
    (not_told c.in_ok-is_directory.field-0 (IsDirectory (files_seen g.D.Disk.image c.args.self.now.kernel) c.args.number) c.if-branch.false
    c.in_ok-is_directory.ensures.told)
