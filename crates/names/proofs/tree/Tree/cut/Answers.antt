use Rattle.std.proofs.Common.{arith}
use Rattle.names.specs.Inside.{files_seen}
use Rattle.names.proofs.Cuts.{cuts_plain, cuts_tree, no_directory}
use Rattle.names.proofs.tree.Tree.cut.Goals as goal

pub returns-clause-tree : goal.returns-clause-tree
returns-clause-tree g c =
    cuts_tree g.D.Disk c.args.self.now.kernel c.found.new.self.kernel c.called.new.self.kernel c.args.number c.args.size c.in_ok-called.field-0
    c.in_ok-found.ensures.same c.in_ok-called.ensures.answers c.requires.tree
    (no_directory (files_seen g.D.Disk.image c.args.self.now.kernel) c.args.number c.in_ok-found.found c.in_ok-found.ensures.found c.if-found-eq-DIRECTORY_KIND.false)

pub returns-clause-cut : goal.returns-clause-cut
returns-clause-cut g c =
    cuts_plain g.D.Disk c.args.self.now.kernel c.found.new.self.kernel c.called.new.self.kernel c.args.number c.args.size c.in_ok-called.field-0 c.in_ok-found.found
    c.in_ok-found.ensures.same c.in_ok-called.ensures.answers c.in_ok-found.ensures.found c.if-found-eq-DIRECTORY_KIND.false (omega (arith, c.if-size-found.false))
