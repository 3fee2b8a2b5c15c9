use Rattle.std.proofs.Common.{◌≡◌}
use Rattle.names.specs.Inside.{files_seen}
use Rattle.names.specs.Removing.{IsUnremovedIn, RemovesIn}
use Rattle.names.proofs.Blocked.{answers_not}
use Rattle.names.proofs.tree.Tree.cleared.Goals as goal

pub returns-else-keeps-clause-no_block : goal.returns-else-keeps-clause-no_block
returns-else-keeps-clause-no_block g c =
    answers_not g.D.Disk (RemovesIn c.args.to c.args.name.now) (λ files. IsUnremovedIn files c.args.to c.args.name.now)
    (files_seen g.D.Disk.image c.args.self.now.kernel) (files_seen g.D.Disk.image c.apply_in.new.tree.kernel) c.args.self.now.kernel c.apply_in.new.tree.kernel c.apply_in.result
    (λ why. why) c.apply_in.ensures.made
