use Rattle.std.proofs.Common.{◌≡◌, refl}
use Rattle.names.specs.Inside.{files_seen}
use Rattle.names.specs.Renaming.{IsUnrenamed, Renames}
use Rattle.names.proofs.Blocked.{answers_not}
use Rattle.names.proofs.tree.Tree.renamed_in.Goals as goal

pub returns-then-from-to-clause-no_block : goal.returns-then-from-to-clause-no_block
returns-then-from-to-clause-no_block g c =
    answers_not g.D.Disk (Renames c.args.from c.args.old.now c.args.from c.args.name.now) (λ files. IsUnrenamed files c.args.from c.args.old.now c.args.from c.args.name.now)
    (files_seen g.D.Disk.image c.args.self.now.kernel) (files_seen g.D.Disk.image c.renamed.new.self.kernel) c.args.self.now.kernel c.renamed.new.self.kernel c.renamed.result
    (λ why. why.0 refl) c.renamed.ensures.renamed
