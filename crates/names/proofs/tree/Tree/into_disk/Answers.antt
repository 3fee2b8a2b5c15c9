use Rattle.std.proofs.Common.{sym, subst}
use Rattle.blocks.specs.Disk.{Image}
use Rattle.model.specs.Files.{files_of}
use Rattle.model.specs.Lemmas.Log.{recovered_empty}
use Rattle.model.specs.Log.{recovered}
use Rattle.calls.specs.Transactions.{IsLabelled}
use Rattle.directories.specs.Trees.{IsTree}
use Rattle.names.proofs.tree.Tree.into_disk.Goals as goal

pub returns-clause-tree : goal.returns-clause-tree
returns-clause-tree g c = λ ready.
    let x : Image = g.D.Disk.image c.args.self.kernel.store.volume.device in
    subst (λ d. IsTree (files_of (recovered (g.D.Disk.image d)))) (sym c.into_disk.ensures)
    (subst (λ (y : Image). IsTree (files_of y)) (sym (recovered_empty x ready.sound.empty_log)) ready.tree)

pub returns-clause-labels : goal.returns-clause-labels
returns-clause-labels g c = λ ready.
    subst (λ d. IsLabelled g.D.Disk.image c.args.self.kernel (g.D.Disk.image d)) (sym c.into_disk.ensures)
    (c.labelled.ensures ready.rests)
