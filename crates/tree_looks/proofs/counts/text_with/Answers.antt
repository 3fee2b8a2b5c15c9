use Rattle.std.proofs.lemmas.Result.{IfErr-weaker}
use Rattle.tree_looks.specs.Looks.{IsUnseen, IsUntold}
use Rattle.tree_looks.proofs.Looking.{unseen_on}
use Rattle.tree_looks.proofs.counts.text_with.Goals as goal

pub returns-in-Ok-true-clause-refused : goal.returns-in-Ok-true-clause-refused
returns-in-Ok-true-clause-refused g c =
    let d = c.args.disk.now in
    let b = c.is_tree.new.disk in
    let e = c.counts_with.new.disk in
    IfErr-weaker c.counts_with.result (IsUnseen g.D.Disk IsUntold b e) (IsUnseen g.D.Disk IsUntold d e)
    (λ r why. unseen_on g.D.Disk d b e c.is_tree.ensures.reads.image c.in-Ok-true.ensures.faults IsUntold r why) c.counts_with.ensures.refused
