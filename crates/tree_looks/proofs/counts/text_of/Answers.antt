use Rattle.std.proofs.lemmas.Result.{IfErr-weaker}
use Rattle.tree_looks.specs.Looks.{IsUnseen, IsUntold}
use Rattle.tree_looks.proofs.Looking.{unseen_on}
use Rattle.tree_looks.proofs.counts.text_of.Goals as goal

pub returns-in-Ok-clause-refused : goal.returns-in-Ok-clause-refused
returns-in-Ok-clause-refused g c =
    let d = c.args.disk.now in
    let b = c.load.new.disk in
    let e = c.text_with.new.disk in
    IfErr-weaker c.text_with.result (IsUnseen g.D.Disk IsUntold b e) (IsUnseen g.D.Disk IsUntold d e)
    (λ r why. unseen_on g.D.Disk d b e c.load.ensures.reads.image c.in-Ok.ensures.faults IsUntold r why) c.text_with.ensures.refused
