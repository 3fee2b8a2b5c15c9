use Rattle.std.proofs.lemmas.Result.{IfErr-weaker}
use Rattle.names.specs.Recounting.{IsUnrecounted}
use Rattle.names.proofs.Recounts.{unrecounted_after}
use Rattle.names.proofs.recounting.judge_files.Goals as goal

pub returns-in-Ok-true-clause-refused : goal.returns-in-Ok-true-clause-refused
returns-in-Ok-true-clause-refused g c =
    let d = g.D.Disk in
    IfErr-weaker c.judge_counts.result (IsUnrecounted d c.is_tree.new.disk c.judge_counts.new.disk) (IsUnrecounted d c.args.disk.now c.judge_counts.new.disk)
    (λ cause why. unrecounted_after d c.args.disk.now c.is_tree.new.disk c.judge_counts.new.disk cause c.requires c.is_tree.ensures.reads c.in-Ok-true.ensures.faults why)
    c.judge_counts.ensures.refused
