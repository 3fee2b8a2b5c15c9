use Rattle.std.proofs.lemmas.Result.{IfErr-weaker}
use Rattle.names.specs.Recounting.{IsUnrecounted}
use Rattle.names.proofs.Recounts.{unrecounted_after}
use Rattle.names.proofs.recounting.judge.Goals as goal

pub returns-in-Ok-clause-refused : goal.returns-in-Ok-clause-refused
returns-in-Ok-clause-refused g c =
    let d = g.D.Disk in
    IfErr-weaker c.judge_files.result (IsUnrecounted d c.check.new.disk c.judge_files.new.disk) (IsUnrecounted d c.args.disk.now c.judge_files.new.disk)
    (λ cause why. unrecounted_after d c.args.disk.now c.check.new.disk c.judge_files.new.disk cause c.in-Ok.ensures.ok c.check.ensures.reads c.in-Ok.ensures.faults why)
    c.judge_files.ensures.refused
