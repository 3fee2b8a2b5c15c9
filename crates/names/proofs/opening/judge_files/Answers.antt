use Rattle.std.proofs.Common.{subst}
use Rattle.std.proofs.lemmas.Result.{on_ok_weaker, IfErr-weaker}
use Rattle.blocks.specs.Disk.{Image}
use Rattle.model.specs.Files.{files_of}
use Rattle.model.specs.Log.{recovered}
use Rattle.directories.specs.Counts.{AreCounted}
use Rattle.names.specs.Opening.{IsUnopened}
use Rattle.names.proofs.Openings.{unopened_after}
use Rattle.names.proofs.opening.judge_files.Goals as goal

pub returns-in-Ok-true-clause-counted : goal.returns-in-Ok-true-clause-counted
returns-in-Ok-true-clause-counted g c =
    on_ok_weaker c.judge_counts.result
    (λ (counted : AreCounted (files_of (recovered (g.D.Disk.image c.is_tree.new.disk)))).
    subst (λ (y : Image). AreCounted (files_of (recovered y))) c.is_tree.ensures.reads.image counted)
    c.judge_counts.ensures.counted

pub returns-in-Ok-true-clause-refused : goal.returns-in-Ok-true-clause-refused
returns-in-Ok-true-clause-refused g c =
    let d = g.D.Disk in
    IfErr-weaker c.judge_counts.result (IsUnopened d c.is_tree.new.disk c.judge_counts.new.disk) (IsUnopened d c.args.disk.now c.judge_counts.new.disk)
    (λ cause why. unopened_after d c.args.disk.now c.is_tree.new.disk c.judge_counts.new.disk cause c.requires c.is_tree.ensures.reads c.in-Ok-true.ensures.faults why)
    c.judge_counts.ensures.refused
