use Rattle.std.proofs.Common.{◌∙◌, length, ap, inr}
use Rattle.blocks.specs.Disk.{Image}
use Rattle.model.specs.Layout.{is_lawful_super}
use Rattle.model.specs.Verdict.{verdict}
use Rattle.kernel.specs.Lemmas.Openings.{lawful_super}
use Rattle.xvfs_c.proofs.Causes.{late}
use Rattle.xvfs_c.proofs.image.recover_disk.Goals as goal

pub recover-requires : goal.recover-requires
recover-requires c =
    ap (λ x. is_lawful_super c.in-Ok.report.sup (length x)) c.check.ensures.reads.image ∙ lawful_super _ c.in-Ok.report.sup c.in-Ok.ensures.ok c.in-Ok.ensures.report.sup

pub returns-in-Err-recover-clause-refused : goal.returns-in-Err-recover-clause-refused
returns-in-Err-recover-clause-refused c =
    inr (
      c.recover_number.ensures ∙ late c.check.new.disk c.recover.new.disk c.in-Err-recover.fault (ap (λ (x : Image). verdict x) c.check.ensures.reads.image ∙ c.in-Ok.ensures.ok) c.in-Err-recover.ensures.refused,
      c.in-Ok.ensures.ok,
    )
