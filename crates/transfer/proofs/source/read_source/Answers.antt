use Rattle.std.proofs.Common.{◌∙◌, ◌-◌, refl, sym, subst}
use Rattle.blocks.specs.Disk.{Image}
use Rattle.model.specs.Layout.{inode_count_of}
use Rattle.model.specs.Log.{recovered}
use Rattle.model.specs.Verdict.{geometry_fault, log_fault, or_else}
use Rattle.offline.specs.Cause.{IsCause}
use Rattle.offline.specs.Recovered.{IsRecoveredOf}
use Rattle.transfer.specs.Source.{AreFirstKinds}
use Rattle.transfer.proofs.SourceLemmas.{copies_all, not_two, open_rose, source_of_all}
use Rattle.transfer.proofs.source.read_source.Goals as goal

pub returns-in-Err-open-clause-refused : goal.returns-in-Err-open-clause-refused
returns-in-Err-open-clause-refused g c =
    let d = g.D.Disk in
    let fault = c.in-Err-open._fault in
    let mid = d.fault_count c.check.new.disk in
    let new = d.fault_count c.open.new.disk in
    open_rose (d.image c.args.old.now) (d.fault_count c.args.old.now) mid new fault c.in-Ok.ensures.ok c.in-Ok.ensures.faults
    (subst (λ (z : Image). IsCause (or_else (geometry_fault z) (log_fault z)) mid new fault) c.check.ensures.reads.image c.in-Err-open.ensures.fault) c.in-Err-open.ensures.memory

pub returns-clause-source : goal.returns-clause-source
returns-clause-source g c =
    let x = g.D.Disk.image c.args.old.now in
    let checked = c.check.ensures.reads.image in
    let kinds = c.in_ok-kinds.kinds.items in
    let first = sym c.in-Ok.ensures.report.form ∙ not_two c.in-Ok.report.form c.in_default.not-Two in
    let all = subst (λ (z : Image). AreFirstKinds (recovered z) kinds (inode_count_of z - 1)) (c.open.ensures.reads.image ∙ checked) c.in_ok-kinds.ensures.kinds in
    source_of_all x _ kinds c.checked_files_may_be_read.ensures (g.met.D.Disk.is_image c.args.old.now) c.in-Ok.ensures.ok first refl
    (subst (λ (z : Image). IsRecoveredOf z c.in-Ok-open.image) checked c.in-Ok-open.ensures.ok) all c.cut_kinds.ensures.few c.cut_kinds.ensures.same

pub returns-clause-all : goal.returns-clause-all
returns-clause-all g c =
    let x = g.D.Disk.image c.args.old.now in
    let kinds = c.in_ok-kinds.kinds.items in
    let first = sym c.in-Ok.ensures.report.form ∙ not_two c.in-Ok.report.form c.in_default.not-Two in
    let all = subst (λ (z : Image). AreFirstKinds (recovered z) kinds (inode_count_of z - 1)) (c.open.ensures.reads.image ∙ c.check.ensures.reads.image) c.in_ok-kinds.ensures.kinds in
    copies_all x _ kinds c.in-Ok.ensures.ok first refl all c.cut_kinds.ensures.same
