use Rattle.std.proofs.Common.{◌≡◌, ◌∙◌, ℕ, None, inl, subst, arith}
use Rattle.offline.specs.Common.{err_from_is_err_and, file_count, files_of, Image, inodes_fault, IsCause, marks_fault, or_else, recovered}
use Rattle.offline.proofs.CheckLemmas.{ground, verdict_short, verdict_opening, verdict_contents}
use Rattle.offline.proofs.checking.check.Goals as goal

pub returns-then-size-lt2-clause-fault : goal.returns-then-size-lt2-clause-fault
returns-then-size-lt2-clause-fault g c = inl (verdict_short (g.D.Disk.image c.args.disk.now) (omega (arith, c.size.ensures)))

pub returns-in_err-image-clause-fault : goal.returns-in_err-image-clause-fault
returns-in_err-image-clause-fault g c =
    let d = g.D.Disk in
    let p = err_from_is_err_and c.from_residual-in_err-image.result c.from_residual-in_err-image.ensures.1 in
    rw (p.1, p.2)
    (verdict_opening (d.image c.args.disk.now) (d.fault_count c.args.disk.now) (d.fault_count c.open.new.disk) c.in_err-image.field-0.0 c.in_err-image.ensures.fault)

pub check_contents-requires-clause-ground : goal.check_contents-requires-clause-ground
check_contents-requires-clause-ground g c =
    let image = c.in_ok-image.image in
    let is = c.in_ok-image.ensures.ok in
    rw c.open.ensures.reads.image (ground (g.D.Disk.image c.args.disk.now) image.sup image.form is.geometry is.header.lawful is.sup is.form)

pub returns-in_err-files-clause-fault : goal.returns-in_err-files-clause-fault
returns-in_err-files-clause-fault g c =
    let d = g.D.Disk in
    let x = d.image c.args.disk.now in
    let fault = c.in_err-files.field-0.0 in
    let after = d.fault_count c.check_contents.new.disk in
    let is = c.in_ok-image.ensures.ok in
    let here = subst (λ (z : Image). IsCause (or_else (inodes_fault (recovered z)) (marks_fault (recovered z))) (d.fault_count c.open.new.disk) after fault)
    c.open.ensures.reads.image c.in_err-files.ensures.judged in
    let p = err_from_is_err_and c.from_residual-in_err-files.result c.from_residual-in_err-files.ensures.1 in
    rw (p.1, p.2, verdict_contents x is.geometry is.header.lawful)
    (subst (λ (n : ℕ). IsCause (or_else (inodes_fault (recovered x)) (marks_fault (recovered x))) n after fault) c.in_ok-image.ensures.faults here)

pub returns-clause-ok : goal.returns-clause-ok
returns-clause-ok g c =
    let d = g.D.Disk in
    let is = c.in_ok-image.ensures.ok in
    let here = subst (λ (z : Image). (or_else (inodes_fault (recovered z)) (marks_fault (recovered z)) ≡ None) × (c.in_ok-files.files ≡ file_count (files_of (recovered z))))
    c.open.ensures.reads.image c.in_ok-files.ensures.judged in
    verdict_contents (d.image c.args.disk.now) is.geometry is.header.lawful ∙ here.0
