use Rattle.std.proofs.Common.{◌≡◌, ◌∙◌, ℕ, [], None, inl, subst}
use Rattle.offline.specs.Common.{err_from_is_err_and, file_count, files_of, Image, inodes_fault, IsCause, marks_fault, places_of, recovered, Stand}
use Rattle.offline.proofs.CheckLemmas.{stand_new}
use Rattle.offline.proofs.OwnersLemmas.{cause_first}
use Rattle.offline.proofs.checking.check_contents.Given.{Over}
use Rattle.offline.proofs.checking.check_contents.Goals.{After-check_inodes, After-check_marks}
use Rattle.offline.proofs.checking.check_contents.Goals as goal

-- the inodes were judged, with a table of no places
stand : (g : Over) (c : After-check_inodes g) → Stand c.in_ok-owners.owners (recovered (g.D.Disk.image c.args.disk.now)) []
stand g c =
    stand_new (g.D.Disk.image c.args.disk.now) c.args.image.now.sup c.args.image.now.form c.in_ok-owners.owners c.requires.ground
    (c.in_ok-owners.ensures.first ∙ c.meta_count-first_data.ensures) c.in_ok-owners.ensures.size
    (c.in_ok-owners.ensures.bitmap ∙ c.in_ok-block.ensures.ok) c.in_ok-owners.ensures.owned

-- and no fault was found
judged : (g : Over) (c : After-check_marks g) → Stand c.in_ok-owners.owners (recovered (g.D.Disk.image c.args.disk.now)) [] → (inodes_fault (recovered (g.D.Disk.image c.args.disk.now)) ≡ None)
    × Stand c.check_inodes.new.owners (recovered (g.D.Disk.image c.args.disk.now)) (places_of (recovered (g.D.Disk.image c.args.disk.now)))
    × (c.in_ok-files.files ≡ file_count (files_of (recovered (g.D.Disk.image c.args.disk.now))))
judged g c stand =
    subst (λ (z : Image). Stand c.in_ok-owners.owners (recovered z) [] →
    (inodes_fault (recovered z) ≡ None) × Stand c.check_inodes.new.owners (recovered z) (places_of (recovered z)) × (c.in_ok-files.files ≡ file_count (files_of (recovered z))))
    c.block.ensures.reads.image c.in_ok-files.ensures.judged stand

pub returns-in_err-files-clause-judged : goal.returns-in_err-files-clause-judged
returns-in_err-files-clause-judged g c =
    let d = g.D.Disk in
    let x = d.image c.args.disk.now in
    let fault = c.in_err-files.field-0.0 in
    let here = subst (λ (z : Image). Stand c.in_ok-owners.owners (recovered z) [] →
    IsCause (inodes_fault (recovered z)) (d.fault_count c.block.new.disk) (d.fault_count c.check_inodes.new.disk) fault)
    c.block.ensures.reads.image c.in_err-files.ensures.judged (stand g (goal.at.returns-in_err-files-clause-judged g c).After-check_inodes) in
    let p = err_from_is_err_and c.from_residual-in_err-files.result c.from_residual-in_err-files.ensures.1 in
    rw (p.1, p.2)
    (cause_first (inodes_fault (recovered x)) (marks_fault (recovered x)) (d.fault_count c.args.disk.now) (d.fault_count c.check_inodes.new.disk) fault
    (subst (λ (n : ℕ). IsCause (inodes_fault (recovered x)) n (d.fault_count c.check_inodes.new.disk) fault) c.in_ok-block.ensures.faults here))

pub returns-in_err-check_marks-clause-judged : goal.returns-in_err-check_marks-clause-judged
returns-in_err-check_marks-clause-judged g c =
    let at = goal.at.returns-in_err-check_marks-clause-judged g c in
    let here = judged g at.After-check_marks (stand g at.After-check_inodes) in
    let p = err_from_is_err_and c.from_residual-in_err-check_marks.result c.from_residual-in_err-check_marks.ensures.1 in
    rw (p.1, p.2) (inl (rw here.0 (c.in_err-check_marks.ensures (recovered (g.D.Disk.image c.args.disk.now)) here.1)))

pub returns-clause-judged : goal.returns-clause-judged
returns-clause-judged g c =
    let at = goal.at.returns-clause-judged g c in
    let here = judged g at.After-check_marks (stand g at.After-check_inodes) in
    (rw here.0 (c.in_ok-check_marks.ensures (recovered (g.D.Disk.image c.args.disk.now)) here.1), here.2)
