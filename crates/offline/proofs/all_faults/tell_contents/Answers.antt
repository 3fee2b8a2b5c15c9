use Rattle.std.proofs.Common.{[], Ok, subst}
use Rattle.offline.specs.Common.{BreaksOff, err_from_is_err_and, Image, inodes_faults, marks_faults, recovered, Stand}
use Rattle.offline.specs.Notes.{NotesInodes}
use Rattle.offline.proofs.NoteLemmas.{breaks_early, breaks_first}
use Rattle.offline.proofs.all_faults.tell_contents.Goals as goal

pub returns-in_err-owners-clause-told : goal.returns-in_err-owners-clause-told
returns-in_err-owners-clause-told g c =
    let p = err_from_is_err_and c.from_residual-in_err-owners.result c.from_residual-in_err-owners.ensures.1 in
    rw p.1 (breaks_first g.H.HearsFaults.hears _ c.args.hearer.now (g.met.H.HearsFaults.hears_none c.args.hearer.now))

pub returns-in_err-note_inodes-clause-told : goal.returns-in_err-note_inodes-clause-told
returns-in_err-note_inodes-clause-told g c =
    let hears = g.H.HearsFaults.hears in
    let image = g.D.Disk.image in
    let y = recovered (image c.args.disk.now) in
    let p = err_from_is_err_and c.from_residual-in_err-note_inodes.result c.from_residual-in_err-note_inodes.ensures.1 in
    let broke = subst (λ (x : Image). Stand c.in_ok-owners.owners (recovered x) [] → BreaksOff hears (inodes_faults (recovered x)) c.args.hearer.now c.note_inodes.new.hearer)
    c.in_ok-owners.ensures.reads.image c.in_err-note_inodes.ensures.noted in
    rw p.1 (breaks_early hears (inodes_faults y) (marks_faults y) c.args.hearer.now c.note_inodes.new.hearer (broke c.in_ok-owners.ensures.stand))

pub returns-clause-told : goal.returns-clause-told
returns-clause-told g c =
    let hears = g.H.HearsFaults.hears in
    let y = recovered (g.D.Disk.image c.args.disk.now) in
    let noted = subst (λ (x : Image). Stand c.in_ok-owners.owners (recovered x) [] → NotesInodes hears (recovered x) c.note_inodes.new.owners c.args.hearer.now c.note_inodes.new.hearer (Ok tt))
    c.in_ok-owners.ensures.reads.image c.in_ok-note_inodes.ensures.noted in
    let all = noted c.in_ok-owners.ensures.stand in
    g.met.H.HearsFaults.hears_more c.args.hearer.now c.note_inodes.new.hearer c.note_marks.new.hearer (inodes_faults y) (marks_faults y) all.1 (c.note_marks.ensures y all.0)
