use Rattle.std.proofs.Common.{◌≡◌, Bool, List, subst}
use Rattle.offline.specs.Common.{Dinode, err_from_is_err_and, HasNoted, NotesPointers, places_below, Pointer, recovered}
use Rattle.model.specs.Places.{pointers_in}
use Rattle.offline.proofs.NoteLemmas.{is_none_where, noted_early, noted_free, noted_used}
use Rattle.offline.proofs.all_faults.note_inode.Goals as goal

pub returns-then-inode-eq0-clause-noted : goal.returns-then-inode-eq0-clause-noted
returns-then-inode-eq0-clause-noted g c =
    noted_free g.H.HearsFaults.hears (recovered (g.D.Disk.image c.args.disk.now)) c.args.i c.args.owners.now c.args.hearer.now (g.met.H.HearsFaults.hears_none c.args.hearer.now) c.requires.some
    (subst (λ (d : Dinode). d.kind ≡ 0) c.requires.inode c.if-inode-eq0.true)

pub returns-in_err-list-clause-noted : goal.returns-in_err-list-clause-noted
returns-in_err-list-clause-noted g c = λ stand.
    let p = err_from_is_err_and c.from_residual.result c.from_residual.ensures.1 in
    rw p.1
    (noted_early g.H.HearsFaults.hears (recovered (g.D.Disk.image c.args.disk.now)) c.args.i c.args.inode.now c.args.image.now.form c.early_fault-fault.result c.args.hearer.now c.tell_if_some.new.hearer
    c.requires.inode c.requires.judging.is_form c.if-inode-eq0.false c.early_fault-fault.ensures c.tell_if_some.ensures)

pub returns-clause-noted : goal.returns-clause-noted
returns-clause-noted g c =
    let hears = g.H.HearsFaults.hears in
    let y = recovered (g.D.Disk.image c.args.disk.now) in
    let i = c.args.i in
    let inode = c.args.inode.now in
    let mid = c.tell_if_some.new.hearer in
    let after = c.note_list.new.hearer in
    let notes = subst (λ (list : List Pointer). NotesPointers hears y (record { number = i; is_judged = c.is_none.result }) list c.args.owners.now c.note_list.new.owners mid after)
    c.in_ok-list.ensures.pointers (c.note_list.ensures.noted y) in
    λ stand.
    noted_used hears y i inode c.args.image.now.form c.note_list.new.owners c.early_fault-fault.result c.args.hearer.now mid after g.met.H.HearsFaults.hears_more
    c.requires.some c.requires.inode c.requires.judging.is_form c.if-inode-eq0.false c.early_fault-fault.ensures c.tell_if_some.ensures
    (subst (λ (b : Bool). HasNoted hears y (record { number = i; is_judged = b }) (places_below y i) (pointers_in y inode) c.note_list.new.owners mid after)
    (is_none_where c.early_fault-fault.result c.is_none.result c.is_none.ensures) (notes (places_below y i) stand))
