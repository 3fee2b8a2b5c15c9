use Rattle.offline.proofs.NoteLemmas.{noted_one}
use Rattle.offline.proofs.notes.note_pointer.Goals as goal

pub returns-then-owner-clause-noted : goal.returns-then-owner-clause-noted
returns-then-owner-clause-noted g c = λ y earlier stand.
    let met = g.met.H.HearsFaults in
    let here = c.note-fault.ensures.noted y earlier stand in
    noted_one g.H.HearsFaults.hears met.hears_none met.hears_more y c.args.owner earlier c.args.pointer c.note-fault.new.self c.note-fault.result c.args.hearer.now c.tell_if_some.new.hearer here.0 here.1
    (rw c.if-owner.true c.tell_if_some.ensures)

pub returns-else-owner-clause-noted : goal.returns-else-owner-clause-noted
returns-else-owner-clause-noted g c = λ y earlier stand.
    let met = g.met.H.HearsFaults in
    let here = c.note-fault.ensures.noted y earlier stand in
    noted_one g.H.HearsFaults.hears met.hears_none met.hears_more y c.args.owner earlier c.args.pointer c.note-fault.new.self c.note-fault.result c.args.hearer.now c.args.hearer.now here.0 here.1
    (rw c.if-owner.false (met.hears_none c.args.hearer.now))
