use Rattle.std.proofs.Common.{Option, subst}
use Rattle.offline.specs.Common.{CheckFault, flat_mapped_more, listed, mark_fault}
use Rattle.offline.proofs.NoteLemmas.{heard_next}
use Rattle.offline.proofs.all_faults.note_marks.Goals as goal

pub loop-b-init : goal.loop-b-init
loop-b-init g c = λ y stand. g.met.H.HearsFaults.hears_none c.args.hearer.now

pub loop-b-preserved : goal.loop-b-preserved
loop-b-preserved g c = λ y stand.
    let hears = g.H.HearsFaults.hears in
    heard_next hears g.met.H.HearsFaults.hears_more c.args.hearer.now c.loop-b.hearer c.tell_if_some.new.hearer _ (listed (mark_fault y c.loop-b.b)) _ (c.loop-b.invariant y stand)
    (subst (λ (o : Option CheckFault). hears c.loop-b.hearer (listed o) c.tell_if_some.new.hearer) (c.mark_fault.ensures y stand) c.tell_if_some.ensures) (flat_mapped_more (λ b. listed (mark_fault y b)) c.loop-b.b)
