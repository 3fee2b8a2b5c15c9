use Rattle.tree_changes.proofs.Recounted.{ended_stops, none_same, none_told, none_untold, some_told, some_untold}
use Rattle.tree_changes.proofs.recounting.tell_count.Goals as goal

pub returns-then-count-eq0-clause-told : goal.returns-then-count-eq0-clause-told
returns-then-count-eq0-clause-told g c = λ d done.
    none_told g.D.Disk c.args.last d c.args.disk.now c.tell.new.disk c.args.count done c.tell.result _ _ c.if-count-eq0.true c.tell.ensures.syncs c.tell.ensures.told

pub returns-then-count-eq0-clause-refused : goal.returns-then-count-eq0-clause-refused
returns-then-count-eq0-clause-refused g c = λ d done.
    none_untold g.D.Disk c.args.last d c.args.disk.now c.tell.new.disk c.args.count done c.tell.result _ c.if-count-eq0.true c.tell.ensures.refused

pub returns-then-count-eq0-clause-stops : goal.returns-then-count-eq0-clause-stops
returns-then-count-eq0-clause-stops g c = λ d done.
    ended_stops g.D.Disk c.args.last d c.args.disk.now c.tell.new.disk c.args.count done c.tell.ensures.time
    (λ zero. none_same g.D.Disk c.args.last d c.args.disk.now c.tell.new.disk c.args.count done c.tell.result _ c.tell.ensures.syncs c.tell.ensures.refused)

pub returns-clause-told : goal.returns-clause-told
returns-clause-told g c = λ d done.
    some_told g.D.Disk c.args.last d c.args.disk.now c.tell-2.new.disk c.args.count done c.tell-2.result _ _ c.if-count-eq0.false c.tell-2.ensures.syncs c.tell-2.ensures.told

pub returns-clause-refused : goal.returns-clause-refused
returns-clause-refused g c = λ d done.
    some_untold g.D.Disk c.args.last d c.args.disk.now c.tell-2.new.disk c.args.count done c.tell-2.result _ c.if-count-eq0.false c.tell-2.ensures.refused

pub returns-clause-stops : goal.returns-clause-stops
returns-clause-stops g c = λ d done.
    ended_stops g.D.Disk c.args.last d c.args.disk.now c.tell-2.new.disk c.args.count done c.tell-2.ensures.time (λ zero. absurd (c.if-count-eq0.false zero))
