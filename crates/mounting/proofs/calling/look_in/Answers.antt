use Rattle.std.proofs.Common.{◌∙◌, ap}
use Rattle.names.specs.Lemmas.Runs.{nothing_done}
use Rattle.names.specs.Inside.{Never}
use Rattle.names.specs.Numbered.{IsUnseenIn, LooksIn}
use Rattle.mounting.proofs.TreeCalls.{call_kept, call_looks, call_stays}
use Rattle.mounting.proofs.Hindering.{call_hindered}
use Rattle.mounting.proofs.calling.look_in.Goals as goal

pub returns-clause-looks : goal.returns-clause-looks
returns-clause-looks g c =
    let called = c.look_in in
    let old = c.args.tree.now in
    let new = called.new.self in
    call_looks g.D.Disk Never (IsUnseenIn c.args.from c.args.name.now) old.kernel new.kernel old.calls_left new.calls_left called.result c.requires.ready
    (λ zero. let same = nothing_done old new called.result (called.ensures.none zero) in (ap (λ t. t.kernel) same, ap (λ t. t.calls_left) same ∙ zero))
    called.ensures.done called.ensures.refused called.ensures.stays (LooksIn c.args.from c.args.name.now) (λ made x z is. is.same) called.ensures.looks called.ensures.leaves

pub returns-clause-same : goal.returns-clause-same
returns-clause-same g c =
    let called = c.look_in in
    call_stays g.D.Disk Never (IsUnseenIn c.args.from c.args.name.now) c.args.tree.now called.new.self c.args.tree.now.kernel called.new.self.kernel c.args.tree.now.calls_left called.result c.requires.ready called.ensures.none called.ensures.refused

pub returns-clause-hindered : goal.returns-clause-hindered
returns-clause-hindered g c =
    let called = c.look_in in
    let old = c.args.tree.now in
    let new = called.new.self in
    call_hindered g.D.Disk Never (IsUnseenIn c.args.from c.args.name.now) old new old.kernel new.kernel old.calls_left new.calls_left called.result (λ no. no) c.requires.ready called.ensures.none called.ensures.done called.ensures.refused

pub returns-clause-kept : goal.returns-clause-kept
returns-clause-kept g c =
    let called = c.look_in in
    let old = c.args.tree.now in
    let new = called.new.self in
    call_kept g.D.Disk Never (IsUnseenIn c.args.from c.args.name.now) old new old.kernel new.kernel old.calls_left new.calls_left called.result c.requires.ready called.ensures.none called.ensures.done called.ensures.refused
