use Rattle.std.proofs.Common.{◌∙◌, ap}
use Rattle.names.specs.Lemmas.Runs.{nothing_done}
use Rattle.names.specs.Inside.{Never}
use Rattle.names.specs.Linking.{IsNotLinkedAs, LinksIn}
use Rattle.mounting.proofs.TreeCalls.{call_kept, call_makes}
use Rattle.mounting.proofs.Hindering.{call_hindered}
use Rattle.mounting.proofs.calling.link_in.Goals as goal

pub returns-clause-makes : goal.returns-clause-makes
returns-clause-makes g c =
    let called = c.link_in in
    let old = c.args.tree.now in
    let new = called.new.self in
    call_makes g.D.Disk Never (IsNotLinkedAs c.args.number c.args.to c.args.name.now) old.kernel new.kernel old.calls_left new.calls_left called.result c.requires.ready
    (λ zero. let same = nothing_done old new called.result (called.ensures.none zero) in (ap (λ t. t.kernel) same, ap (λ t. t.calls_left) same ∙ zero))
    called.ensures.done called.ensures.refused called.ensures.stays (LinksIn c.args.number c.args.to c.args.name.now) called.ensures.links called.ensures.leaves

pub returns-clause-hindered : goal.returns-clause-hindered
returns-clause-hindered g c =
    let called = c.link_in in
    let old = c.args.tree.now in
    let new = called.new.self in
    call_hindered g.D.Disk Never (IsNotLinkedAs c.args.number c.args.to c.args.name.now) old new old.kernel new.kernel old.calls_left new.calls_left called.result (λ no. no) c.requires.ready called.ensures.none called.ensures.done called.ensures.refused

pub returns-clause-kept : goal.returns-clause-kept
returns-clause-kept g c =
    let called = c.link_in in
    let old = c.args.tree.now in
    let new = called.new.self in
    call_kept g.D.Disk Never (IsNotLinkedAs c.args.number c.args.to c.args.name.now) old new old.kernel new.kernel old.calls_left new.calls_left called.result c.requires.ready called.ensures.none called.ensures.done called.ensures.refused
