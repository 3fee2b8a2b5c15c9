use Rattle.std.proofs.Common.{◌∙◌, ap}
use Rattle.names.specs.Lemmas.Runs.{nothing_done}
use Rattle.names.specs.Contents.{ReadsOf}
use Rattle.names.specs.Inside.{Never}
use Rattle.names.specs.Numbered.{IsNoFileOrDirectory}
use Rattle.mounting.proofs.TreeCalls.{call_looks}
use Rattle.mounting.proofs.Hindering.{call_hindered}
use Rattle.mounting.proofs.calling.read_at.Goals as goal

pub returns-clause-looks : goal.returns-clause-looks
returns-clause-looks g c =
    let called = c.read_at in
    let old = c.args.tree.now in
    let new = called.new.self in
    call_looks g.D.Disk Never (IsNoFileOrDirectory c.args.number) old.kernel new.kernel old.calls_left new.calls_left called.result c.requires.ready
    (λ zero. let same = nothing_done old new called.result (called.ensures.none zero) in (ap (λ t. t.kernel) same, ap (λ t. t.calls_left) same ∙ zero))
    called.ensures.done called.ensures.refused called.ensures.stays (ReadsOf c.args.number c.args.offset c.args.count) (λ made x z is. is.same) called.ensures.reads called.ensures.leaves

pub returns-clause-hindered : goal.returns-clause-hindered
returns-clause-hindered g c =
    let called = c.read_at in
    let old = c.args.tree.now in
    let new = called.new.self in
    call_hindered g.D.Disk Never (IsNoFileOrDirectory c.args.number) old new old.kernel new.kernel old.calls_left new.calls_left called.result (λ no. no) c.requires.ready called.ensures.none called.ensures.done called.ensures.refused
