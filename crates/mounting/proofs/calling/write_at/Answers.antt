use Rattle.std.proofs.Common.{◌∙◌, ap}
use Rattle.std.proofs.lemmas.Result.{IfOk-weaker}
use Rattle.names.specs.Lemmas.Runs.{nothing_done}
use Rattle.names.specs.Inside.{Never}
use Rattle.names.specs.Numbered.{IsNoFileOrDirectory, WritesSomeOf}
use Rattle.mounting.proofs.TreeCalls.{call_makes_here}
use Rattle.mounting.proofs.Hindering.{call_hindered, wrote_part}
use Rattle.mounting.proofs.calling.write_at.Goals as goal

pub returns-clause-makes : goal.returns-clause-makes
returns-clause-makes g c =
    let called = c.write_at in
    let old = c.args.tree.now in
    let new = called.new.self in
    call_makes_here g.D.Disk Never (IsNoFileOrDirectory c.args.number) old.kernel new.kernel old.calls_left new.calls_left called.result c.requires.ready
    (λ zero. let same = nothing_done old new called.result (called.ensures.none zero) in (ap (λ t. t.kernel) same, ap (λ t. t.calls_left) same ∙ zero))
    called.ensures.done called.ensures.refused called.ensures.stays (λ form. WritesSomeOf form c.args.number c.args.offset c.args.bytes.now) (IfOk-weaker called.result _ _ (λ done some. some.writes) called.ensures.writes) called.ensures.leaves

pub returns-clause-hindered : goal.returns-clause-hindered
returns-clause-hindered g c =
    let called = c.write_at in
    let old = c.args.tree.now in
    let new = called.new.self in
    call_hindered g.D.Disk Never (IsNoFileOrDirectory c.args.number) old new old.kernel new.kernel old.calls_left new.calls_left called.result (λ no. no) c.requires.ready called.ensures.none called.ensures.done called.ensures.refused

pub returns-clause-does : goal.returns-clause-does
returns-clause-does g c = IfOk-weaker c.write_at.result _ _ (λ done some. some.writes) c.write_at.ensures.writes

pub returns-clause-part : goal.returns-clause-part
returns-clause-part g c =
    IfOk-weaker c.write_at.result _ _
    (λ done some. wrote_part g.D.Disk c.args.number c.args.offset c.args.bytes.now c.args.tree.now.kernel c.write_at.new.self.kernel done c.write_at.ensures.stays some) c.write_at.ensures.writes
