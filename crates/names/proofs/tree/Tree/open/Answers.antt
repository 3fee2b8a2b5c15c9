use Rattle.std.proofs.lemmas.Result.{IfErr-weaker, IfOk-weaker}
use Rattle.calls.specs.Opening.{IsOpenedPair}
use Rattle.names.specs.Opening.{IsUnopened}
use Rattle.names.proofs.Openings.{opened_behind, unopened_after}
use Rattle.names.proofs.tree.Tree.open.Goals as goal

pub returns-in-Ok-clause-opened : goal.returns-in-Ok-clause-opened
returns-in-Ok-clause-opened g c =
    let d = g.D.Disk in
    IfOk-weaker c.open_judged.result (λ tree. IsOpenedPair d c.judge.new.disk tree.kernel) (λ tree. IsOpenedPair d c.args.disk tree.kernel)
    (λ tree is. opened_behind d c.args.disk c.judge.new.disk tree.kernel c.judge.ensures.reads c.in-Ok.ensures.faults is)
    c.open_judged.ensures.opened

pub returns-in-Ok-clause-refused : goal.returns-in-Ok-clause-refused
returns-in-Ok-clause-refused g c =
    let d = g.D.Disk in
    IfErr-weaker c.open_judged.result (λ e. IsUnopened d c.judge.new.disk e.1 e.0) (λ e. IsUnopened d c.args.disk e.1 e.0)
    (λ e why. unopened_after d c.args.disk c.judge.new.disk e.1 e.0 c.in-Ok.ensures.sound c.judge.ensures.reads c.in-Ok.ensures.faults why)
    c.open_judged.ensures.refused
