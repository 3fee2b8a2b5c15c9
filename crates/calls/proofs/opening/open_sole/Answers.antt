use Rattle.std.proofs.Common.{rules}
use Rattle.std.proofs.lemmas.Result.{IfOk-weaker}
use Rattle.kernel.specs.Opening.{IsOpened}
use Rattle.calls.specs.Opening.{IsOpenedSole}
use Rattle.calls.proofs.Opened.{opened_sole}
use Rattle.calls.proofs.opening.open_sole.Goals as goal

pub returns-clause-opened : goal.returns-clause-opened
returns-clause-opened g c =
    let d = c.args.disk in
    let i = c.in-Ok.intake in
    let h = c.new-2.result in
    IfOk-weaker c.open.result (IsOpened g.D.Disk d i h 1) (IsOpenedSole g.D.Disk d) (λ k opened. opened_sole g.D.Disk d i h k opened (search rules) (search rules)) c.open.ensures.opened
