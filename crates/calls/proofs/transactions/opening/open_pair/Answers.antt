use Rattle.std.proofs.Common.{rules}
use Rattle.std.proofs.lemmas.Result.{IfOk-weaker}
use Rattle.kernel.specs.Opening.{IsOpened}
use Rattle.calls.specs.Opening.{IsOpenedPair}
use Rattle.calls.proofs.Opened.{opened_pair}
use Rattle.calls.proofs.transactions.opening.open_pair.Goals as goal

pub returns-clause-opened : goal.returns-clause-opened
returns-clause-opened g c =
    let d = c.args.disk in
    let i = c.in-Ok.intake in
    let h = c.new-2.result in
    IfOk-weaker c.open.result (IsOpened g.D.Disk d i h 2) (IsOpenedPair g.D.Disk d) (λ k opened. opened_pair g.D.Disk d i h k opened (λ p. search rules) (λ p. search rules)) c.open.ensures.opened
