use Rattle.std.proofs.Common.{sym, subst}
use Rattle.std.proofs.lemmas.Result.{IfOk-weaker}
use Rattle.blocks.specs.Disk.{Image}
use Rattle.kernel.specs.Opening.{IsOpened}
use Rattle.kernel.specs.Theorem.{IsRecoveredRun}
use Rattle.example_programs.proofs.knowing.open_behind_a_stop.Goals as goal

pub returns : goal.returns
returns g c =
    let m = c.args.stopped.now in
    let x = g.D.Disk.image m.opening in
    IfOk-weaker c.open.result (IsOpened g.E.Disk c.args.disk c.args.intake c.args.herald 1) (λ k. IsRecoveredRun x 0 m (g.E.Disk.image k.opening))
    (λ k opened. subst (λ (y : Image). IsRecoveredRun x 0 m y) (sym opened.opening) (c.recovers.ensures.since (g.E.Disk.image c.args.disk) c.requires.left))
    c.open.ensures.opened
