use Rattle.std.proofs.Common.{inl}
use Rattle.crash_check.specs.Lemmas.Faults.{OnMismatch-met}
use Rattle.stops.proofs.HeldRuns.{failed_behind}
use Rattle.stops.proofs.holding.try_stop.Goals as goal

pub returns-in-Err-clause-fails : goal.returns-in-Err-clause-fails
returns-in-Err-clause-fails c =
    let at = failed_behind c.args.tasks.now c.args.processes c.args.words.now c.args.calls c.args.before c.write_behind-write.result c.sync_behind-sync.result in
    OnMismatch-met c.stop_behind-stop.result c.in-Err.fault c.at-in-Err.result _ _ c.at-in-Err.ensures
    (λ m lost. (c.stop_behind-stop.ensures, inl (at m c.write_behind-write.ensures c.sync_behind-sync.ensures lost))) c.in-Err.ensures.fails
