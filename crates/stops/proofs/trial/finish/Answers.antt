use Rattle.std.proofs.lemmas.Result.{IfErr-weaker, IfOk-weaker}
use Rattle.crash_check.specs.Lemmas.Faults.{OnMismatch-weaker}
use Rattle.stops.proofs.Runs.{run_kept, run_lost}
use Rattle.stops.proofs.trial.finish.Goals as goal

pub returns-clause-tried : goal.returns-clause-tried
returns-clause-tried c = IfOk-weaker c.judge.result _ _ (λ count kept. run_kept c.args.words.now c.args.stop c.args.player c.play_kept-played.new.player c.into_disk.result c.into_disk.ensures c.play_kept-played.result count c.play_kept-played.ensures kept) c.judge.ensures.kept

pub returns-clause-fails : goal.returns-clause-fails
returns-clause-fails c = IfErr-weaker c.judge.result _ _ (λ f. OnMismatch-weaker f _ _ (λ m lost. run_lost c.args.words.now c.args.stop c.args.player c.play_kept-played.new.player c.into_disk.result c.into_disk.ensures m c.play_kept-played.result c.play_kept-played.ensures lost)) c.judge.ensures.lost
