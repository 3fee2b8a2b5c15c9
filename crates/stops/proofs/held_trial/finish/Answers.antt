use Rattle.std.proofs.Common.{◌∙◌, ap}
use Rattle.std.proofs.lemmas.Result.{IfErr-weaker, IfOk-weaker}
use Rattle.blocks.specs.FaultyDisk.{inner_of}
use Rattle.crash_check.specs.Lemmas.Faults.{OnMismatch-weaker}
use Rattle.stops.proofs.HeldRuns.{run_held, run_lost}
use Rattle.stops.proofs.held_trial.finish.Goals as goal

pub returns-clause-tried : goal.returns-clause-tried
returns-clause-tried c = IfOk-weaker c.judge.result _ _ (λ count judged. run_held c.args.words.now c.args.write c.args.player c.play_held-played.new.player c.into_inner.result (c.into_inner.ensures ∙ ap inner_of c.into_disk.ensures) c.play_held-played.result count c.play_held-played.ensures judged) c.judge.ensures.judged

pub returns-clause-fails : goal.returns-clause-fails
returns-clause-fails c = IfErr-weaker c.judge.result _ _ (λ f. OnMismatch-weaker f _ _ (λ m lacks. run_lost c.args.words.now c.args.write c.args.player c.play_held-played.new.player c.into_inner.result (c.into_inner.ensures ∙ ap inner_of c.into_disk.ensures) m c.play_held-played.result c.play_held-played.ensures lacks)) c.judge.ensures.lacks
