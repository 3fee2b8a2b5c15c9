use Rattle.std.proofs.Common.{subst, sym}
use Rattle.std.specs.List.{list_all}
use Rattle.std.specs.Prelude.{IsTrue}
use Rattle.std.proofs.lemmas.Result.{IfErr-weaker, IfOk-weaker}
use Rattle.scripts.specs.Schedule.{is_word_of}
use Rattle.crash_check.specs.Lemmas.Faults.{OnMismatch-weaker}
use Rattle.stops.proofs.HeldRuns.{lost_held, tried_held}
use Rattle.stops.proofs.held_trial.try_held_run.Goals as goal

pub finish-requires-clause-words : goal.finish-requires-clause-words
finish-requires-clause-words c = subst (λ n. IsTrue (list_all (is_word_of n) c.args.words.now)) (sym c.in_ok-player.ensures.processes) c.requires.words

pub returns-clause-tried : goal.returns-clause-tried
returns-clause-tried c = IfOk-weaker c.finish.result _ _ (tried_held c.args.tasks.now c.args.processes c.args.words.now c.args.write c.args.sync c.in_ok-player.player c.in_ok-player.ensures.opened c.in_ok-player.ensures.armed c.in_ok-player.ensures.trap) c.finish.ensures.tried

pub returns-clause-fails : goal.returns-clause-fails
returns-clause-fails c = IfErr-weaker c.finish.result _ _ (λ f. OnMismatch-weaker f _ _ (λ m loses. lost_held c.args.tasks.now c.args.processes c.args.words.now c.args.write c.args.sync c.in_ok-player.player c.in_ok-player.ensures.opened c.in_ok-player.ensures.armed c.in_ok-player.ensures.trap m loses)) c.finish.ensures.fails
