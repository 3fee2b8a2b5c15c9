use Rattle.std.proofs.Common.{◌∙◌, ap, subst}
use Rattle.std.specs.Prelude.{IfOk}
use Rattle.std.proofs.lemmas.Result.{IfOk-weaker}
use Rattle.model.specs.Log.{logged_count}
use Rattle.player.specs.Opening.{IsOpenedOver}
use Rattle.crash_check.specs.Images.{new_image}
use Rattle.crash_check.specs.Lemmas.NewImages.{new_empty}
use Rattle.stops.specs.Trials.{memory}
use Rattle.stops.proofs.Runs.{handed_on, unopened_new}
use Rattle.stops.proofs.trial.open.Goals as goal

pub returns-clause-opened : goal.returns-clause-opened
returns-clause-opened c =
    handed_on c.open_player.result c.opened.result _ c.opened.ensures.player
    (subst (λ tasks. IfOk c.open_player.result (IsOpenedOver memory.image new_image tasks c.args.processes)) c.in_ok-tasks.ensures
    (subst (λ x. IfOk c.open_player.result (IsOpenedOver memory.image x c.in_ok-tasks.tasks.items c.args.processes)) c.in_ok-disk.ensures c.open_player.ensures.opened))

pub returns-clause-armed : goal.returns-clause-armed
returns-clause-armed c = IfOk-weaker c.opened.result _ _ (λ player armed. armed (ap logged_count c.in_ok-disk.ensures ∙ new_empty)) (handed_on c.open_player.result c.opened.result _ c.opened.ensures.player c.open_player.ensures.armed)

pub returns-clause-fails : goal.returns-clause-fails
returns-clause-fails c =
    unopened_new _ _ _ _ c.args.stop c.in_ok-disk.disk c.open_player.result c.opened.result c.in_ok-disk.ensures tt c.opened.ensures.fault c.open_player.ensures.refused
