use Rattle.std.proofs.Common.{◌≡◌, ◌∙◌, ap, subst}
use Rattle.std.specs.Prelude.{IfOk}
use Rattle.blocks.specs.contracts.sync.SyncDiskDisk.TheImpl.{ghosts}
use Rattle.blocks.specs.declared.faulty.Trap.{Trap}
use Rattle.model.specs.Log.{logged_count}
use Rattle.player.specs.Opening.{IsOpenedOver}
use Rattle.crash_check.specs.Images.{new_image}
use Rattle.crash_check.specs.Lemmas.NewImages.{new_empty}
use Rattle.stops.specs.Holding.{below, over}
use Rattle.stops.proofs.Runs.{handed_on, unopened_new}
use Rattle.std.proofs.lemmas.Result.{IfOk-weaker}
use Rattle.stops.proofs.held_trial.open_held.Goals as goal

pub returns-clause-opened : goal.returns-clause-opened
returns-clause-opened c =
    let new : below.image c.new-disk.result ≡ new_image = ap ghosts.image c.new-disk.ensures.inner ∙ c.in_ok-held.ensures.image ∙ c.in_ok-image.ensures in
    handed_on c.open_player.result c.opened.result _ c.opened.ensures.player
    (subst (λ tasks. IfOk c.open_player.result (IsOpenedOver over.image new_image tasks c.args.processes)) c.in_ok-tasks.ensures
    (subst (λ x. IfOk c.open_player.result (IsOpenedOver over.image x c.in_ok-tasks.tasks.items c.args.processes)) new c.open_player.ensures.opened))

pub returns-clause-armed : goal.returns-clause-armed
returns-clause-armed c =
    let new : below.image c.new-disk.result ≡ new_image = ap ghosts.image c.new-disk.ensures.inner ∙ c.in_ok-held.ensures.image ∙ c.in_ok-image.ensures in
    IfOk-weaker c.opened.result _ _ (λ player armed. armed (ap logged_count new ∙ new_empty)) (handed_on c.open_player.result c.opened.result _ c.opened.ensures.player c.open_player.ensures.armed)

pub returns-clause-trap : goal.returns-clause-trap
returns-clause-trap c = IfOk-weaker c.opened.result _ _ (λ player same. record {
  kind = ap (λ (n : Unit {0} × Trap). n.1.kind) same ∙ ap (λ (t : Trap). t.kind) c.new-disk.ensures.trap;
  nth = ap (λ (n : Unit {0} × Trap). n.1.nth) same ∙ ap (λ (t : Trap). t.nth) c.new-disk.ensures.trap;
}) (handed_on c.open_player.result c.opened.result _ c.opened.ensures.player c.open_player.ensures.name)

pub returns-clause-fails : goal.returns-clause-fails
returns-clause-fails c =
    unopened_new _ _ _ _ c.args.write c.new-disk.result c.open_player.result c.opened.result (ap ghosts.image c.new-disk.ensures.inner ∙ c.in_ok-held.ensures.image ∙ c.in_ok-image.ensures)
    (record { kind = ap (λ (t : Trap). t.kind) c.new-disk.ensures.trap; nth = ap (λ (t : Trap). t.nth) c.new-disk.ensures.trap }) c.opened.ensures.fault c.open_player.ensures.refused
