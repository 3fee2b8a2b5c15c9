use Rattle.std.proofs.Common.{◌≡◌, ◌∙◌, List, subst, sym}
use Rattle.std.specs.Prelude.{IfErr, None, OnOk, unwrap_or}
use Rattle.std.proofs.lemmas.Result.{on_ok_weaker}
use Rattle.messages.specs.declared.deeds.Detail.{Detail}
use Rattle.player.specs.Disks.{faulty}
use Rattle.player.specs.Opening.{IsNotReplayed, Replays}
use Rattle.player.specs.Told.{Told, in_lines}
use Rattle.player.proofs.Tells.{none_told}
use Rattle.player.proofs.replaying.replay_disk.Goals as goal

pub returns-then-not-tells_steps-clause-printed : goal.returns-then-not-tells_steps-clause-printed
returns-then-not-tells_steps-clause-printed g c =
    subst (λ (d : Detail). OnOk c.replay_with.result.0 ((tolds : List Told) × Replays g.D.Disk (faulty g.D.Disk) c.args.disk c.replay_with.result.1 c.args.scenario.tasks.items c.args.scenario.processes c.args.scenario.words.items (unwrap_or c.args.scenario.stop 0) (in_lines d) None (g.O.Write.contents c.args.out.now) (g.O.Write.contents c.replay_with.new.out) tolds)) (none_told c.args.detail (sym c.tells_steps.ensures ∙ c.if-not-tells_steps.true))
    (on_ok_weaker c.replay_with.result.0 (λ heard. (heard.tolds, heard.told)) c.replay_with.ensures.printed)

pub returns-then-not-tells_steps-clause-refused : goal.returns-then-not-tells_steps-clause-refused
returns-then-not-tells_steps-clause-refused g c =
    subst (λ (d : Detail). IfErr c.replay_with.result.0 (IsNotReplayed g.D.Disk (faulty g.D.Disk) c.args.disk c.replay_with.result.1 c.args.scenario.tasks.items c.args.scenario.processes c.args.scenario.words.items (unwrap_or c.args.scenario.stop 0) (in_lines d) (g.O.Write.contents c.args.out.now) (g.O.Write.contents c.replay_with.new.out) (c.replay_with.new.out ≡ c.args.out.now))) (none_told c.args.detail (sym c.tells_steps.ensures ∙ c.if-not-tells_steps.true)) c.replay_with.ensures.refused

pub returns-clause-printed : goal.returns-clause-printed
returns-clause-printed g c =
    subst (λ (d : Detail). OnOk c.replay_with-2.result.0 ((tolds : List Told) × Replays g.D.Disk (faulty g.D.Disk) c.args.disk c.replay_with-2.result.1 c.args.scenario.tasks.items c.args.scenario.processes c.args.scenario.words.items (unwrap_or c.args.scenario.stop 0) (in_lines d) None (g.O.Write.contents c.args.out.now) (g.O.Write.contents c.replay_with-2.new.out) tolds)) (c.in-Ok.ensures.0)
    (on_ok_weaker c.replay_with-2.result.0 (λ heard. (heard.tolds, heard.told)) c.replay_with-2.ensures.printed)

pub returns-clause-refused : goal.returns-clause-refused
returns-clause-refused g c =
    subst (λ (d : Detail). IfErr c.replay_with-2.result.0 (IsNotReplayed g.D.Disk (faulty g.D.Disk) c.args.disk c.replay_with-2.result.1 c.args.scenario.tasks.items c.args.scenario.processes c.args.scenario.words.items (unwrap_or c.args.scenario.stop 0) (in_lines d) (g.O.Write.contents c.args.out.now) (g.O.Write.contents c.replay_with-2.new.out) (c.replay_with-2.new.out ≡ c.args.out.now))) (c.in-Ok.ensures.0) c.replay_with-2.ensures.refused
