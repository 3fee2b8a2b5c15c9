use Rattle.std.proofs.Common.{◌≡◌, List, subst}
use Rattle.std.specs.Prelude.{IfErr, None, OnOk, unwrap_or}
use Rattle.std.proofs.lemmas.Result.{on_ok_weaker}
use Rattle.json_lines.specs.declared.written.Written.{Written}
use Rattle.player.specs.Disks.{faulty}
use Rattle.player.specs.Opening.{IsNotReplayed, Replays}
use Rattle.player.specs.Told.{Told, in_objects}
use Rattle.player.proofs.replaying.replay_objects.Goals as goal

pub returns-clause-printed : goal.returns-clause-printed
returns-clause-printed g c =
    let ran = c.replay_with in
    subst (λ (w : List Written). OnOk ran.result.0 ((tolds : List Told) × Replays g.D.Disk (faulty g.D.Disk) c.args.disk ran.result.1 c.args.scenario.tasks.items c.args.scenario.processes c.args.scenario.words.items (unwrap_or c.args.scenario.stop 0) (in_objects w) None (g.O.Write.contents c.args.out.now) (g.O.Write.contents ran.new.out) tolds)) c.in-Ok.ensures.written
    (on_ok_weaker ran.result.0 (λ heard. (heard.tolds, heard.told)) ran.ensures.printed)

pub returns-clause-refused : goal.returns-clause-refused
returns-clause-refused g c =
    let ran = c.replay_with in
    subst (λ (w : List Written). IfErr ran.result.0 (IsNotReplayed g.D.Disk (faulty g.D.Disk) c.args.disk ran.result.1 c.args.scenario.tasks.items c.args.scenario.processes c.args.scenario.words.items (unwrap_or c.args.scenario.stop 0) (in_objects w) (g.O.Write.contents c.args.out.now) (g.O.Write.contents ran.new.out) (ran.new.out ≡ c.args.out.now))) c.in-Ok.ensures.written ran.ensures.refused
