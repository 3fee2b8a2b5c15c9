use Rattle.std.proofs.Common.{subst, sym}
use Rattle.std.specs.Prelude.{◌≡◌, IfErr, List, None, OnOk, unwrap_or}
use Rattle.player.specs.Disks.{faulty}
use Rattle.player.specs.Opening.{IsNotReplayed, Replays}
use Rattle.player.specs.Told.{Told, in_objects, writes_in}
use Rattle.commands_runs.proofs.objects.replay_written.Goals as goal

pub returns-in-Ok-clause-printed : goal.returns-in-Ok-clause-printed
returns-in-Ok-clause-printed g c =
    let ran = c.replay_objects in
    subst (λ r. OnOk ran.result.0 ((tolds : List Told) × Replays g.D.Disk (faulty g.D.Disk) c.args.disk ran.result.1 c.args.scenario.tasks.items c.args.scenario.processes c.args.scenario.words.items (unwrap_or c.args.scenario.stop 0) (in_objects (writes_in r (λ v. v.items))) None (g.O.Write.contents c.args.out.now) (g.O.Write.contents ran.new.out) tolds))
    (sym c.in-Ok.is) ran.ensures.printed

pub returns-in-Ok-clause-refused : goal.returns-in-Ok-clause-refused
returns-in-Ok-clause-refused g c =
    let ran = c.replay_objects in
    subst (λ r. IfErr ran.result.0 (IsNotReplayed g.D.Disk (faulty g.D.Disk) c.args.disk ran.result.1 c.args.scenario.tasks.items c.args.scenario.processes c.args.scenario.words.items (unwrap_or c.args.scenario.stop 0) (in_objects (writes_in r (λ v. v.items))) (g.O.Write.contents c.args.out.now) (g.O.Write.contents ran.new.out) (ran.new.out ≡ c.args.out.now)))
    (sym c.in-Ok.is) ran.ensures.refused
