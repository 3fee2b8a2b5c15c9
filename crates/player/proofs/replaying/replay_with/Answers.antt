use Rattle.std.proofs.Common.{◌∙◌, List, ap, refl, subst, sym, ℕ}
use Rattle.std.specs.List.{list_all}
use Rattle.std.specs.Prelude.{IfErr, IsTrue, None, OnOk}
use Rattle.scripts.specs.Schedule.{is_word_of}
use Rattle.std.proofs.lemmas.Result.{IfErr-weaker, on_ok_weaker}
use Rattle.player.specs.Disks.{faulty}
use Rattle.scripts.specs.declared.schedule.Word.{Word}
use Rattle.player.specs.Told.{HearsTurns, IsBrokenOff, RunsTo, base_of}
use Rattle.player.proofs.Keeping.{played_on}
use Rattle.player.proofs.Seats.{same_inner}
use Rattle.player.proofs.Refused.{heard_as, not_begun, replayed, run_refused}
use Rattle.player.proofs.replaying.replay_with.Goals as goal

pub run-ran-requires-clause-words : goal.run-ran-requires-clause-words
run-ran-requires-clause-words g c =
    subst (λ (n : ℕ). IsTrue (list_all (is_word_of n) c.as_slice.result.now)) (sym c.in-Ok-opened.ensures.processes)
    (subst (λ (ws : List Word). IsTrue (list_all (is_word_of c.args.scenario.processes) ws)) (sym c.as_slice.ensures.value) c.requires.words)

pub returns-in-Err-opened-clause-refused : goal.returns-in-Err-opened-clause-refused
returns-in-Err-opened-clause-refused g c =
    not_begun g.D.Disk (faulty g.D.Disk) c.args.scenario.processes c.args.disk c.in-Err-opened.disk c.args.scenario.tasks.items c.args.scenario.words.items c.unwrap_or-stop.result _ c.unwrap_or-stop.ensures (g.T.Teller.says c.args.teller.now) (g.O.Write.contents c.args.out.now) (g.O.Write.contents c.args.out.now) _ c.in-Err-opened.refusal c.in-Err-opened.ensures.refused refl

pub returns-clause-printed : goal.returns-clause-printed
returns-clause-printed g c =
    let made = c.in-Ok-opened.ensures in
    let played = played_on g.D.Disk g.met.D.Disk.has_now c.args.disk c.args.scenario.tasks.items c.args.scenario.processes c.unwrap_or-stop.result c.in-Ok-opened.player c.run-ran.new.player made.ready c.run-ran.ensures.keeps c.into_disk.result (c.into_disk.ensures ∙ same_inner c.run-ran.new.player.kernel c.reconcile_all.new.self.kernel c.reconcile_all.ensures.same) c.run-ran.ensures.name made.processes c.run-ran.ensures.ops c.reconcile_all.ensures.own in
    let ran = subst (λ (ws : List Word). OnOk c.run-ran.result (HearsTurns g.T.Teller.hears ws c.args.teller.now c.run-ran.new.teller (RunsTo (faulty g.D.Disk) c.base_of-base.result c.unwrap_or-stop.result (g.T.Teller.says c.args.teller.now) ws c.in-Ok-opened.player c.run-ran.new.player None (g.O.Write.contents c.args.out.now) (g.O.Write.contents c.run-ran.new.out)))) c.as_slice.ensures.value c.run-ran.ensures.printed in
    on_ok_weaker c.run-ran.result
    (heard_as g.T.Teller.hears c.args.scenario.words.items c.args.teller.now c.run-ran.new.teller _ _
    (replayed g.D.Disk (faulty g.D.Disk) c.args.disk c.into_disk.result c.args.scenario.tasks.items c.args.scenario.processes c.args.scenario.words.items _ c.unwrap_or-stop.result c.base_of-base.result c.unwrap_or-stop.ensures (g.T.Teller.says c.args.teller.now) (g.O.Write.contents c.args.out.now) (g.O.Write.contents c.run-ran.new.out) c.in-Ok-opened.player c.run-ran.new.player
    made.ready (c.base_of-base.ensures ∙ ap (base_of (faulty g.D.Disk)) c.disk.ensures) played None))
    ran

pub returns-clause-refused : goal.returns-clause-refused
returns-clause-refused g c =
    let made = c.in-Ok-opened.ensures in
    let played = played_on g.D.Disk g.met.D.Disk.has_now c.args.disk c.args.scenario.tasks.items c.args.scenario.processes c.unwrap_or-stop.result c.in-Ok-opened.player c.run-ran.new.player made.ready c.run-ran.ensures.keeps c.into_disk.result (c.into_disk.ensures ∙ same_inner c.run-ran.new.player.kernel c.reconcile_all.new.self.kernel c.reconcile_all.ensures.same) c.run-ran.ensures.name made.processes c.run-ran.ensures.ops c.reconcile_all.ensures.own in
    let ran = subst (λ (ws : List Word). IfErr c.run-ran.result (IsBrokenOff (faulty g.D.Disk) c.base_of-base.result c.unwrap_or-stop.result (g.T.Teller.says c.args.teller.now) ws c.in-Ok-opened.player c.run-ran.new.player (g.O.Write.contents c.args.out.now) (g.O.Write.contents c.run-ran.new.out))) c.as_slice.ensures.value c.run-ran.ensures.refused in
    IfErr-weaker c.run-ran.result _ _
    (run_refused g.D.Disk (faulty g.D.Disk) c.args.disk c.into_disk.result c.args.scenario.tasks.items c.args.scenario.processes c.args.scenario.words.items _ c.unwrap_or-stop.result c.base_of-base.result c.unwrap_or-stop.ensures (g.T.Teller.says c.args.teller.now) (g.O.Write.contents c.args.out.now) (g.O.Write.contents c.run-ran.new.out) c.in-Ok-opened.player c.run-ran.new.player
    made.ready (c.base_of-base.ensures ∙ ap (base_of (faulty g.D.Disk)) c.disk.ensures) played _)
    ran

pub returns-clause-name : goal.returns-clause-name
returns-clause-name g c =
    let made = c.in-Ok-opened.ensures in
    (played_on g.D.Disk g.met.D.Disk.has_now c.args.disk c.args.scenario.tasks.items c.args.scenario.processes c.unwrap_or-stop.result c.in-Ok-opened.player c.run-ran.new.player made.ready c.run-ran.ensures.keeps c.into_disk.result (c.into_disk.ensures ∙ same_inner c.run-ran.new.player.kernel c.reconcile_all.new.self.kernel c.reconcile_all.ensures.same) c.run-ran.ensures.name made.processes c.run-ran.ensures.ops c.reconcile_all.ensures.own).name
