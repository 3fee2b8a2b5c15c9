use Rattle.std.proofs.Common.{◌≡◌, sym, subst}
use Rattle.std.specs.Prelude.{unwrap_or}
use Rattle.std.proofs.lemmas.Result.{IfErr-weaker}
use Rattle.cmd.specs.Lemmas.Disks.{faulty_disk, file_disk}
use Rattle.commands.specs.Lemmas.Ended.{where_done, where_refused}
use Rattle.messages.specs.declared.deeds.Detail.{Detail}
use Rattle.player.specs.Opening.{IsNotReplayed}
use Rattle.player.specs.Told.{in_lines}
use Rattle.commands_runs.proofs.Walks.{explored_all, unexplored_for}
use Rattle.commands_runs.proofs.Gathering.{all_gathered}
use Rattle.commands_runs.proofs.Opened.{still_opened}
use Rattle.commands_runs.proofs.Recording.{both_done}
use Rattle.commands_runs.specs.Explored.{HeardAll}
use Rattle.commands_runs.specs.declared.gathered.Gathered.{Gathered}
use Rattle.commands_runs.specs.declared.explorer_teller.ExplorerTeller.{ExplorerTeller}
use Rattle.commands_runs.proofs.exploring.explore.Goals as goal

pub returns-in-Ok-ran-clause-explored : goal.returns-in-Ok-ran-clause-explored
returns-in-Ok-ran-clause-explored g c =
    let ran = c.replay_with-ran in
    let known = c.in-Ok.ensures in
    let told = where_done ran.result.0 _ _ c.in-Ok-ran.is ran.ensures.printed in
    let heard = all_gathered _ (λ (t : ExplorerTeller). t.run) (λ w one a b h. h.3) _ told.tolds _ _ told.heard in
    both_done c.make_page.result _ _ _
    (λ few page. (
      c.take_scene.new.disk,
      (
        ran.result.1,
        still_opened g.R.File.Read.remaining c.args.sync c.args.disk c.take_scene.new.disk known.reads known.file c.requires.opened,
        explored_all g.R.File.Write.contents c.args.sync c.args.disk c.take_scene.new.disk ran.result.1 c.args.scenario.tasks.items c.args.scenario.processes c.args.scenario.words.items (unwrap_or c.args.scenario.stop 0)
            c.in-Ok.taken.1.lines.detail c.args.detail (g.O.Write.contents c.args.out.now) (g.O.Write.contents ran.new.out) told.tolds c.in-Ok.taken.0 c.in-Ok.taken.1.run c.run.result.now
            known.made known.count known.begun known.detail known.reads.image (subst (λ (b : Gathered). HeardAll told.tolds c.in-Ok.taken.1.run b) (sym c.run.ensures) heard) told.told few page,
      ),
    )) c.make_page.ensures.few c.make_page.ensures.made

pub returns-in-Ok-ran-clause-refused : goal.returns-in-Ok-ran-clause-refused
returns-in-Ok-ran-clause-refused g c =
    let ran = c.replay_with-ran in
    let known = c.in-Ok.ensures in
    let told = where_done ran.result.0 _ _ c.in-Ok-ran.is ran.ensures.printed in
    let heard = all_gathered _ (λ (t : ExplorerTeller). t.run) (λ w one a b h. h.3) _ told.tolds _ _ told.heard in
    IfErr-weaker c.make_page.result _ _
    (unexplored_for g.R.File.Write.contents c.args.sync c.args.disk c.take_scene.new.disk ran.result.1 c.args.scenario.tasks.items c.args.scenario.processes c.args.scenario.words.items (unwrap_or c.args.scenario.stop 0)
    c.in-Ok.taken.1.lines.detail c.args.detail (g.O.Write.contents c.args.out.now) (g.O.Write.contents ran.new.out) told.tolds c.in-Ok.taken.0 c.in-Ok.taken.1.run c.run.result.now
    known.made known.count known.begun known.detail known.reads.image (subst (λ (b : Gathered). HeardAll told.tolds c.in-Ok.taken.1.run b) (sym c.run.ensures) heard) told.told
    g.R.File.Read.remaining _ (still_opened g.R.File.Read.remaining c.args.sync c.args.disk c.take_scene.new.disk known.reads known.file c.requires.opened)) c.make_page.ensures.untold

pub returns-clause-refused : goal.returns-clause-refused
returns-clause-refused g c =
    let ran = c.replay_with-ran in
    let known = c.in-Ok.ensures in (
      c.take_scene.new.disk,
      (
        ran.result.1,
        still_opened g.R.File.Read.remaining c.args.sync c.args.disk c.take_scene.new.disk known.reads known.file c.requires.opened,
        record {
          tasks = _;
          processes = _;
          words = _;
          refused = subst (λ (o : Detail). IsNotReplayed file_disk faulty_disk c.take_scene.new.disk ran.result.1 c.args.scenario.tasks.items c.args.scenario.processes c.args.scenario.words.items (unwrap_or c.args.scenario.stop 0) (in_lines o) (g.O.Write.contents c.args.out.now) (g.O.Write.contents ran.new.out) (ran.new.out ≡ c.args.out.now) c.in-Err-ran.refusal) known.detail
              (where_refused ran.result.0 c.in-Err-ran.refusal _ c.in-Err-ran.is ran.ensures.refused);
        },
      ),
    )
