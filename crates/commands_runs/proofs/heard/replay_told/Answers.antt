use Rattle.std.proofs.Common.{subst, sym}
use Rattle.blocks.specs.Disk.{Image}
use Rattle.commands.specs.Lemmas.Ended.{where_done, where_refused}
use Rattle.commands_runs.proofs.Opened.{still_opened}
use Rattle.commands_runs.proofs.Recording.{all_heard}
use Rattle.commands_runs.specs.Pictures.{IsMadeOf}
use Rattle.commands_runs.specs.Recorded.{hear_of}
use Rattle.commands_runs.specs.declared.picture_teller.PictureTeller.{PictureTeller}
use Rattle.commands_runs.proofs.heard.replay_told.Goals as goal

pub returns-in-Ok-ran-clause-replayed : goal.returns-in-Ok-ran-clause-replayed
returns-in-Ok-ran-clause-replayed g c =
    let ran = c.replay_with-ran in
    let told = where_done ran.result.0 _ _ c.in-Ok-ran.is ran.ensures.printed in (
      c.of.new.disk,
      (
        ran.result.1,
        still_opened g.R.File.Read.remaining c.args.sync c.args.disk c.of.new.disk c.in-Ok.ensures.reads c.in-Ok.ensures.file c.requires.opened,
        record {
          tasks = _;
          processes = _;
          words = _;
          tolds = told.tolds;
          replays = told.told;
          more = record {
            made = subst (λ (x : Image). IsMadeOf c.in-Ok.anew c.args.sync x c.args.scenario.tasks.items c.args.scenario.processes c.args.scenario.words.items) (sym c.in-Ok.ensures.reads.image) c.in-Ok.ensures.made;
            count = c.count_inodes.ensures;
            heard = all_heard _ (λ (t : PictureTeller). t.recorder) hear_of (λ w one a b h. h.2) _ told.tolds _ _ told.heard;
          };
        },
      ),
    )

pub returns-in-Err-ran-clause-refused : goal.returns-in-Err-ran-clause-refused
returns-in-Err-ran-clause-refused g c =
    let ran = c.replay_with-ran in (
      c.of.new.disk,
      (
        ran.result.1,
        still_opened g.R.File.Read.remaining c.args.sync c.args.disk c.of.new.disk c.in-Ok.ensures.reads c.in-Ok.ensures.file c.requires.opened,
        record { tasks = _; processes = _; words = _; refused = where_refused ran.result.0 c.in-Err-ran.refusal _ c.in-Err-ran.is ran.ensures.refused },
      ),
    )
