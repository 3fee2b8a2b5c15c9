use Rattle.std.specs.Prelude.{unwrap_or}
use Rattle.std.proofs.lemmas.Result.{IfErr-weaker}
use Rattle.commands_runs.proofs.Recording.{both_done, heard_so, pictured, unpictured_for}
use Rattle.commands_runs.proofs.picturing.replay_pictured.Goals as goal

pub returns-in-Ok-replayed-clause-drawn : goal.returns-in-Ok-replayed-clause-drawn
returns-in-Ok-replayed-clause-drawn g c =
    let told = c.in-Ok-replayed.ensures.replayed in
    let so = heard_so _ _ _ _ _ _ _ _ _ _ _ _ c.in-Ok.ensures.detail c.recorder.ensures told.1.2 in
    both_done c.draw_run.result _ _ _
    (λ fits drawn. (
      told.0,
      (
        told.1.0,
        told.1.1,
        pictured g.R.File.Write.contents c.args.detail (unwrap_or c.args.replay.stop 0) (g.O.Write.contents c.args.out.now) (g.O.Write.contents c.replay_heard-replayed.new.out) c.in-Ok.room.0.recorder c.recorder.result.now c.args.replay.sync c.in-Ok-replayed.scene told.0
            told.1.0 c.in-Ok.ensures.none so fits drawn,
      ),
    )) c.draw_run.ensures.fits c.draw_run.ensures.drawn

pub returns-in-Ok-replayed-clause-refused : goal.returns-in-Ok-replayed-clause-refused
returns-in-Ok-replayed-clause-refused g c =
    let told = c.in-Ok-replayed.ensures.replayed in
    let so = heard_so _ _ _ _ _ _ _ _ _ _ _ _ c.in-Ok.ensures.detail c.recorder.ensures told.1.2 in
    IfErr-weaker c.draw_run.result _ _
    (unpictured_for g.R.File.Write.contents c.args.detail (unwrap_or c.args.replay.stop 0) (g.O.Write.contents c.args.out.now) (g.O.Write.contents c.replay_heard-replayed.new.out) c.in-Ok.room.0.recorder c.recorder.result.now c.args.replay.sync c.in-Ok-replayed.scene told.0
    told.1.0 c.in-Ok.ensures.none so g.R.File.Read.remaining _ told.1.1) c.draw_run.ensures.undrawn
