use Rattle.std.proofs.Common.{◌≡◌, ℕ, Option, subst}
use Rattle.std.specs.Prelude.{IfErr, IfOk, unwrap_or}
use Rattle.cmd.specs.Lemmas.Disks.{file_disk}
use Rattle.cmd.specs.Opened.{OpensDisk}
use Rattle.commands_runs.specs.Pictures.{IsSceneOf, IsUnpictured}
use Rattle.commands_runs.specs.Runs.{IsReplayedSo}
use Rattle.player.specs.Told.{in_lines}
use Rattle.commands_runs.proofs.picturing.replay_heard.Goals as goal

pub returns-in-Ok-clause-replayed : goal.returns-in-Ok-clause-replayed
returns-in-Ok-clause-replayed g c =
    let was = c.args.teller.now in
    subst (λ (stop : Option ℕ). IfOk c.replay_told.result (λ scene. OpensDisk g.R.File.Read.remaining file_disk c.args.replay.sync (IsReplayedSo (in_lines was.lines.detail) (unwrap_or stop 0) (g.O.Write.contents c.args.out.now) (g.O.Write.contents c.replay_told.new.out) (IsSceneOf was.recorder c.replay_told.new.teller.recorder c.args.replay.sync scene))))
    c.in-Ok.ensures.scenario.stops c.replay_told.ensures.replayed

pub returns-in-Ok-clause-refused : goal.returns-in-Ok-clause-refused
returns-in-Ok-clause-refused g c =
    subst (λ (stop : Option ℕ). IfErr c.replay_told.result (IsUnpictured g.R.File.Read.remaining c.args.replay.sync c.args.teller.now.lines.detail (unwrap_or stop 0) (g.O.Write.contents c.args.out.now) (g.O.Write.contents c.replay_told.new.out) (c.replay_told.new.out ≡ c.args.out.now)))
    c.in-Ok.ensures.scenario.stops c.replay_told.ensures.refused
