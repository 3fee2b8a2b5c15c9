use Rattle.std.proofs.Common.{Bool, subst, sym}
use Rattle.std.specs.Prelude.{OnOk, unwrap_or}
use Rattle.cmd.specs.Lemmas.Disks.{file_disk}
use Rattle.cmd.specs.Opened.{OpensDisk}
use Rattle.player.specs.Told.{in_lines}
use Rattle.commands_runs.specs.Pages.{HasPage}
use Rattle.commands_runs.specs.Runs.{IsReplayedSo}
use Rattle.commands_runs.proofs.picturing.replay_on_page.Goals as goal

pub returns-then-plain-clause-done : goal.returns-then-plain-clause-done
returns-then-plain-clause-done g c =
    subst (λ (plain : Bool). OnOk c.replay_pictured.result (OpensDisk g.R.File.Read.remaining file_disk c.args.replay.sync (IsReplayedSo (in_lines c.args.detail) (unwrap_or c.args.replay.stop 0) (g.O.Write.contents c.args.out.now) (g.O.Write.contents c.replay_pictured.new.out) (HasPage g.R.File.Write.contents c.args.replay.sync (unwrap_or c.args.replay.stop 0) plain))))
    (sym c.if-plain.true) c.replay_pictured.ensures.drawn

pub returns-clause-done : goal.returns-clause-done
returns-clause-done g c =
    subst (λ (plain : Bool). OnOk c.replay_explored.result (OpensDisk g.R.File.Read.remaining file_disk c.args.replay.sync (IsReplayedSo (in_lines c.args.detail) (unwrap_or c.args.replay.stop 0) (g.O.Write.contents c.args.out.now) (g.O.Write.contents c.replay_explored.new.out) (HasPage g.R.File.Write.contents c.args.replay.sync (unwrap_or c.args.replay.stop 0) plain))))
    (sym c.if-plain.false) c.replay_explored.ensures.explored
