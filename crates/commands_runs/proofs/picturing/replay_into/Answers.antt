use Rattle.std.proofs.Common.{subst, sym}
use Rattle.std.specs.Prelude.{OnOk, unwrap_or}
use Rattle.cmd.specs.Lemmas.Disks.{file_disk}
use Rattle.cmd.specs.Opened.{OpensDisk}
use Rattle.commands_runs.specs.Pages.{IsReplayedInto}
use Rattle.commands_runs.proofs.picturing.replay_into.Goals as goal

pub returns-in-Some-clause-done : goal.returns-in-Some-clause-done
returns-in-Some-clause-done g c =
    subst (λ picture. OnOk c.replay_on_page.result (OpensDisk g.R.File.Read.remaining file_disk c.args.replay.sync (IsReplayedInto g.R.File.Write.contents c.args.replay.sync c.args.detail (unwrap_or c.args.replay.stop 0) (g.O.Write.contents c.args.out.now) (g.O.Write.contents c.replay_on_page.new.out) picture c.args.plain)))
    (sym c.in-Some.is) c.replay_on_page.ensures.done

pub returns-in-Ok-clause-done : goal.returns-in-Ok-clause-done
returns-in-Ok-clause-done g c =
    subst (λ picture. OpensDisk g.R.File.Read.remaining file_disk c.args.replay.sync (IsReplayedInto g.R.File.Write.contents c.args.replay.sync c.args.detail (unwrap_or c.args.replay.stop 0) (g.O.Write.contents c.args.out.now) (g.O.Write.contents c.replay_files.new.out) picture c.args.plain))
    (sym c.in_default.is) c.in-Ok.ensures.opened
