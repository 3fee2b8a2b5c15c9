use Rattle.std.proofs.Common.{◌≡◌, ℕ, Option, subst}
use Rattle.std.specs.Prelude.{IfErr, OnOk, unwrap_or}
use Rattle.cmd.specs.Lemmas.Disks.{file_disk}
use Rattle.cmd.specs.Opened.{OpensDisk}
use Rattle.player.specs.Told.{in_lines}
use Rattle.commands_runs.specs.Explored.{HasExplorer, IsUnexplored}
use Rattle.commands_runs.specs.Runs.{IsReplayedSo}
use Rattle.commands_runs.proofs.exploring.replay_explored.Goals as goal

pub returns-in-Ok-clause-explored : goal.returns-in-Ok-clause-explored
returns-in-Ok-clause-explored g c =
    subst (λ (stop : Option ℕ). OnOk c.explore.result (OpensDisk g.R.File.Read.remaining file_disk c.args.replay.sync (IsReplayedSo (in_lines c.args.detail) (unwrap_or stop 0) (g.O.Write.contents c.args.out.now) (g.O.Write.contents c.explore.new.out) (HasExplorer g.R.File.Write.contents c.args.replay.sync (unwrap_or stop 0)))))
    c.in-Ok.ensures.scenario.stops c.explore.ensures.explored

pub returns-in-Ok-clause-refused : goal.returns-in-Ok-clause-refused
returns-in-Ok-clause-refused g c =
    subst (λ (stop : Option ℕ). IfErr c.explore.result (IsUnexplored g.R.File.Read.remaining c.args.replay.sync c.args.detail (unwrap_or stop 0) (g.O.Write.contents c.args.out.now) (g.O.Write.contents c.explore.new.out) (c.explore.new.out ≡ c.args.out.now)))
    c.in-Ok.ensures.scenario.stops c.explore.ensures.refused
