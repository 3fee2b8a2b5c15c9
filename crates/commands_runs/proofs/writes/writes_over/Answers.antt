use Rattle.std.specs.Prelude.{unwrap_or}
use Rattle.blocks.specs.Disk.{Image}
use Rattle.commands_runs.proofs.Leaving.{made_so, none_made}
use Rattle.commands_runs.specs.Writes.{MakesWrites}
use Rattle.commands_runs.proofs.writes.writes_over.Goals as goal

pub returns-in-Ok : goal.returns-in-Ok
returns-in-Ok g c =
    made_so c.writes_of.result _ (λ (x : Image) v. MakesWrites g.D.Disk x c.args.scenario.tasks.items c.args.scenario.processes c.args.scenario.words.items (unwrap_or c.args.scenario.stop 0) v.items) _ _ c.in-Ok.ensures.ok.image c.writes_of.ensures

pub returns-in-Err : goal.returns-in-Err
returns-in-Err g c = none_made c.no_writes.result g.D.Disk c.args.disk c.recover_image.new.disk c.in-Err.refusal _ c.in-Err.ensures.refused c.no_writes.ensures
