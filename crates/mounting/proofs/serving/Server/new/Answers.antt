use Rattle.mounting.specs.Changes.{Sweeping}
use Rattle.mounting.proofs.TreeCalls.{task_run}
use Rattle.mounting.proofs.serving.Server.new.Goals as goal

pub returns-in_err-sweep-clause-runs : goal.returns-in_err-sweep-clause-runs
returns-in_err-sweep-clause-runs g c =
    task_run g.D.Disk Sweeping _ _ _ _ c.sweep.ensures.makes

pub returns-in_err-nodes-clause-runs : goal.returns-in_err-nodes-clause-runs
returns-in_err-nodes-clause-runs g c =
    task_run g.D.Disk Sweeping _ _ _ _ c.sweep.ensures.makes

pub returns-clause-runs : goal.returns-clause-runs
returns-clause-runs g c =
    task_run g.D.Disk Sweeping _ _ _ _ c.sweep.ensures.makes
