use Rattle.commands.specs.Lemmas.Ended.{where_done, where_refused}
use Rattle.commands_runs.proofs.runs.run_files.Goals as goal

pub returns-in-Ok-ran-clause-opened : goal.returns-in-Ok-ran-clause-opened
returns-in-Ok-ran-clause-opened g c =
    let ran = c.run_disk-ran in
    (c.in-Ok.disk, (ran.result.1, c.in-Ok.ensures, record { tasks = _; processes = _; runs = where_done ran.result.0 _ _ c.in-Ok-ran.is ran.ensures.ran }))

pub returns-clause-refused : goal.returns-clause-refused
returns-clause-refused g c =
    let ran = c.run_disk-ran in
    (c.in-Ok.disk, (ran.result.1, c.in-Ok.ensures, record { tasks = _; processes = _; refused = where_refused ran.result.0 c.in-Err-ran.refusal _ c.in-Err-ran.is ran.ensures.refused }))
