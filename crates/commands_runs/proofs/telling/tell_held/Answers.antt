use Rattle.std.proofs.Common.{refl}
use Rattle.commands_runs.proofs.WholeRuns.{heard_scenario}
use Rattle.commands_runs.specs.Filed.{held_memory}
use Rattle.commands_runs.proofs.telling.tell_held.Goals as goal

pub returns-in-Ok : goal.returns-in-Ok
returns-in-Ok c =
    let s = c.args.scenario in
    heard_scenario c.tell_over.result held_memory _ _ s s.tasks.items s.processes s.words.items _ _ c.in-Ok.ensures.image refl refl refl c.tell_over.ensures
