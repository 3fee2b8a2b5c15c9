use Rattle.std.proofs.lemmas.Result.{IfOk-weaker}
use Rattle.scripts.specs.Script.{lines_of}
use Rattle.scripts.proofs.ProcessLemmas.{All-below}
use Rattle.scripts.proofs.script.read_script.Goals as goal

pub returns-clause-processes : goal.returns-clause-processes
returns-clause-processes c =
    IfOk-weaker c.tasks_in.result _ _ (λ tasks e. rw e (All-below 1 (lines_of c.args.text.now))) c.tasks_in.ensures.tasks
