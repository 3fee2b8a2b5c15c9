use Rattle.std.proofs.lemmas.Result.{IfOk-weaker}
use Rattle.scripts.proofs.ScheduleLemmas.{named}
use Rattle.scripts.proofs.schedule.read_schedule.Goals as goal

pub returns-clause-processes : goal.returns-clause-processes
returns-clause-processes c = IfOk-weaker c.words_in.result _ _ (λ words is. named c.args.processes c.args.text.now words.items is) c.words_in.ensures.words
