use Rattle.std.proofs.Common.{◌≡◌, drop}
use Rattle.model.specs.Log.{are_distinct}
use Rattle.reference.proofs.log.are_distinct.Given as goal

abbrev pub invariant-loop-k : goal.invariant-loop-k
invariant-loop-k l = are_distinct (drop l.k l.numbers) ≡ are_distinct l.numbers
