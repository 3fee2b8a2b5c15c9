use Rattle.std.proofs.Common.{◌≡◌, take, drop}
use Rattle.model.specs.Fields.{words_of}
use Rattle.reference.proofs.log.homes_of.Given as goal

abbrev pub invariant-loop-k : goal.invariant-loop-k
invariant-loop-k l = l.homes.items ≡ take l.k (words_of (drop 4 l.header))
