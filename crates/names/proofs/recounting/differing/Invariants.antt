use Rattle.names.proofs.Recounts.{HasCompared}
use Rattle.names.proofs.recounting.differing.Given as goal

-- the first numbers were compared
abbrev pub invariant-loop-number : goal.invariant-loop-number
invariant-loop-number l = record {
  compared : HasCompared l.counts l.links l.number l.wrong.items;
}
