use Rattle.cli.proofs.TipLemmas.{NearestOf}
use Rattle.cli.proofs.tips.nearest.Given as goal

abbrev pub invariant-loop-name : goal.invariant-loop-name
invariant-loop-name l = NearestOf l.word l.names l.name-index l.near l.more
