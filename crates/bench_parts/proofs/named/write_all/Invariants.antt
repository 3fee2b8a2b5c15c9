use Rattle.names.specs.Ready.{MayGoOn}
use Rattle.bench_parts.proofs.named.write_all.Given as goal

abbrev pub invariant-loop-k : goal.invariant-loop-k
invariant-loop-k g l = MayGoOn g.D.Disk l.tree.kernel l.tree.calls_left
