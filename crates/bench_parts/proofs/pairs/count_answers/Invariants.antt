use Rattle.std.proofs.Common.{◌≡◌}
use Rattle.rings.specs.Boards.{WatchOf}
use Rattle.rings.specs.Callers.{intake_count}
use Rattle.bench_parts.proofs.pairs.count_answers.Given as goal

abbrev pub invariant-loop-pair : goal.invariant-loop-pair
invariant-loop-pair l = record {
  one : intake_count l.intake ≡ 1;
  watch : WatchOf l.board l.watch;
}
