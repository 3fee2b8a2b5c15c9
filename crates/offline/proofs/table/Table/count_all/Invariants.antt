use Rattle.std.proofs.Common.{ℕ, ◌++◌, List, drop}
use Rattle.offline.specs.Common.{addresses_in, Image}
use Rattle.offline.specs.Clean.{Counts}
use Rattle.offline.proofs.TableLemmas.{IsCounting}
use Rattle.offline.proofs.table.Table.count_all.Given as goal

abbrev pub invariant-loop-pointer : goal.invariant-loop-pointer
invariant-loop-pointer l =
    (y : Image) (places : List ℕ) → Counts l.initial.self y places →
    IsCounting l.self y (places ++ addresses_in l.pointers) (drop l.pointer-index l.pointers)
