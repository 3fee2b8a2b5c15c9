use Rattle.std.proofs.Common.{◌≡◌, ℕ, drop}
use Rattle.std.specs.List.{list_all}
use Rattle.offline.specs.Common.{Image, places_of}
use Rattle.offline.specs.Clean.{Counts, is_clean_pointer}
use Rattle.offline.proofs.table.Table.are_clean.Given as goal

abbrev pub invariant-loop-pointer : goal.invariant-loop-pointer
invariant-loop-pointer l =
    (y : Image) (i : ℕ) → Counts l.self y (places_of y) →
    list_all (is_clean_pointer y i) (drop l.pointer-index l.pointers) ≡ list_all (is_clean_pointer y i) l.pointers
