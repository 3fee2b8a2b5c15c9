use Rattle.std.proofs.Common.{◌≡◌, ◌≤◌, take}
use Rattle.pictures.specs.Along.{left_along}
use Rattle.pictures.specs.Stops.{higher}
use Rattle.pictures.proofs.stops.most_images.Given as goal

abbrev pub invariant-loop-column : goal.invariant-loop-column
invariant-loop-column l = (l.most ≡ left_along higher 0 (take l.column-index l.columns)) × (l.most ≤ 65)
