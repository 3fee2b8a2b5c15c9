use Rattle.std.proofs.Common.{◌≡◌, take}
use Rattle.std.specs.Io.KnownBytes.{Appends}
use Rattle.pictures.specs.Along.{left_along, pieces_along}
use Rattle.pictures.specs.Stops.{column_text, place_behind}
use Rattle.pictures.proofs.stops.print_columns.Given as goal

abbrev pub invariant-loop-column : goal.invariant-loop-column
invariant-loop-column g l =
    let done = take l.column-index l.columns in
    (l.place ≡ left_along place_behind 0 done)
    × Appends (g.O.Write.contents l.initial.out) (g.O.Write.contents l.out) (pieces_along column_text place_behind 0 done)
