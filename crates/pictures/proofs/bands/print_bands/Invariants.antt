use Rattle.std.proofs.Common.{◌≡◌, take}
use Rattle.std.specs.Io.KnownBytes.{Appends}
use Rattle.pictures.specs.Along.{left_along, pieces_along}
use Rattle.pictures.specs.Bands.{first_kept, kept_after, piece_of}
use Rattle.pictures.proofs.bands.print_bands.Given as goal

abbrev pub invariant-loop-moment : goal.invariant-loop-moment
invariant-loop-moment g l =
    let done = take l.moment-index l.moments in
    (l.kept ≡ left_along kept_after first_kept done)
    × Appends (g.O.Write.contents l.initial.out) (g.O.Write.contents l.out) (pieces_along (piece_of l.frame) kept_after first_kept done)
