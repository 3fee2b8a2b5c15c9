use Rattle.std.proofs.Common.{◌≡◌, take}
use Rattle.std.specs.Io.KnownBytes.{Appends}
use Rattle.pictures.specs.Along.{left_along, pieces_along}
use Rattle.pictures.specs.Brackets.{first_under, piece_of, under_after}
use Rattle.pictures.proofs.brackets.print_brackets.Given as goal

abbrev pub invariant-loop-moment : goal.invariant-loop-moment
invariant-loop-moment g l =
    let done = take l.moment-index l.moments in
    (l.under ≡ left_along (under_after l.frame) first_under done)
    × Appends (g.O.Write.contents l.initial.out) (g.O.Write.contents l.out) (pieces_along (piece_of l.frame) (under_after l.frame) first_under done)
