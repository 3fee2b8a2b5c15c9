use Rattle.std.specs.Io.KnownBytes.{Appends}
use Rattle.std.specs.List.{flat_map, range_with_len}
use Rattle.pictures.specs.Stops.{image_square}
use Rattle.pictures.proofs.stops.print_images.Given as goal

abbrev pub invariant-loop-image : goal.invariant-loop-image
invariant-loop-image g l = Appends (g.O.Write.contents l.initial.out) (g.O.Write.contents l.out) (flat_map (image_square l.place l.column) (range_with_len 0 l.image))
