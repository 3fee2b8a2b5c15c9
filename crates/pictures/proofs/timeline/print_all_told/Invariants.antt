use Rattle.std.proofs.Common.{take}
use Rattle.std.specs.List.{flat_map}
use Rattle.std.specs.Io.KnownBytes.{Appends}
use Rattle.pictures.specs.Titles.{told_text}
use Rattle.pictures.proofs.timeline.print_all_told.Given as goal

abbrev pub invariant-loop-moment : goal.invariant-loop-moment
invariant-loop-moment g l = Appends (g.O.Write.contents l.initial.out) (g.O.Write.contents l.out) (flat_map (told_text l.inode_count) (take l.moment-index l.moments))
