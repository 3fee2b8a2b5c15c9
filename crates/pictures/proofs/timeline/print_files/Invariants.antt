use Rattle.std.proofs.Common.{take}
use Rattle.std.specs.List.{flat_map}
use Rattle.std.specs.Io.KnownBytes.{Appends}
use Rattle.pictures.specs.FilesRow.{files_text}
use Rattle.pictures.proofs.timeline.print_files.Given as goal

abbrev pub invariant-loop-then : goal.invariant-loop-then
invariant-loop-then g l = Appends (g.O.Write.contents l.initial.out) (g.O.Write.contents l.out) (flat_map (files_text l.frame) (take l.then-index l.files))
