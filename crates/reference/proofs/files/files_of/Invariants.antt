use Rattle.std.proofs.Common.{◌≡◌, map}
use Rattle.std.specs.List.{range_with_len}
use Rattle.model.specs.Files.{file_at}
use Rattle.reference.proofs.files.files_of.Given as goal

abbrev pub invariant-loop-i : goal.invariant-loop-i
invariant-loop-i l = l.files.items ≡ map (file_at l.image) (range_with_len 0 l.i)
