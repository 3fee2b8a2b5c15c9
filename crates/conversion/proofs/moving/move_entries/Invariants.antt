use Rattle.std.proofs.Common.{◌≡◌, map, take}
use Rattle.conversion.specs.Common.{bytes_of_words, moved, overwritten, words_of}
use Rattle.conversion.proofs.moving.move_entries.Given as goal

abbrev pub invariant-loop-e : goal.invariant-loop-e
invariant-loop-e l = l.block ≡ overwritten l.initial.block 0 (bytes_of_words (take l.e (map (moved l.from l.to) (words_of l.initial.block))))
