use Rattle.std.proofs.Common.{◌≡◌, ℕ, List, ◌++◌}
use Rattle.std.specs.Io.KnownBytes.{Appends}
use Rattle.std.specs.Slice.Iter.{chunks_rest, chunks_size}
use Rattle.hex.specs.Hex.{encode_lower}
use Rattle.json_lines.proofs.content.print_digits.Given as goal

-- the digits of the pieces so far are written
abbrev pub invariant-loop-piece : goal.invariant-loop-piece
invariant-loop-piece g l =
    (goal.iterator-loop-piece g).can_next l.piece-iterator
    × (goal.iterator-loop-piece g).is_finite l.piece-iterator
    × (chunks_size l.piece-iterator ≡ 256)
    × ((done : List ℕ) × Appends (g.O.Write.contents l.initial.out) (g.O.Write.contents l.out) done
    × (done ++ encode_lower (chunks_rest l.piece-iterator) ≡ encode_lower l.bytes))
