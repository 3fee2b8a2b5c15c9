use Rattle.std.proofs.Common.{◌≡◌, map, take}
use Rattle.messages.specs.Digits.{pair_of}
use Rattle.messages.proofs.hex_digits.write_pairs.Given as goal

abbrev pub invariant-loop-i : goal.invariant-loop-i
invariant-loop-i l = take l.i l.pairs ≡ map pair_of (take l.i l.bytes)
