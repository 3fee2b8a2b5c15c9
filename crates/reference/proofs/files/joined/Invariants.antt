use Rattle.std.proofs.Common.{◌≡◌}
use Rattle.std.specs.List.{flat_map, range_with_len}
use Rattle.model.specs.Files.{data_at}
use Rattle.model.specs.Places.{address_in}
use Rattle.reference.proofs.files.joined.Given as goal

abbrev pub invariant-loop-k : goal.invariant-loop-k
invariant-loop-k l = l.bytes.items ≡ flat_map (λ k. data_at l.image (address_in l.image l.inode k)) (range_with_len 0 l.k)
