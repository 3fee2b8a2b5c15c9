use Rattle.std.proofs.Common.{◌≡◌, map}
use Rattle.std.specs.List.{range_with_len}
use Rattle.model.specs.Log.{recovered_block}
use Rattle.reference.proofs.recovery.recovered.Given as goal

abbrev pub invariant-loop-b : goal.invariant-loop-b
invariant-loop-b l = l.blocks.items ≡ map (recovered_block l.image) (range_with_len 0 l.b)
