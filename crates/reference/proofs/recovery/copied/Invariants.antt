use Rattle.std.proofs.Common.{◌≡◌, take}
use Rattle.reference.proofs.recovery.copied.Given as goal

abbrev pub invariant-loop-block : goal.invariant-loop-block
invariant-loop-block l = l.blocks.items ≡ take l.block-index l.image
