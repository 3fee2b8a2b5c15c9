use Rattle.std.proofs.Common.{take}
use Rattle.std.specs.Io.KnownBytes.{Appends}
use Rattle.inspect.specs.Showing.{blocks_text}
use Rattle.inspect.proofs.showing.print_blocks.Given as goal

abbrev pub invariant-loop-block : goal.invariant-loop-block
invariant-loop-block g l = Appends (g.O.Write.contents l.initial.out) (g.O.Write.contents l.out) (blocks_text (take l.block-index l.blocks))
