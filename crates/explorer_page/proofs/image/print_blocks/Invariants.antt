use Rattle.std.specs.Io.KnownBytes.{Appends}
use Rattle.std.specs.List.{flat_map, range_with_len}
use Rattle.blocks.specs.Disk.{block_at}
use Rattle.explorer_page.specs.Page.{block_line}
use Rattle.explorer_page.proofs.image.print_blocks.Given as goal

-- the objects of the blocks so far are written
abbrev pub invariant-loop-b : goal.invariant-loop-b
invariant-loop-b g l = Appends (g.O.Write.contents l.initial.out) (g.O.Write.contents l.out) (flat_map (λ b. block_line b (block_at l.disk.blocks.items b)) (range_with_len 0 l.b))
