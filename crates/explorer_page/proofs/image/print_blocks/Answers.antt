use Rattle.std.proofs.Common.{ℕ, List, subst}
use Rattle.std.specs.Io.KnownBytes.{Appends}
use Rattle.blocks.specs.Disk.{block_at}
use Rattle.messages.specs.Lemmas.Texts.{numbered_more}
use Rattle.explorer_page.specs.Page.{block_line}
use Rattle.explorer_page.proofs.image.print_blocks.Goals as goal

pub loop-b-preserved : goal.loop-b-preserved
loop-b-preserved g c =
    numbered_more (λ b. block_line b (block_at c.args.disk.now.blocks.items b)) c.loop-b.b _ _ _ c.loop-b.invariant
    (subst (λ (bytes : List ℕ). Appends (g.O.Write.contents c.loop-b.out) (g.O.Write.contents c.print_block_line.new.out) (block_line c.loop-b.b bytes)) c.block.ensures.value c.in_ok-print_block_line.ensures.ok)
