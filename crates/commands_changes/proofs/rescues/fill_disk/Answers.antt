use Rattle.std.proofs.Common.{◌∙◌, ℕ, ap, replicate}
use Rattle.blocks.specs.Block.{zero_block}
use Rattle.commands_changes.proofs.rescues.fill_disk.Goals as goal

pub returns-in-Ok-fill-clause-filled : goal.returns-in-Ok-fill-clause-filled
returns-in-Ok-fill-clause-filled g c = record {
  created = c.in-Ok.new;
  zeroes = c.in-Ok.ensures.made.image ∙ ap (λ (n : ℕ). replicate n zero_block) c.size.ensures;
  filled = c.in-Ok-fill.ensures.filled;
}

pub returns-in-Err-fill-clause-refused : goal.returns-in-Err-fill-clause-refused
returns-in-Err-fill-clause-refused g c = record {
  created = c.in-Ok.new;
  zeroes = c.in-Ok.ensures.made.image ∙ ap (λ (n : ℕ). replicate n zero_block) c.size.ensures;
  unfilled = c.in-Err-fill.ensures.refused;
}
