use Rattle.std.proofs.Common.{◌∙◌, ap}
use Rattle.std.specs.Prelude.{ℕ, replicate}
use Rattle.blocks.specs.Block.{zero_block}
use Rattle.commands_changes.proofs.conversions.fill_disk.Goals as goal

pub returns-in-Ok-write_to-clause-written : goal.returns-in-Ok-write_to-clause-written
returns-in-Ok-write_to-clause-written g c =
    record { created = c.in-Ok.new; zeroes = c.in-Ok.ensures.made.image ∙ ap (λ (n : ℕ). replicate n zero_block) c.size.ensures; written = c.in-Ok-write_to.ensures.written }

pub returns-in-Err-write_to-clause-refused : goal.returns-in-Err-write_to-clause-refused
returns-in-Err-write_to-clause-refused g c =
    record { created = c.in-Ok.new; zeroes = c.in-Ok.ensures.made.image ∙ ap (λ (n : ℕ). replicate n zero_block) c.size.ensures; why = c.in-Err-write_to.ensures.refused }
