use Rattle.std.proofs.Common.{◌∙◌, ℕ, ap, replicate, inl}
use Rattle.blocks.specs.Block.{zero_block}
use Rattle.commands_changes.proofs.puts_anew.write_new.Goals as goal

pub returns-in-Ok-write_image-clause-written : goal.returns-in-Ok-write_image-clause-written
returns-in-Ok-write_image-clause-written g c = record {
  zeroes = c.in-Ok-zeroed.disk;
  empty = c.in-Ok-zeroed.ensures.made.image ∙ ap (λ (n : ℕ). replicate n zero_block) c.size.ensures;
  written = c.write_image.new.disk;
  writes = c.in-Ok-write_image.ensures.written;
}

pub returns-in-Ok-zeroed-clause-refused : goal.returns-in-Ok-zeroed-clause-refused
returns-in-Ok-zeroed-clause-refused g c = inl (record {
  zeroes = c.in-Ok-zeroed.disk;
  failed = c.write_image.new.disk;
  fault = c.in-Err-write_image.fault;
  is = c.from.ensures;
  rose = c.in-Err-write_image.ensures.rose;
})
