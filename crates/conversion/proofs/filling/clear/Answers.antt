use Rattle.std.proofs.Common.{◌∙◌}
use Rattle.model.specs.Lemmas.Codecs.{overwritten_zeroes}
use Rattle.conversion.proofs.filling.clear.Goals as goal

pub returns : goal.returns
returns c = c.put.ensures.written ∙ overwritten_zeroes c.args.block.now c.as_slice-bytes.ensures.block.size
