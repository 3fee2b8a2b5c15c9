use Rattle.model.specs.Lemmas.Bits.{has_bit-first_bits}
use Rattle.model.proofs.laws.first_bits.Goals as goal

pub returns : goal.returns
returns c = has_bit-first_bits
