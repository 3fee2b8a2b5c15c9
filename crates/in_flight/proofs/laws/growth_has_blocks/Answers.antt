use Rattle.in_flight.specs.Lemmas.GrowthBlocks.{growth_has_blocks}
use Rattle.in_flight.proofs.laws.growth_has_blocks.Goals as goal

pub returns : goal.returns
returns c = growth_has_blocks
