use Rattle.std.proofs.Common.{ap, ◌∙◌}
use Rattle.offline.specs.Common.{super_block}
use Rattle.offline.proofs.new_image.NewImage.new.Goals as goal

pub invariant_of-result-clause-has_super : goal.invariant_of-result-clause-has_super
invariant_of-result-clause-has_super c = c.write.ensures ∙ ap (super_block c.args.form) c.requires.planned
