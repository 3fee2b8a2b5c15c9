use Rattle.std.proofs.Common.{◌∙◌, sym, ap}
use Rattle.inodes.specs.Growing.{bytes_of}
use Rattle.inodes.specs.Lemmas.Looks.{zeroes_are}
use Rattle.inodes.proofs.looks.bytes_of.Goals as goal

pub returns-in-SetAttribute : goal.returns-in-SetAttribute
returns-in-SetAttribute c = zeroes_are ∙ sym (ap bytes_of c.in-SetAttribute.is)
