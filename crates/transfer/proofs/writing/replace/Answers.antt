use Rattle.std.proofs.Common.{Bool, refl, subst}
use Rattle.calls.specs.Calls.{image_on}
use Rattle.transfer.specs.PutWriting.{Puts}
use Rattle.transfer.proofs.writing.replace.Goals as goal

pub returns-then-branch-clause-comes : goal.returns-then-branch-clause-comes
returns-then-branch-clause-comes g c = record {
  place = (refl, c.requires.there);
  files = subst (λ (all : Bool). Puts all c.args.number c.args.bytes.now (image_on g.D.Disk.image c.args.kernel.now) (image_on g.D.Disk.image c.refill.new.kernel)) c.if-branch.true c.in_ok-refill.ensures.puts;
}

pub returns-else-branch-clause-comes : goal.returns-else-branch-clause-comes
returns-else-branch-clause-comes g c = record {
  number = c.args.number;
  place = (refl, c.requires.there);
  full = image_on g.D.Disk.image c.refill.new.kernel;
  part = subst (λ (all : Bool). Puts all c.args.number c.args.bytes.now (image_on g.D.Disk.image c.args.kernel.now) (image_on g.D.Disk.image c.refill.new.kernel)) c.if-branch.false c.in_ok-refill.ensures.puts;
  left = refl;
}
