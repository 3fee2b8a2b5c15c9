use Rattle.std.proofs.Common.{◌∙◌, sym, arith}
use Rattle.model.specs.Verdict.{inode_fault}
use Rattle.model.specs.Layout.{inode_count_of}
use Rattle.model.specs.Lemmas.Verdict.{first_here}
use Rattle.reference.proofs.check.inodes_fault.Goals as goal

pub returns-in-Some : goal.returns-in-Some
returns-in-Some c =
    sym (first_here (inode_fault c.args.image.now) c.loop-i.i (inode_count_of c.args.image.now) c.in-Some.fault (omega arith)
    (sym c.in_ok-fault.ensures ∙ c.in-Some.is)) ∙ c.loop-i.invariant
