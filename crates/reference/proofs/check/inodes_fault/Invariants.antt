use Rattle.std.proofs.Common.{◌≡◌, ◌-◌}
use Rattle.std.specs.List.{range_with_len}
use Rattle.model.specs.Layout.{inode_count_of}
use Rattle.model.specs.Places.{numbers_of}
use Rattle.model.specs.Verdict.{first_of, inode_fault}
use Rattle.reference.proofs.check.inodes_fault.Given as goal

abbrev pub invariant-loop-i : goal.invariant-loop-i
invariant-loop-i l =
    first_of (inode_fault l.image) (range_with_len l.i (inode_count_of l.image - l.i)) ≡ first_of (inode_fault l.image) (numbers_of l.image)
