use Rattle.std.proofs.Common.{refl, replicate}
use Rattle.inodes.proofs.TableNumbers.{numbered_free}
use Rattle.inodes.proofs.table.Inodes.new.Goals as goal

pub invariant_of-result : goal.invariant_of-result
invariant_of-result c = numbered_free (replicate 50 0) refl
