use Rattle.std.proofs.Common.{sym, ◌-◌, ◌*◌}
use Rattle.inodes.proofs.NoneFree.{none_free}
use Rattle.inodes.proofs.ialloc.lowest_free.Goals as goal

pub returns-then-are_used : goal.returns-then-are_used
returns-then-are_used c = sym (none_free c.args.bytes.now c.args.inode_count ((c.args.block - 33) * 16) 16 (c.are_used.ensures c.if-are_used.true))
