use Rattle.std.proofs.Common.{◌≡◌, length, drop}
use Rattle.blocks.specs.Common.{chosen, held_by}
use Rattle.blocks.proofs.held.Holding.left.Given as goal

-- the choices that are left to make lead to the same blocks
abbrev pub invariant-loop-i : goal.invariant-loop-i
invariant-loop-i l = record {
  size : length l.blocks.items ≡ length l.self.synced.items;
  left : chosen l.blocks.items (drop l.i (held_by l.self)) (drop l.i l.keep) ≡ chosen l.self.synced.items (held_by l.self) l.keep;
}
