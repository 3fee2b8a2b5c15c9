use Rattle.std.proofs.Common.{◌≡◌, ◌*◌, ◌++◌, take, drop}
use Rattle.std.specs.List.{concat}
use Rattle.xvfs_c.proofs.image.store.Given as goal

-- the blocks before b are laid, and what is behind them is as it was
abbrev pub invariant-loop-b : goal.invariant-loop-b
invariant-loop-b l = l.image ≡ concat (take l.b l.disk.blocks.items) ++ drop (l.b * 1024) l.fn.image
