-- What a device has where a sync failed once, beside what reads give.
use Rattle.std.specs.Prelude.{◌≡◌, ℕ, ◌+◌, ◌&&◌, ◌||◌, not, nat_lt, Bool, IsTrue, length, slice_set}
use Rattle.blocks.specs.Disk.{Image, block_at}
use Rattle.model.specs.Agreement.{Agrees, IsSameOutsideLog}
use Rattle.model.specs.Format.{inode_start, log_start}
use Rattle.model.specs.Laws.{is_home}
use Rattle.model.specs.Log.{is_lawful_log, logged_count, recovered}

-- a block that the log has room for, and that its header doesn't name
abbrev pub is_unlogged : Image → ℕ → Bool
is_unlogged x b = nat_lt (log_start + logged_count x) b && nat_lt b inode_start

-- THE BLOCKS THAT A FAILED SYNC MAY HAVE LEFT OLD where reads give x. Where the sync behind the
-- log's blocks failed, x's header is empty, and these may be old; where that behind the homes
-- failed, x's header names them, and they may be. Where one behind the header failed, whether it
-- names homes or none, that alone may be old, and it is written anew before a recovery's first
-- sync. The blocks that a header names were synced before it was written, so the device has them.
abbrev pub may_be_stale : Image → ℕ → Bool
may_be_stale x b = is_home x b || is_unlogged x b

-- the device has z where reads give x
pub record IsStale (x z : Image) : Type 0 where
  pub size : length z ≡ length x
  pub agree : Agrees (λ b. not (may_be_stale x b)) x z

-- a device with w whose header was written as reads of y give it
abbrev pub freshened : Image → Image → Image
freshened y w = slice_set w log_start (block_at y log_start)

-- recovery of w gives y, but for the log itself
pub record RecoversTo (y w : Image) : Type 0 where
  pub lawful : IsTrue (is_lawful_log w)
  pub same : IsSameOutsideLog y (recovered w)
