-- Where a process stands that takes an inode.
use Rattle.std.specs.Prelude.{ℕ, Option, Some, None}
use Rattle.inodes.specs.declared.ilock.LockAt.{LockAt}

pub record LockState : Type 0 where
  -- the inode's number
  pub number : ℕ
  pub at : LockAt

-- the place of the inode in the table, once there is a reference to it
abbrev pub place_of : LockAt → ℕ
place_of LockAt.Reference = 0
place_of (LockAt.Lock k) = k
place_of (LockAt.Read k slot) = k

-- the slot of the inode's block, where it was got
abbrev pub slot_of : LockAt → Option ℕ
slot_of LockAt.Reference = None
slot_of (LockAt.Lock k) = None
slot_of (LockAt.Read k slot) = slot

-- how many steps are left at most
abbrev pub locks_left : LockAt → ℕ
locks_left LockAt.Reference = 4
locks_left (LockAt.Lock k) = 3
locks_left (LockAt.Read k None) = 2
locks_left (LockAt.Read k (Some i)) = 1
