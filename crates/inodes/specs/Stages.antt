-- What a task's stage says of its process.
use Rattle.std.specs.Prelude.{◌≡◌, ◌⊎◌, ℕ, ◌+◌, ◌-◌, ◌*◌, Bool, true, false, List, map, Option, Some, None}
use Rattle.blocks.specs.Disk.{Image}
use Rattle.model.specs.declared.types.image.Form.{Form}
use Rattle.model.specs.declared.types.operations.Op.{Op}
use Rattle.model.specs.declared.types.operations.Op.TheVariants.{Create, Write, Read, Trunc, Remove, Stat, SetAttribute}
use Rattle.model.specs.Layout.{form_of, inode_block}
use Rattle.in_flight.specs.Held.{most_left}
use Rattle.blockmap.specs.Target.{block_of, slot_in}
use Rattle.inodes.specs.declared.ilock.LockAt.{LockAt}
use Rattle.inodes.specs.declared.tasks.Stage.{Stage}
use Rattle.inodes.specs.Freeing.{IsGot, block_next, now_of}
use Rattle.inodes.specs.Grips.{Grip, unlocked_grip, locked_grip}
use Rattle.inodes.specs.Holding.{truncs_left, uses_left}
use Rattle.inodes.specs.LockState.{slot_of, locks_left}
use Rattle.inodes.specs.Readi.{reads_left}
use Rattle.inodes.specs.Tasks.{TaskState}
use Rattle.inodes.specs.Writing.{block_of_write, kept_by_write, used_by_write, writes_left}

-- the number of the inode that an operation asks for; 0 for a creation, which asks for none
abbrev pub asked : Op → ℕ
asked (Create kind) = 0
asked (Write i off bytes) = i
asked (Read i off n) = i
asked (Trunc i) = i
asked (Remove i) = i
asked (Stat i) = i
asked (SetAttribute i a) = i

abbrev pub asked_by : Option Op → ℕ
asked_by None = 0
asked_by (Some op) = asked op

-- a task that stands there is over
abbrev pub is_over : Stage → Bool
is_over Stage.Nowhere = true
is_over (Stage.Creating m) = false
is_over (Stage.Taking m) = false
is_over (Stage.Reading k m) = false
is_over (Stage.Delivering k) = false
is_over (Stage.Truncating k m) = false
is_over (Stage.Writing k m) = false
is_over (Stage.Setting k d u) = false
is_over (Stage.Leaving k) = false

-- a task that stands there has not had its turn
abbrev pub is_unturned : Stage → Bool
is_unturned Stage.Nowhere = false
is_unturned (Stage.Creating m) = true
is_unturned (Stage.Taking m) = true
is_unturned (Stage.Reading k m) = false
is_unturned (Stage.Delivering k) = false
is_unturned (Stage.Truncating k m) = false
is_unturned (Stage.Writing k m) = false
is_unturned (Stage.Setting k d u) = false
is_unturned (Stage.Leaving k) = false

-- a task that stands there has got slot i
abbrev pub HasSlot : Stage → ℕ → Type 0
HasSlot Stage.Nowhere i = None ≡ Some i
HasSlot (Stage.Creating m) i = m.slot ≡ Some i
HasSlot (Stage.Taking m) i = slot_of m.at ≡ Some i
HasSlot (Stage.Reading k m) i = slot_in m.target ≡ Some i
HasSlot (Stage.Delivering k) i = None ≡ Some i
HasSlot (Stage.Truncating k m) i = IsGot m.kept (now_of m) i
HasSlot (Stage.Writing k m) i =
    (kept_by_write m.at ≡ Some i) ⊎ (used_by_write m.at ≡ Some i)
HasSlot (Stage.Setting k d u) i = u.slot ≡ Some i
HasSlot (Stage.Leaving k) i = None ≡ Some i

-- the block that a task gets or uses next
abbrev pub block_at_stage : Stage → ℕ
block_at_stage Stage.Nowhere = 0
block_at_stage (Stage.Creating m) = m.block
block_at_stage (Stage.Taking m) = inode_block m.number
block_at_stage (Stage.Reading k m) = block_of m.target
block_at_stage (Stage.Delivering k) = 0
block_at_stage (Stage.Truncating k m) = block_next m
block_at_stage (Stage.Writing k m) = block_of_write m.at
block_at_stage (Stage.Setting k d u) = inode_block u.number
block_at_stage (Stage.Leaving k) = 0

-- what a process has of an inode that it takes
abbrev pub grip_at : LockAt → ℕ → Option Grip
grip_at LockAt.Reference i = None
grip_at (LockAt.Lock k) i = Some (unlocked_grip k i)
grip_at (LockAt.Read k slot) i = Some (locked_grip k i)

-- what a process has of the table, whose operation asks for number i
abbrev pub grip_by : Stage → ℕ → Option Grip
grip_by Stage.Nowhere i = None
grip_by (Stage.Creating m) i = None
grip_by (Stage.Taking m) i = grip_at m.at m.number
grip_by (Stage.Reading k m) i = Some (locked_grip k i)
grip_by (Stage.Delivering k) i = Some (locked_grip k i)
grip_by (Stage.Truncating k m) i = Some (locked_grip k i)
grip_by (Stage.Writing k m) i = Some (locked_grip k i)
grip_by (Stage.Setting k d u) i = Some (locked_grip k i)
grip_by (Stage.Leaving k) i = Some (locked_grip k i)

abbrev pub grip_of : TaskState → Option Grip
grip_of t = grip_by t.stage (asked_by t.op)

abbrev pub grips_of : List TaskState → List (Option Grip)
grips_of ts = map grip_of ts

-- a task that had its turn, and whose reply is to come
abbrev pub owes_reply : Stage → Bool
owes_reply Stage.Nowhere = false
owes_reply (Stage.Creating m) = false
owes_reply (Stage.Taking m) = false
owes_reply (Stage.Reading k m) = true
owes_reply (Stage.Delivering k) = true
owes_reply (Stage.Truncating k m) = false
owes_reply (Stage.Writing k m) = true
owes_reply (Stage.Setting k d u) = false
owes_reply (Stage.Leaving k) = false

-- the steps of a search at the block that it looks at: it has to be got, and looked at
abbrev pub looks_left : Option ℕ → ℕ
looks_left None = 2
looks_left (Some slot) = 1

-- the most that a truncation has behind its turn
abbrev pub most_behind : Form → ℕ
most_behind form = 4 * most_left form + 4

-- the steps that a task has left at most, the one included in which it gives its inode up; behind
-- the turn a truncation has the most, and those depend on the blocks that it has to give up
abbrev pub steps_left : Image → Stage → ℕ → ℕ
steps_left x Stage.Nowhere n = 0
steps_left x (Stage.Creating m) n = 2 * (inode_block (n - 1) - m.block) + looks_left m.slot
steps_left x (Stage.Taking m) n = locks_left m.at + (most_behind (form_of x) + 1)
steps_left x (Stage.Reading k m) n = reads_left m + 1
steps_left x (Stage.Delivering k) n = 1
steps_left x (Stage.Truncating k m) n = truncs_left x m + 1
steps_left x (Stage.Writing k m) n = writes_left m + 1
steps_left x (Stage.Setting k d u) n = uses_left u.slot + 1
steps_left x (Stage.Leaving k) n = 1
