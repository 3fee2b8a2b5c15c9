-- Operations that take an inode: what is true of their tasks, of the table and of the current image
-- between any two steps.
use Rattle.std.specs.Prelude.{◌≡◌, ◌⊎◌, ◌<◌, ◌≤◌, ◌^◌, ℕ, ◌+◌, ◌-◌, ◌/◌, min, IsTrue, List, [], length, Option, Some, None}
use Rattle.blocks.specs.Disk.{Image}
use Rattle.blocks.specs.Block.{block_size}
use Rattle.model.specs.declared.types.image.Dinode.{Dinode}
use Rattle.model.specs.declared.types.operations.Attribute.TheVariants.{Links, Size}
use Rattle.model.specs.declared.types.operations.Op.{Op}
use Rattle.model.specs.declared.types.operations.Op.TheVariants.{Create, Write, Read, Trunc, Remove, Stat, SetAttribute}
use Rattle.model.specs.Files.{Files, bytes_in}
use Rattle.model.specs.Gathered.{GatheredBytes}
use Rattle.model.specs.Journal.{is_number}
use Rattle.model.specs.Layout.{form_of}
use Rattle.model.specs.Operations.{part_of, transfer_limit}
use Rattle.in_flight.specs.Held.{Claims, FitsHeld}
use Rattle.blockmap.specs.Target.{LeadsToBlock}
use Rattle.inodes.specs.declared.tasks.Stage.{Stage}
use Rattle.inodes.specs.Grips.{HasNumber, TableIs}
use Rattle.inodes.specs.Holding.{FitsField, IsSetting, IsTruncating, claims_of}
use Rattle.inodes.specs.LockState.{LockState}
use Rattle.inodes.specs.Stages.{asked, grips_of}
use Rattle.inodes.specs.Readi.{ReadState}
use Rattle.inodes.specs.Table.{TableState, copy_at, holder_at}
use Rattle.inodes.specs.Tasks.{TaskState, task}
use Rattle.inodes.specs.Writing.{IsWriting}

-- an operation that looks at the file of a number that operations may name, and asks for no more
-- bytes than there may be at once
abbrev pub CanLook : ℕ → Op → Type 0
CanLook n (Create kind) = ⊥
CanLook n (Write i off bytes) = ⊥
CanLook n (Read i off count) = IsTrue (is_number n i) × (count ≤ transfer_limit)
CanLook n (Trunc i) = ⊥
CanLook n (Remove i) = ⊥
CanLook n (Stat i) = IsTrue (is_number n i)
CanLook n (SetAttribute i a) = ⊥

-- an operation that takes the inode of a number that operations may name: one that looks at its
-- file, or frees its blocks, or writes no more bytes than there may be at once, or sets an attribute
abbrev pub CanTake : ℕ → Op → Type 0
CanTake n (Create kind) = ⊥
CanTake n (Write i off bytes) = IsTrue (is_number n i) × (length bytes ≤ transfer_limit)
CanTake n (Read i off count) = IsTrue (is_number n i) × (count ≤ transfer_limit)
CanTake n (Trunc i) = IsTrue (is_number n i)
CanTake n (Remove i) = IsTrue (is_number n i)
CanTake n (Stat i) = IsTrue (is_number n i)
CanTake n (SetAttribute i a) = IsTrue (is_number n i) × FitsField a

-- a reading has room for as many bytes as it asks for, and none so far
abbrev pub HasRoom : Op → Option GatheredBytes → Type 0
HasRoom (Create kind) g = g ≡ None
HasRoom (Write i off bytes) g = g ≡ None
HasRoom (Read i off count) g = g ≡ Some (record { bytes = []; room = count })
HasRoom (Trunc i) g = g ≡ None
HasRoom (Remove i) g = g ≡ None
HasRoom (Stat i) g = g ≡ None
HasRoom (SetAttribute i a) g = g ≡ None

-- an operation takes its inode
pub record IsTaking (n : ℕ) (t : TaskState) (m : LockState) : Type 0 where
  pub op : Op
  pub is : t.op ≡ Some op
  pub can : CanTake n op
  pub number : m.number ≡ asked op
  pub room : HasRoom op t.gathered

-- A reading of that many bytes from an offset on has come to its next place: it has the bytes
-- before it.
pub record HasRead (cur : Image) (off count : ℕ) (m : ReadState) (g : GatheredBytes) : Type 0 where
  pub form : m.form ≡ form_of cur
  pub begun : off ≤ m.next
  pub some : m.next < m.end
  pub end : m.end ≡ min m.inode.size (off + count)
  pub bytes : g.bytes ≡ part_of (bytes_in cur m.inode) off (m.next - off)
  pub room : m.end - m.next ≤ g.room
  pub leads : LeadsToBlock cur m.inode (m.next / block_size) m.target

-- the task is that of a reading, which asks for no more bytes than there may be at once
pub record IsRead (n : ℕ) (t : TaskState) : Type 0 where
  pub number : ℕ
  pub offset : ℕ
  pub count : ℕ
  pub is : t.op ≡ Some (Read number offset count)
  pub may : CanLook n (Read number offset count)
  pub gathered : GatheredBytes
  pub has : t.gathered ≡ Some gathered

-- an operation that writes bytes: a write, or a longer length
abbrev pub IsWriteOp : Op → Type 0
IsWriteOp (Create kind) = ⊥
IsWriteOp (Write i off bytes) = Unit {0}
IsWriteOp (Read i off n) = ⊥
IsWriteOp (Trunc i) = ⊥
IsWriteOp (Remove i) = ⊥
IsWriteOp (Stat i) = ⊥
IsWriteOp (SetAttribute i (Links n)) = ⊥
IsWriteOp (SetAttribute i (Size n)) = Unit {0}

-- the task is that of a write, of no more bytes than there may be at once, or that of a length
pub record IsWrite (n : ℕ) (t : TaskState) : Type 0 where
  pub op : Op
  pub is : t.op ≡ Some op
  pub writes : IsWriteOp op
  pub may : CanTake n op

-- a task whose reply is to come behind its turn
abbrev pub IsLate : ℕ → TaskState → Type 0
IsLate n t = IsRead n t ⊎ IsWrite n t

-- a reading is at work on the inode that stands at place k of the table
pub record IsAtRead (cur : Image) (n : ℕ) (inode : Option Dinode) (t : TaskState) (m : ReadState)
    : Type 0 where
  pub op : IsRead n t
  pub copy : inode ≡ Some m.inode
  pub read : HasRead cur op.offset op.count m op.gathered

-- it has all bytes
pub record HasAllRead (cur : Image) (n : ℕ) (inode : Option Dinode) (t : TaskState) : Type 0 where
  pub op : IsRead n t
  pub dinode : Dinode
  pub copy : inode ≡ Some dinode
  pub bytes : op.gathered.bytes ≡ part_of (bytes_in cur dinode) op.offset op.count

-- an operation that took its inode has its reply
pub record WasAnswered (n : ℕ) (t : TaskState) : Type 0 where
  pub op : Op
  pub is : t.op ≡ Some op
  pub can : CanTake n op

-- what is true of a task by its stage, beside what it holds
abbrev pub LooksAt : Image → TableState → TaskState → Stage → Type 0
LooksAt cur i t Stage.Nowhere = Unit {0}
LooksAt cur i t (Stage.Creating m) = Unit {0}
LooksAt cur i t (Stage.Taking m) = IsTaking i.inode_count t m
LooksAt cur i t (Stage.Reading k m) = IsAtRead cur i.inode_count (copy_at i.places k) t m
LooksAt cur i t (Stage.Delivering k) = HasAllRead cur i.inode_count (copy_at i.places k) t
LooksAt cur i t (Stage.Truncating k m) = IsTruncating cur i.inode_count t m
LooksAt cur i t (Stage.Writing k m) = IsWriting cur i.inode_count t m
LooksAt cur i t (Stage.Setting k d u) = IsSetting i.inode_count t u
LooksAt cur i t (Stage.Leaving k) = WasAnswered i.inode_count t

-- the image stands for some files, where tasks hold numbers so
abbrev pub HasFiles : Image → Claims → Type 0
HasFiles x claims = (files : Files) × FitsHeld files x claims

-- THE TABLE agrees with tasks and current image, and each task with what it has read
pub record AreLooking (cur : Image) (i : TableState) (ts : List TaskState) : Type 0 where
  pub files : HasFiles cur (claims_of ts)
  pub table : TableIs i (grips_of ts) cur
  pub stand : (p : ℕ) → LooksAt cur i (task ts p) (task ts p).stage

-- process p has the lock of number i's inode, which stands in the table
pub record HoldsInode (t : TableState) (p i : ℕ) : Type 0 where
  pub place : ℕ
  pub number : HasNumber t.places place i
  pub holder : holder_at t.places place ≡ Some p
