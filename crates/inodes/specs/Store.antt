-- A volume with the tasks of processes, and what is true of it between any two steps.
use Rattle.std.specs.Prelude.{◌≡◌, ◌⊎◌, true, ◌<◌, ◌≤◌, ◌^◌, ℕ, ◌+◌, ◌-◌, IsTrue, IfNone, List, length, slice_set, Option, Some, None}
use Rattle.blocks.specs.Disk.{Image}
use Rattle.model.specs.Format.{inode_start}
use Rattle.model.specs.declared.types.operations.Op.{Op}
use Rattle.model.specs.declared.types.operations.Op.TheVariants.{Create, Write, Read, Trunc, Remove, Stat, SetAttribute}
use Rattle.model.specs.declared.types.operations.Reply.{Reply}
use Rattle.model.specs.declared.types.operations.Reply.TheVariants.{Made, NoInode}
use Rattle.model.specs.Files.{Files}
use Rattle.model.specs.Layout.{form_of, inode_block, inode_count_of}
use Rattle.model.specs.Journal.{is_number}
use Rattle.model.specs.Operations.{is_kind, transfer_limit}
use Rattle.model.specs.Soundness.{IsLawfulGeometry}
use Rattle.in_flight.specs.Held.{FitsHeld}
use Rattle.bcache.specs.Buffers.{Buffers, fresh_buffers}
use Rattle.wal.specs.Held.{HoldsBlock, HasLock}
use Rattle.wal.specs.Joint.{seen}
use Rattle.wal.specs.Machine.{LogState, used_by, is_among, begin_cause, begun, new_log}
use Rattle.wal.specs.Volume.{VolumeState}
use Rattle.model.specs.Gathered.{GatheredBytes}
use Rattle.blockmap.specs.Target.{block_of, slot_in}
use Rattle.inodes.specs.declared.freeing.Freeing.{Freeing}
use Rattle.inodes.specs.Freeing.{HoldsBlocks, now_of}
use Rattle.inodes.specs.Ialloc.{SearchState}
use Rattle.inodes.specs.Iupdate.{UpdateState}
use Rattle.inodes.specs.declared.ilock.LockAt.{LockAt}
use Rattle.inodes.specs.declared.tasks.Stage.{Stage}
use Rattle.inodes.specs.Holding.{FitsField, claims_of}
use Rattle.inodes.specs.LockState.{slot_of}
use Rattle.inodes.specs.Looks.{AreLooking}
use Rattle.inodes.specs.Stages.{asked, HasSlot}
use Rattle.inodes.specs.Table.{TableState}
use Rattle.inodes.specs.Tasks.{TaskState, task}
use Rattle.inodes.specs.Writei.{WriteState}
use Rattle.inodes.specs.Writing.{HasOpen, HasLoggedWrite, block_of_write, kept_by_write, node_of_write, used_by_write}

pub record StoreState (D : Type 0) : Type 0 where
  pub volume : VolumeState D
  -- where each process stands
  pub tasks : List TaskState
  -- the inodes in memory
  pub table : TableState

-- the image as it is now, with what stands in buffers alone
abbrev pub current_of : {D : Type 0} → (D → Image) → VolumeState D → Image
current_of image v = seen (image v.device) v.buffers

-- THE FILES: the current image stands for these, with the operations that had their turn done
unfoldable pub FitsFiles : {D : Type 0} → (D → Image) → StoreState D → Files → Type 0
FitsFiles image s files = FitsHeld files (current_of image s.volume) (claims_of s.tasks)

-- whatever files it stood for, it stands for
abbrev pub KeepsFiles : {D : Type 0} → (D → Image) → StoreState D → StoreState D → Type 0
KeepsFiles image old new = (files : Files) → FitsFiles image old files → FitsFiles image new files

abbrev pub with_volume : {D : Type 0} → StoreState D → VolumeState D → StoreState D
with_volume s v = record s { volume = v }

abbrev pub with_log : {D : Type 0} → StoreState D → LogState → StoreState D
with_log s l = with_volume s (record s.volume { log = l })

-- a process's task goes on to a stage
abbrev pub with_place : {D : Type 0} → StoreState D → ℕ → Stage → StoreState D
with_place s p a = record s { tasks = slice_set s.tasks p (record (task s.tasks p) { stage = a }) }

-- a group that a beginning opens has a number
abbrev pub HasGroupNumber : LogState → Type 0
HasGroupNumber l = l.outstanding ≡ 0 → l.opened + 1 < 2 ^ 64

-- process p has no operation open in the log, and need not wait to open one
pub record MayBegin (l : LogState) (p : ℕ) : Type 0 where
  pub none : used_by l p ≡ None
  pub free : begin_cause l ≡ None
  pub opened : HasGroupNumber l

-- changing operations that a store carries out, over an image of n inode numbers
abbrev pub CanBegin : ℕ → Op → Type 0
CanBegin n (Create kind) = IsTrue (is_kind kind)
CanBegin n (Write i off bytes) = IsTrue (is_number n i) × (length bytes ≤ transfer_limit)
CanBegin n (Read i off count) = ⊥
CanBegin n (Trunc i) = IsTrue (is_number n i)
CanBegin n (Remove i) = IsTrue (is_number n i)
CanBegin n (Stat i) = ⊥
CanBegin n (SetAttribute i a) = IsTrue (is_number n i) × FitsField a

-- the stage of an operation that takes the inode of a number
abbrev pub first_taking : ℕ → Stage
first_taking i = Stage.Taking (record { number = i; at = LockAt.Reference })

-- where the task of a changing operation begins
abbrev pub first_stage : Op → ℕ → Stage
first_stage (Create kind) n = Stage.Creating (record {
  kind = kind;
  inode_count = n;
  block = inode_start;
  slot = None;
})
first_stage (Write i off bytes) n = first_taking i
first_stage (Read i off m) n = Stage.Nowhere
first_stage (Trunc i) n = first_taking i
first_stage (Remove i) n = first_taking i
first_stage (Stat i) n = Stage.Nowhere
first_stage (SetAttribute i a) n = first_taking i

-- what a creation answers whose search came to a number, or to none
abbrev pub reply_of : Option ℕ → Reply
reply_of (Some i) = Made i
reply_of None = NoInode

-- a process's operation is open in the log, and its task begins
abbrev pub with_begun : {D : Type 0} → StoreState D → ℕ → Op → StoreState D
with_begun s p op = record (with_log s (begun s.volume.log p)) {
  tasks = slice_set s.tasks p
      (record { op = Some op; stage = first_stage op s.table.inode_count; gathered = None });
}

-- the task of an operation that looks at a file begins, with room for the bytes that it asks for
abbrev pub with_look : {D : Type 0} → StoreState D → ℕ → Op → Option GatheredBytes → StoreState D
with_look s p op room = record s {
  tasks = slice_set s.tasks p (record {
    op = Some op;
    stage = first_taking (asked op);
    gathered = room;
  });
}

-- a disk that was just opened
abbrev pub fresh_volume : {D : Type 0} → (D → Image) → D → VolumeState D
fresh_volume image d = record {
  device = d;
  buffers = fresh_buffers;
  log = new_log (length (image d));
  fault = None;
}

-- a process holds the block where it was got
abbrev pub HoldsAt : Buffers → ℕ → ℕ → Option ℕ → Type 0
HoldsAt c p b None = Unit {0}
HoldsAt c p b (Some i) = HoldsBlock c p b i

-- a creation that looks for a free number is open in the log, and added nothing yet
pub record IsSearching (c : Buffers) (l : LogState) (n p : ℕ) (o : Option Op) (m : SearchState)
    : Type 0 where
  pub op : o ≡ Some (Create m.kind)
  pub used : used_by l p ≡ Some 0
  pub count : m.inode_count ≡ n
  pub kind : IsTrue (is_kind m.kind)
  pub behind : inode_start ≤ m.block
  pub last : m.block ≤ inode_block (n - 1)
  pub holds : HoldsAt c p m.block m.slot

-- a changing operation that takes its inode is open in the log, and added nothing yet
abbrev pub IsOpenFor : LogState → ℕ → Option Op → Type 0
IsOpenFor l p None = Unit {0}
IsOpenFor l p (Some (Create kind)) = Unit {0}
IsOpenFor l p (Some (Write i off bytes)) = used_by l p ≡ Some 0
IsOpenFor l p (Some (Read i off n)) = Unit {0}
IsOpenFor l p (Some (Trunc i)) = used_by l p ≡ Some 0
IsOpenFor l p (Some (Remove i)) = used_by l p ≡ Some 0
IsOpenFor l p (Some (Stat i)) = Unit {0}
IsOpenFor l p (Some (SetAttribute i a)) = used_by l p ≡ Some 0

-- an operation that frees blocks added the bitmap's block at most
abbrev pub HasLogged : LogState → ℕ → ℕ → Type 0
HasLogged l p bitmap =
    (used_by l p ≡ Some 0)
    ⊎ ((used_by l p ≡ Some 1) × (is_among bitmap l.homes ≡ true))

-- it holds what it has got: the block of addresses, and what it uses next
pub record HoldsForFreeing (c : Buffers) (l : LogState) (p : ℕ) (m : Freeing) : Type 0 where
  pub logged : HasLogged l p m.machine.bitmap
  pub holds : HoldsBlocks c p m.kept (now_of m)

-- and so does one that writes a file's bytes
pub record HoldsForWriting (c : Buffers) (l : LogState) (p : ℕ) (m : WriteState) : Type 0 where
  pub logged : HasOpen l p
  pub kept : HoldsAt c p (node_of_write m.at) (kept_by_write m.at)
  pub used : HoldsAt c p (block_of_write m.at) (used_by_write m.at)

-- and one that sets an attribute has added nothing yet
pub record HoldsForSetting (c : Buffers) (l : LogState) (p : ℕ) (u : UpdateState) : Type 0 where
  pub used : used_by l p ≡ Some 0
  pub holds : HoldsAt c p (inode_block u.number) u.slot

-- what is true of a process, by where its task stands
abbrev pub Stands : Buffers → LogState → ℕ → ℕ → Option Op → Stage → Type 0
Stands c l n p o Stage.Nowhere = Unit {0}
Stands c l n p o (Stage.Creating m) = IsSearching c l n p o m
Stands c l n p o (Stage.Taking m) =
    HoldsAt c p (inode_block m.number) (slot_of m.at) × IsOpenFor l p o
Stands c l n p o (Stage.Reading k m) = HoldsAt c p (block_of m.target) (slot_in m.target)
Stands c l n p o (Stage.Delivering k) = Unit {0}
Stands c l n p o (Stage.Truncating k m) = HoldsForFreeing c l p m
Stands c l n p o (Stage.Writing k m) = HoldsForWriting c l p m
Stands c l n p o (Stage.Setting k d u) = HoldsForSetting c l p u
Stands c l n p o (Stage.Leaving k) = Unit {0}

-- what a process's task has logged, by where it stands
abbrev pub LoggedAt : Image → LogState → ℕ → Stage → Type 0
LoggedAt cur l p Stage.Nowhere = Unit {0}
LoggedAt cur l p (Stage.Creating m) = Unit {0}
LoggedAt cur l p (Stage.Taking m) = Unit {0}
LoggedAt cur l p (Stage.Reading k m) = Unit {0}
LoggedAt cur l p (Stage.Delivering k) = Unit {0}
LoggedAt cur l p (Stage.Truncating k m) = Unit {0}
LoggedAt cur l p (Stage.Writing k m) = HasLoggedWrite cur l p m
LoggedAt cur l p (Stage.Setting k d u) = Unit {0}
LoggedAt cur l p (Stage.Leaving k) = Unit {0}

abbrev pub HaveLogged : Image → LogState → List TaskState → Type 0
HaveLogged cur l ts = (p : ℕ) → LoggedAt cur l p (task ts p).stage

-- the tasks agree with buffers and log, while the disk has not failed
pub record Agrees (c : Buffers) (l : LogState) (n : ℕ) (ts : List TaskState) : Type 0 where
  pub stands : (p : ℕ) → Stands c l n p (task ts p).op (task ts p).stage
  -- who has a buffer's lock is a process whose task has got it
  pub holders : (p b i : ℕ) → HasLock c p b i → HasSlot (task ts p).stage i

-- What is true of every store, beside its files.
pub record IsStore {D : Type 0} (image : D → Image) (s : StoreState D) : Type 0 where
  pub few : length s.tasks ≤ 32
  pub geometry : IsLawfulGeometry (current_of image s.volume)
  pub numbers : s.table.inode_count ≡ inode_count_of (current_of image s.volume)
  pub form : s.table.form ≡ form_of (current_of image s.volume)
  pub agrees : IfNone s.volume.fault
      (Agrees s.volume.buffers s.volume.log s.table.inode_count s.tasks)
  pub looks : IfNone s.volume.fault (AreLooking (current_of image s.volume) s.table s.tasks)
  pub logged : IfNone s.volume.fault
      (HaveLogged (current_of image s.volume) s.volume.log s.tasks)
