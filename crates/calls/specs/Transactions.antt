-- What a transaction comes to: calls of process 0 between the beginning of the anchor's operation
-- and its end. The anchor is process 1.
use Rattle.std.specs.Prelude.{◌≡◌, ◌≢◌, ◌⊎◌, ℕ, ◌+◌, ◌<◌, ◌≤◌, Bool, true, false, if◌then◌else◌, is_none, IsTrue, [], length, Some, None}
use Rattle.blocks.specs.Calls.{OnlyReads}
use Rattle.blocks.specs.Disk.{Image, block_at}
use Rattle.blocks.specs.declared.disk.Disk.{Ghosts}
use Rattle.model.specs.Crash.{IsUntouched, due_labels, labels_of}
use Rattle.model.specs.Files.{Files, file_in, files_of}
use Rattle.model.specs.Journal.{is_making, own, replay}
use Rattle.model.specs.Layout.{form_of, inode_count_of, is_marked}
use Rattle.model.specs.Log.{is_lawful_log, recovered}
use Rattle.model.specs.Operations.{after}
use Rattle.model.specs.Soundness.{IsSound}
use Rattle.model.specs.declared.types.operations.Op.{Op}
use Rattle.model.specs.declared.types.operations.Op.TheVariants.{Create, Write, Read, Trunc, Remove, Stat, SetAttribute}
use Rattle.model.specs.declared.types.operations.Reply.{Reply}
use Rattle.ports.specs.Queues.{polled, waiting}
use Rattle.inodes.specs.Holding.{claim_of}
use Rattle.inodes.specs.Store.{current_of, first_taking}
use Rattle.inodes.specs.Tasks.{task}
use Rattle.history.specs.declared.types.Phase.TheVariants as at
use Rattle.history.specs.Processes.{process}
use Rattle.wal.specs.Machine.{LogState, begin_cause}
use Rattle.wal.specs.declared.types.Commit.TheVariants as commit
pub use Rattle.calls.specs.Calls.{KeepsFiles}
use Rattle.calls.specs.Calls.{HasFailed, MakesLowestOf, MakesNoneOf, ShortIsFull, call_count, faults_on, image_on, is_look}
use Rattle.calls.specs.Stepping.{Plain}
use Rattle.calls.specs.Unshown.{KeepsOrRenews, KeepsUnshown}
use Rattle.calls.specs.declared.transactions.fault.TransactionFault.{TransactionFault}
use Rattle.calls.specs.declared.transactions.fault.TransactionFault.TheVariants as fault
use Rattle.inodes.specs.Writing.{most_logged}

-- the anchor's operation: it is refused at its turn, whatever the files are
abbrev pub anchor : Op
anchor = Write 1 4294967295 []

-- what was handed in for a process was taken, and its answers were fetched
pub record IsFetched {D : Type 0} (k : Plain D) (p : ℕ) : Type 0 where
  pub waits : waiting k.intake p ≡ []
  pub fetched : polled k.intake p ≡ length (own p k.world.journal.list)

-- A kernel of two processes, whose first one has no operation under way, and holds no file. No call
-- of the disk failed, and nothing was shut.
pub record IsPair {D : Type 0} (faults : D → ℕ) (k : Plain D) : Type 0 where
  pub two : length k.world.processes ≡ 2
  pub tasks : length k.store.tasks ≡ 2
  pub free : (process k.world 0).at ≡ at.Idle
  pub released : (i : ℕ) → claim_of (task k.store.tasks 0) i ≡ None
  pub first : IsFetched k 0
  pub second : IsFetched k 1
  pub well : k.store.volume.fault ≡ None
  pub faultless : faults k.store.volume.device ≡ faults k.opening
  pub unshut : k.world.is_shut ≡ false

-- no transaction is under way
pub record Rests {D : Type 0} (faults : D → ℕ) (k : Plain D) : Type 0 where
  pub pair : IsPair faults k
  pub idle : (process k.world 1).at ≡ at.Idle

-- a group is open in the log by so many operations, and no commit is under way
pub record IsOpenBy (n : ℕ) (l : LogState) : Type 0 where
  pub outstanding : l.outstanding ≡ n
  pub quiet : l.commit ≡ commit.Quiet
  pub opened : l.committed + 1 ≡ l.opened

-- a transaction is under way: the anchor's operation holds the log's group open
pub record IsInside {D : Type 0} (faults : D → ℕ) (k : Plain D) : Type 0 where
  pub pair : IsPair faults k
  pub anchored : (process k.world 1).at ≡ at.BeforeTurn k.store.volume.log.opened anchor
  pub open_one : IsOpenBy 1 k.store.volume.log
  -- it has got no block, and no inode's lock
  pub empty_handed : (task k.store.tasks 1).stage ≡ first_taking 1

-- the files that a kernel's operations have made, those of a transaction under way included
pub record HasFiles {D : Type 0} (image : D → Image) (k : Plain D) (f : Files) : Type 0 where
  pub run : replay (form_of (image k.opening)) (files_of (image k.opening)) k.world.journal.list
      ≡ Some f

-- the image as a kernel's operations see it: that of the disk, with what stands in buffers alone
abbrev pub image_seen : {D : Type 0} → (D → Image) → Plain D → Image
image_seen image k = current_of image k.store.volume

-- the labels of a file that they have made or left: those of a new one where one of them made it
abbrev pub labels_made : {D : Type 0} → (D → Image) → Plain D → ℕ → ℕ × ℕ
labels_made image k i = due_labels (image k.opening) k.world.journal.list i

-- the labels of a file behind an operation with this reply
abbrev pub labels_after : Reply → ℕ → ℕ × ℕ → ℕ × ℕ
labels_after reply i labels = if is_making i (Some reply) then (0, 0) else labels

-- a transaction begins with the files on the disk
pub record Begins {D : Type 0} (image : D → Image) (k m : Plain D) : Type 0 where
  pub same : image_on image m ≡ image_on image k
  pub files : HasFiles image m (files_of (image_on image k))
  pub sound : IsSound (image_on image k)
  pub form : form_of (image_on image k) ≡ form_of (image k.opening)
  pub size : length (image_on image k) ≡ length (image k.opening)
  pub super : block_at (image_on image k) 1 ≡ block_at (image k.opening) 1
  pub list : m.world.journal.list ≡ k.world.journal.list
  pub none : length m.store.volume.log.homes ≡ 0
  pub labels : (i : ℕ) → file_in (files_of (image_on image k)) i ≢ None
      → labels_of (image_on image k) i ≡ labels_made image m i

-- THE PROMISE OF A CALL in a transaction: it adds this operation with this reply to what the
-- transaction made, and the disk stays as it was. A creation makes the lowest number that is free
-- among the files made so far, and none only where each is taken; a short write leaves no block free
-- of those that the transaction sees.
pub record Adds {D : Type 0} (image : D → Image) (op : Op) (k m : Plain D) (reply : Reply)
    : Type 0 where
  pub same : image_on image m ≡ image_on image k
  pub files : (f : Files) → HasFiles image k f → (g : Files)
      × (after (form_of (image k.opening)) f op reply ≡ Some g) × HasFiles image m g
  pub labels : (i : ℕ) → labels_made image m i ≡ labels_after reply i (labels_made image k i)
  pub lowest : (f : Files) → HasFiles image k f → MakesLowestOf f op reply
  pub none : (f : Files) → HasFiles image k f → MakesNoneOf f op reply
  pub short : ShortIsFull (image_seen image m) op reply
  pub one_more : call_count m ≡ call_count k + 1
  -- what it logged, beside what the transaction had logged
  pub room : length m.store.volume.log.homes
      ≤ length k.store.volume.log.homes + most_logged k.store.table.form op

-- THE PROMISE OF A COMMIT: the files on the disk are those that the transaction made, with their
-- labels, and what no operation touches stays.
pub record Commits {D : Type 0} (image : D → Image) (k m : Plain D) : Type 0 where
  pub files : (f : Files) → HasFiles image k f → files_of (image_on image m) ≡ f
  pub sound : IsSound (image_on image m)
  pub size : length (image_on image m) ≡ length (image k.opening)
  pub super : block_at (image_on image m) 1 ≡ block_at (image k.opening) 1
  pub untouched : IsUntouched (image_on image k) (image_on image m)
  pub labels : (i : ℕ) → file_in (files_of (image_on image m)) i ≢ None
      → labels_of (image_on image m) i ≡ labels_made image k i
  -- the blocks that are free are those that its calls saw free
  pub marks : (b : ℕ) → is_marked (image_on image m) b ≡ is_marked (image_seen image k) b
  pub one_more : call_count m ≡ call_count k + 1

-- the disk was only read, and counted no fault
abbrev pub IsOnlyRead : {D N : Type 0} → Ghosts D N → Plain D → Plain D → Type 0
IsOnlyRead disk k m =
    OnlyReads disk k.store.volume.device m.store.volume.device
    × (faults_on disk.fault_count m ≡ faults_on disk.fault_count k)

-- why no transaction of kernel k, which is m now, begins
abbrev pub IsUnbegun : {D N : Type 0} → Ghosts D N → Plain D → Plain D → TransactionFault → Type 0
IsUnbegun disk k m (fault.Disk cause) = HasFailed disk k m cause
IsUnbegun disk k m fault.NoMemory = IsOnlyRead disk k m
IsUnbegun disk k m fault.NoRoom = ⊥

-- the log has room for an operation; one that looks at a file needs none
abbrev pub has_room : Op → LogState → Bool
has_room (Create kind) l = is_none (begin_cause l)
has_room (Write i off bytes) l = is_none (begin_cause l)
has_room (Read i off n) l = true
has_room (Trunc i) l = is_none (begin_cause l)
has_room (Remove i) l = is_none (begin_cause l)
has_room (Stat i) l = true
has_room (SetAttribute i a) l = is_none (begin_cause l)

-- The transaction of k logged more than ten blocks, and no operation that changes files may begin
-- behind them. Nothing was done, and the transaction goes on.
pub record FindsNoRoom {D : Type 0} (op : Op) (k m : Plain D) : Type 0 where
  pub same : m ≡ k
  pub changes : is_look op ≡ false
  pub full : 10 < length k.store.volume.log.homes

-- why a call of an operation in kernel k, which is m now, is not answered
abbrev pub IsUncalled : {D N : Type 0} → Ghosts D N → Op → Plain D → Plain D → TransactionFault
    → Type 0
IsUncalled disk op k m (fault.Disk cause) = HasFailed disk k m cause
IsUncalled disk op k m fault.NoMemory = IsOnlyRead disk k m
IsUncalled disk op k m fault.NoRoom = FindsNoRoom op k m

-- a commit is refused for a fault of the disk alone
abbrev pub IsUncommitted : {D N : Type 0} → Ghosts D N → Plain D → Plain D → TransactionFault
    → Type 0
IsUncommitted disk k m (fault.Disk cause) = HasFailed disk k m cause
IsUncommitted disk k m fault.NoMemory = ⊥
IsUncommitted disk k m fault.NoRoom = ⊥

-- the files of an image have these labels
abbrev pub HasLabels : (ℕ → ℕ × ℕ) → Image → Type 0
HasLabels labels x = (i : ℕ) → file_in (files_of x) i ≢ None → labels_of x i ≡ labels i

-- image x of kernel k's disk has as many numbers as at the opening, and each of its files the labels
-- that it had then, or (0, 0) where it was made since
pub record IsLabelled {D : Type 0} (image : D → Image) (k : Plain D) (x : Image) : Type 0 where
  pub numbers : inode_count_of x ≡ inode_count_of (image k.opening)
  pub labels : HasLabels (labels_made image k) x

-- ALL OR NOTHING: what a stop in the commit of a transaction leaves: recovery gives a sound image
-- with the files of image x, which stood on the disk before it, or with those that the whole of it
-- made. What no file shows stays, or the labels of files are those that are told.
pub record KeepsEither (x : Image) (made : Files) (told : ℕ → ℕ × ℕ) (z : Image)
    : Type 0 where
  pub log : IsTrue (is_lawful_log z)
  pub sound : IsSound (recovered z)
  pub files : (files_of (recovered z) ≡ files_of x) ⊎ (files_of (recovered z) ≡ made)
  pub unshown : KeepsOrRenews x (recovered z)
  pub labels : KeepsUnshown x (recovered z) ⊎ HasLabels told (recovered z)
