-- What an operation of a kernel's only process comes to: a call, made from its submission to its
-- answer.
use Rattle.std.specs.Prelude.{◌≡◌, ◌≢◌, ◌⊎◌, ⊤, ℕ, ◌+◌, ◌<◌, ◌≤◌, ◌==◌, Bool, true, false, IsTrue, List, [], length, Result, Ok, Err, Some, None}
use Rattle.std.specs.List.{list_all}
use Rattle.blocks.specs.Calls.{OnlyReads}
use Rattle.blocks.specs.Disk.{Image, LeavesOnly, Rose, block_at}
use Rattle.blocks.specs.declared.disk.Disk.{Ghosts}
use Rattle.model.specs.Files.{Files, files_of, file_in}
use Rattle.model.specs.Layout.{form_of, inode_count_of, is_marked}
use Rattle.model.specs.Log.{is_lawful_log, recovered}
use Rattle.model.specs.Operations.{after}
use Rattle.model.specs.Soundness.{IsSound}
use Rattle.model.specs.declared.types.operations.Entry.{Entry}
use Rattle.model.specs.declared.types.operations.Op.{Op}
use Rattle.model.specs.declared.types.operations.Op.TheVariants.{Create, Write, Read, Trunc, Remove, Stat, SetAttribute}
use Rattle.model.specs.declared.types.operations.Reply.{Reply}
use Rattle.model.specs.declared.types.operations.Reply.TheVariants.{Made, NoInode, Wrote}
use Rattle.ports.specs.Queues.{polled, waiting}
use Rattle.wal.specs.declared.types.DeviceFault.{DeviceFault}
use Rattle.history.specs.declared.types.Phase.TheVariants as at
use Rattle.history.specs.Processes.{process}
use Rattle.calls.specs.declared.fault.CallFault.{CallFault}
use Rattle.calls.specs.declared.fault.CallFault.TheVariants as fault
use Rattle.calls.specs.Stepping.{Plain}
use Rattle.calls.specs.Unshown.{KeepsUnshown}

-- an operation that looks at a file, and changes none
abbrev pub is_look : Op → Bool
is_look (Create kind) = false
is_look (Write i off bytes) = false
is_look (Read i off n) = true
is_look (Trunc i) = false
is_look (Remove i) = false
is_look (Stat i) = true
is_look (SetAttribute i a) = false

-- an entry of the first process
abbrev pub is_own : Entry → Bool
is_own e = e.pid == 0

-- how many calls were answered
abbrev pub call_count : {D : Type 0} → Plain D → ℕ
call_count k = length k.world.journal.list

-- the image on a kernel's disk
abbrev pub image_on : {D : Type 0} → (D → Image) → Plain D → Image
image_on image k = image k.store.volume.device

-- the faults that a kernel's disk counts
abbrev pub faults_on : {D : Type 0} → (D → ℕ) → Plain D → ℕ
faults_on faults k = faults k.store.volume.device

-- The kernel's only process has no operation under way and none that waits, and its answers were
-- fetched. No call of the disk failed, and nothing was shut.
pub record Rests {D : Type 0} (faults : D → ℕ) (k : Plain D) : Type 0 where
  pub one : length k.world.processes ≡ 1
  pub idle : (process k.world 0).at ≡ at.Idle
  pub own : IsTrue (list_all is_own k.world.journal.list)
  pub waits : waiting k.intake 0 ≡ []
  pub fetched : polled k.intake 0 ≡ call_count k
  pub well : k.store.volume.fault ≡ None
  pub faultless : faults k.store.volume.device ≡ faults k.opening
  pub unshut : k.world.is_shut ≡ false

-- Image y is sound and nothing is logged in it; superblock and size are those of x.
pub record IsWhole (x y : Image) : Type 0 where
  pub sound : IsSound y
  pub size : length y ≡ length x
  pub super : block_at y 1 ≡ block_at x 1

-- a creation makes the lowest number that is free among these files
abbrev pub MakesLowestOf : Files → Op → Reply → Type 0
MakesLowestOf files op reply = (kind i j : ℕ) → op ≡ Create kind → reply ≡ Made i → 1 ≤ j → j < i →
    file_in files j ≢ None

abbrev pub MakesLowest : Image → Op → Reply → Type 0
MakesLowest x op reply = MakesLowestOf (files_of x) op reply

-- and none only where each is taken
abbrev pub MakesNoneOf : Files → Op → Reply → Type 0
MakesNoneOf files op reply = (kind j : ℕ) → op ≡ Create kind → reply ≡ NoInode → 1 ≤ j →
    j < length files → file_in files j ≢ None

abbrev pub MakesNoneIfFull : Image → Op → Reply → Type 0
MakesNoneIfFull x op reply = (kind j : ℕ) → op ≡ Create kind → reply ≡ NoInode → 1 ≤ j →
    j < inode_count_of x → file_in (files_of x) j ≢ None

-- a write that wrote fewer bytes than it was given leaves no block free
abbrev pub ShortIsFull : Image → Op → Reply → Type 0
ShortIsFull y op reply = (i off done : ℕ) (bytes : List ℕ) → op ≡ Write i off bytes →
    reply ≡ Wrote done → done < length bytes → (b : ℕ) → b < length y → is_marked y b ≡ true

-- THE PROMISE OF AN OPERATION that is answered so, and with it so many more: the files on the disk are
-- those before it, after this operation with this reply, the image is sound, and what no file shows
-- stays.
pub record Makes {D : Type 0} (more : ℕ) (image : D → Image) (op : Op) (k m : Plain D)
    (reply : Reply) : Type 0 where
  pub files : after (form_of (image_on image k)) (files_of (image_on image k)) op reply
      ≡ Some (files_of (image_on image m))
  pub whole : IsWhole (image_on image k) (image_on image m)
  pub unshown : KeepsUnshown (image_on image k) (image_on image m)
  pub lowest : MakesLowest (image_on image k) op reply
  pub none : MakesNoneIfFull (image_on image k) op reply
  pub short : ShortIsFull (image_on image m) op reply
  pub answered : call_count m ≡ call_count k + more

-- of a call, which alone is answered
abbrev pub Calls : {D : Type 0} → (D → Image) → Op → Plain D → Plain D → Reply → Type 0
Calls image op k m reply = Makes 1 image op k m reply

-- the disk of kernel k, which is m now, failed, and m has just this fault
pub record HasFailed {D N : Type 0} (disk : Ghosts D N) (k m : Plain D) (cause : DeviceFault)
    : Type 0 where
  pub is : m.store.volume.fault ≡ Some cause
  pub rose : Rose (faults_on disk.fault_count k) (faults_on disk.fault_count m)

-- why a call of kernel k, which is m now, is not answered
abbrev pub IsUncalled : {D N : Type 0} → Ghosts D N → Plain D → Plain D → CallFault → Type 0
IsUncalled disk k m (fault.Disk cause) = HasFailed disk k m cause
IsUncalled disk k m fault.NoMemory =
    OnlyReads disk k.store.volume.device m.store.volume.device
    × (faults_on disk.fault_count m ≡ faults_on disk.fault_count k)

-- What a stop between two calls leaves of image x: recovery gives a sound image with its files.
pub record KeepsFiles (x z : Image) : Type 0 where
  pub log : IsTrue (is_lawful_log z)
  pub sound : IsSound (recovered z)
  pub files : files_of (recovered z) ≡ files_of x
  pub unshown : KeepsUnshown x (recovered z)

-- a stop at any moment from k to m leaves the files that were on the disk of k
abbrev pub LeavesFiles : {D N : Type 0} → Ghosts D N → Plain D → Plain D → Type 0
LeavesFiles disk k m =
    LeavesOnly disk.moment disk.leaves k.store.volume.device m.store.volume.device
    (KeepsFiles (image_on disk.image k))

-- a reply that a call may have had
abbrev pub MayReply : {E : Type 0} → Result Reply E → Reply → Type 0
MayReply (Ok reply) r = r ≡ reply
MayReply (Err cause) r = ⊤

-- What a stop in the midst of a call leaves of image x: recovery gives a sound image with the files
-- before it, or with those behind it.
pub record KeepsCall {E : Type 0} (x : Image) (op : Op) (result : Result Reply E) (z : Image)
    : Type 0 where
  pub log : IsTrue (is_lawful_log z)
  pub sound : IsSound (recovered z)
  pub files : (files_of (recovered z) ≡ files_of x)
      ⊎ ((r : Reply) × MayReply result r
      × (after (form_of x) (files_of x) op r ≡ Some (files_of (recovered z))))
  pub unshown : KeepsUnshown x (recovered z)
