-- A tree of directories on a kernel's disk, and what a transaction makes of it.
use Rattle.std.specs.Prelude.{◌≡◌, ◌≢◌, ◌⊎◌, ⊤, ℕ, ◌+◌, ◌^◌, ◌<◌, ◌≤◌, ◌==◌, Bool, false, IfErr, IsTrue, List, length, Option, Some, None, Result, Ok, Err}
use Rattle.blocks.specs.Disk.{Image, LeavesOnly}
use Rattle.blocks.specs.declared.disk.Disk.{Ghosts}
use Rattle.model.specs.Files.{Files, file_in, files_of}
use Rattle.model.specs.declared.types.operations.Op.TheVariants.{Write}
use Rattle.model.specs.declared.types.operations.Reply.{Reply}
use Rattle.model.specs.declared.types.operations.Reply.TheVariants.{Wrote}
use Rattle.model.specs.Layout.{is_marked}
use Rattle.model.specs.Log.{is_lawful_log, recovered}
use Rattle.model.specs.Soundness.{IsSound}
use Rattle.calls.specs.Calls.{ShortIsFull, call_count, image_on}
use Rattle.calls.specs.Files.{IsFull}
use Rattle.calls.specs.Stepping.{IsReached, Plain}
use Rattle.calls.specs.Transactions.{KeepsEither, Rests, image_seen, labels_made}
use Rattle.directories.specs.declared.refusal.Refusal.{Refusal}
use Rattle.directories.specs.declared.refusal.Refusal.TheVariants.{NoNumber, NoBlock}
use Rattle.names.specs.declared.refusal.TreeFault.{TreeFault}
use Rattle.names.specs.declared.refusal.TreeFault.TheVariants.{Path, Refused, Call, NoSpace, NoCall}
use Rattle.directories.specs.Counts.{AreCounted, StaysCounted}
use Rattle.names.specs.Inside.{files_seen, Answers, Fills, Goes, IsBroken, IsBrokenOr, IsSame, LeavesFiles, Never, TellsFull}
use Rattle.directories.specs.Paths.{IsPathCause}
use Rattle.directories.specs.Trees.{new_directory, root, IsFile, IsTree}
use Rattle.directories.specs.TreeChanges.{directory_file}

-- No transaction is under way, so many calls may be made yet, and the files on the disk are a tree
-- whose counts are right.
pub record IsReady {D N : Type 0} (disk : Ghosts D N) (k : Plain D) (left : ℕ) : Type 0 where
  pub rests : Rests disk.fault_count k
  pub few : call_count k + left ≤ 2 ^ 63
  pub many : 2 ^ 62 ≤ call_count k + left
  pub sound : IsSound (image_on disk.image k)
  pub tree : IsTree (files_of (image_on disk.image k))
  pub counted : AreCounted (files_of (image_on disk.image k))

-- the same of files that may be no tree
pub record IsIdle {D N : Type 0} (disk : Ghosts D N) (k : Plain D) (left : ℕ) : Type 0 where
  pub rests : Rests disk.fault_count k
  pub few : call_count k + left ≤ 2 ^ 63
  pub many : 2 ^ 62 ≤ call_count k + left

-- there is no file, but for one that may be the root
abbrev pub HasNoFile : Files → Type 0
HasNoFile files = (i : ℕ) → i ≢ root → file_in files i ≡ None

-- the root is the only file, and nothing is in it
pub record IsRootAlone (files : Files) : Type 0 where
  pub there : file_in files root ≡ Some (directory_file root root)
  pub none : HasNoFile files

-- Why it was not: its number is a file's, or no inode has that number; or no block of an image is free.
abbrev pub IsRootHindered : Files → Image → Refusal → Type 0
IsRootHindered files x NoNumber = root < length files → IsFile files root
IsRootHindered files x NoBlock = IsFull x
IsRootHindered files x cause = ⊥

-- It was made from kernel k to m, where no file was, or a cause hindered it.
abbrev pub MakesRoot : {D : Type 0} → (D → Image) → Plain D → Plain D → Option Refusal → Type 0
MakesRoot image k m None = HasNoFile (files_seen image k)
    → IsRootAlone (files_seen image m) × IsTree (files_seen image m) × AreCounted (files_seen image m)
MakesRoot image k m (Some cause) = IsRootHindered (files_seen image k) (image_seen image m) cause

-- What a stop in its making leaves of image x: recovery gives a sound image with the files of x, or
-- with the root alone.
pub record KeepsRoot (x z : Image) : Type 0 where
  pub log : IsTrue (is_lawful_log z)
  pub sound : IsSound (recovered z)
  pub files : (files_of (recovered z) ≡ files_of x) ⊎ IsRootAlone (files_of (recovered z))

-- the two entries of a new directory were written
abbrev pub is_filled : Reply → Bool
is_filled (Wrote count) = count == 32
is_filled reply = false

-- its two entries are written, and whether they are whole
pub record HasFilled {D : Type 0} (image : D → Image) (k m : Plain D) (whole : Bool) : Type 0 where
  pub reply : Reply
  pub answers : Answers image (Write root 0 (new_directory root root)) k m reply
  pub told : whole ≡ is_filled reply
  pub short : ShortIsFull (image_seen image m) (Write root 0 (new_directory root root)) reply

-- why it was not made: nothing of it is kept, and no other call may be made
abbrev pub IsRootless : {D N : Type 0} → Ghosts D N → Plain D → Plain D → TreeFault → Type 0
IsRootless disk k m (Path cause) = ⊥
IsRootless disk k m (Refused cause) = IsSame disk k m
    × IsRootHindered (files_of (image_on disk.image k)) (image_seen disk.image m) cause
IsRootless disk k m (Call cause) = IsBroken disk k m (Call cause)
IsRootless disk k m NoSpace = ⊥
IsRootless disk k m NoCall = IsBroken disk k m NoCall

-- No call was left in tree t, which is u now: nothing was done, and that is the answer.
abbrev pub HasNoCall : {S T : Type 0} → S → S → Result T TreeFault → Type 0
HasNoCall t u (Err NoCall) = u ≡ t
HasNoCall t u result = ⊥

-- the same of a call at a path, which may be none
abbrev pub HasNoCallAt : {S T : Type 0} → List ℕ → S → S → Result T TreeFault → Type 0
HasNoCallAt path t u (Err (Path cause)) = (u ≡ t) × IsPathCause path cause
HasNoCallAt path t u result = HasNoCall t u result

-- the same as being ready, unless no call is left
abbrev pub MayGoOn : {D N : Type 0} → Ghosts D N → Plain D → ℕ → Type 0
MayGoOn disk k left = 0 < left → IsReady disk k left

-- Behind a call that was done, or that the files refused, the tree is ready for the next one. Behind one
-- that was not answered no other one is made.
abbrev pub IsReadyBehind : {D N T : Type 0} → Ghosts D N → Plain D → ℕ → Result T TreeFault → Type 0
IsReadyBehind disk m left (Ok made) = IsReady disk m left
IsReadyBehind disk m left (Err (Path cause)) = ⊤
IsReadyBehind disk m left (Err (Refused cause)) = IsReady disk m left
IsReadyBehind disk m left (Err cause) = left ≡ 0

-- a transaction began with the files on the disk
pub record HasBegun {D N : Type 0} (disk : Ghosts D N) (k m : Plain D) (left : ℕ) : Type 0 where
  pub goes : Goes disk k m left
  pub files : files_seen disk.image m ≡ files_of (image_on disk.image k)
  pub size : length (image_on disk.image m) ≡ length (disk.image m.opening)

-- it ended, and the files on the disk are those that it saw, as are the blocks that are free
pub record HasCommitted {D N : Type 0} (disk : Ghosts D N) (k m : Plain D) (left : ℕ)
    : Type 0 where
  pub ready : IsReady disk m left
  pub files : files_of (image_on disk.image m) ≡ files_seen disk.image k
  pub size : length (image_on disk.image m) ≡ length (disk.image k.opening)
  pub marks : (b : ℕ) → is_marked (image_on disk.image m) b ≡ is_marked (image_seen disk.image k) b
  pub reached : (o : Plain D) → IsReached disk o k → IsReached disk o m

-- From kernel k to m a stop leaves the files on the disk as they were or those that the transaction
-- of b sees, and m is over the same disk, as it was opened.
pub record LeavesEither {D N : Type 0} (disk : Ghosts D N) (b k m : Plain D) : Type 0 where
  pub opening : m.opening ≡ k.opening
  pub name : disk.name m.store.volume.device ≡ disk.name k.store.volume.device
  pub leaves : LeavesOnly disk.moment disk.leaves k.store.volume.device m.store.volume.device
      (KeepsEither (image_on disk.image k) (files_seen disk.image b) (labels_made disk.image b))

-- What a stop left since the transaction of k began, in a kernel o with the image of k, it leaves up
-- to m too, or the files that the transaction made.
pub record EndsOn {D N : Type 0} (disk : Ghosts D N) (k m : Plain D) : Type 0 where
  pub on : (o : Plain D) → image_on disk.image k ≡ image_on disk.image o → LeavesFiles disk o k
      → LeavesEither disk k o m

-- What became of a change of files: it was made, or was refused for a cause, with the files as they
-- were.
abbrev pub Happens : {T : Type 0} → (T → Files → Files → Type 0) → (Files → Refusal → Type 0)
    → Files → Files → Result T Refusal → Type 0
Happens change why files new (Ok made) = change made files new
Happens change why files new (Err cause) = (new ≡ files) × why files cause

-- what a call of a tree answers, of what became of its change
abbrev pub answer_of : {T : Type 0} → Result T Refusal → Result T TreeFault
answer_of (Ok made) = Ok made
answer_of (Err cause) = Err (Refused cause)

-- What the answer of a call tells of the blocks of the disk: none is free where a change answers so, and
-- NoBlock is told only where a write fell short, if that is said of the change.
pub record TellsBlocks {D N T : Type 0} (disk : Ghosts D N) (fills : T → Type 0) (tells : Type 0)
    (k m : Plain D) (result : Result T TreeFault) : Type 0 where
  pub full : (made : T) → result ≡ Ok made → fills made → IsFull (image_on disk.image m)
  pub no_block : tells → IfErr result (TellsFull disk k m)

-- The files that a transaction sees in m are a tree that came of those that it saw in k.
abbrev pub TreeStays : {D : Type 0} → (D → Image) → Plain D → Plain D → Type 0
TreeStays image k m = StaysCounted (files_seen image k) (files_seen image m)

-- ALL OR NOTHING: what a stop leaves of image x: recovery gives a sound image whose files are a tree,
-- those of x or those after a change of them, whose counts are right.
pub record KeepsTree {T : Type 0} (change : T → Files → Files → Type 0) (x z : Image)
    : Type 0 where
  pub log : IsTrue (is_lawful_log z)
  pub sound : IsSound (recovered z)
  pub tree : IsTree (files_of (recovered z))
  pub counted : AreCounted (files_of (recovered z))
  pub files : (files_of (recovered z) ≡ files_of x)
      ⊎ ((made : T) × change made (files_of x) (files_of (recovered z)))

-- a stop at any moment from k to m leaves such an image
abbrev pub LeavesTree : {D N T : Type 0} → Ghosts D N → (T → Files → Files → Type 0) → Plain D
    → Plain D → Type 0
LeavesTree disk change k m =
    LeavesOnly disk.moment disk.leaves k.store.volume.device m.store.volume.device
    (KeepsTree change (image_on disk.image k))

-- a change made something of files
abbrev pub AnyOf : {T : Type 0} → (T → Files → Files → Type 0) → Files → Files → Type 0
AnyOf {T} change files new = (made : T) × change made files new

-- What a stop leaves of changes over kernel k, now m: recovery gives a sound image whose files are a
-- tree, those that were on the disk or such as the changes may leave.
abbrev pub LeavesMidst : {D N : Type 0} → Ghosts D N → (Files → Files → Type 0) → Plain D → Plain D
    → Type 0
LeavesMidst disk midst k m = LeavesTree disk (λ (made : Unit {0}). midst) k m

-- nothing was done over kernel k, which is m now, or a stop leaves of it as said
abbrev pub LeavesIfDone : {D N : Type 0} → Ghosts D N → (Files → Files → Type 0) → Plain D → Plain D
    → Type 0
LeavesIfDone disk midst k m = (m ≡ k) ⊎ LeavesMidst disk midst k m

-- Why a call is not answered, in kernel k, which is m now: the files refuse, which are as they were, or
-- a call of the kernel failed, or as many were answered as a tree makes, besides what else is said to
-- hinder it.
abbrev pub IsUnansweredOr : {D N : Type 0} → (TreeFault → Type 0) → Ghosts D N
    → (Files → Refusal → Type 0) → Plain D → Plain D → TreeFault → Type 0
IsUnansweredOr hinders disk why k m (Path cause) = ⊥
IsUnansweredOr hinders disk why k m (Refused cause) =
    (files_of (image_on disk.image m) ≡ files_of (image_on disk.image k))
    × why (files_of (image_on disk.image k)) cause
IsUnansweredOr hinders disk why k m (Call cause) = IsBroken disk k m (Call cause)
IsUnansweredOr hinders disk why k m NoSpace = IsBrokenOr hinders disk k m NoSpace
IsUnansweredOr hinders disk why k m NoCall = IsBrokenOr hinders disk k m NoCall

abbrev pub IsUnanswered : {D N : Type 0} → Ghosts D N → (Files → Refusal → Type 0) → Plain D
    → Plain D → TreeFault → Type 0
IsUnanswered disk why k m cause = IsUnansweredOr Never disk why k m cause

-- why a call at a path is not: the path is none, and nothing was done; or as above
abbrev pub IsUndoneOr : {D N : Type 0} → (TreeFault → Type 0) → Ghosts D N → List ℕ
    → (Files → Refusal → Type 0) → Plain D → Plain D → TreeFault → Type 0
IsUndoneOr hinders disk path why k m (Path cause) = (m ≡ k) × IsPathCause path cause
IsUndoneOr hinders disk path why k m (Refused cause) = IsUnanswered disk why k m (Refused cause)
IsUndoneOr hinders disk path why k m (Call cause) = IsUnanswered disk why k m (Call cause)
IsUndoneOr hinders disk path why k m NoSpace = IsUnansweredOr hinders disk why k m NoSpace
IsUndoneOr hinders disk path why k m NoCall = IsUnansweredOr hinders disk why k m NoCall

abbrev pub IsUndone : {D N : Type 0} → Ghosts D N → List ℕ → (Files → Refusal → Type 0)
    → Plain D → Plain D → TreeFault → Type 0
IsUndone disk path why k m cause = IsUndoneOr Never disk path why k m cause

-- Why one that writes bytes is not: also since no block is free for all of them. The files on the disk
-- are as they were then.
abbrev pub IsUnwritten : {D N : Type 0} → Ghosts D N → List ℕ → (Files → Refusal → Type 0)
    → Plain D → Plain D → TreeFault → Type 0
IsUnwritten disk path why k m cause = IsUndoneOr Fills disk path why k m cause
