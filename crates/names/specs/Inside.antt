-- Calls of a transaction, and the files that it sees.
use Rattle.std.specs.Prelude.{◌≡◌, ◌⊎◌, ⊤, ℕ, ◌+◌, ◌^◌, ◌<◌, ◌≤◌, List, [], length, Some, unwrap_or, Result, Ok, OnOk, IfErr}
use Rattle.blocks.specs.Disk.{Image, LeavesOnly}
use Rattle.blocks.specs.declared.disk.Disk.{Ghosts}
use Rattle.model.specs.Files.{Files, files_of}
use Rattle.model.specs.Journal.{replay}
use Rattle.model.specs.Layout.{form_of}
use Rattle.model.specs.Operations.{after}
use Rattle.model.specs.declared.types.image.Form.{Form}
use Rattle.model.specs.declared.types.operations.Op.{Op}
use Rattle.model.specs.declared.types.operations.Op.TheVariants.{Write}
use Rattle.model.specs.declared.types.operations.Reply.{Reply}
use Rattle.model.specs.declared.types.operations.Reply.TheVariants.{Wrote}
use Rattle.calls.specs.Calls.{HasFailed, MakesLowestOf, MakesNoneOf, ShortIsFull, call_count, faults_on, image_on}
use Rattle.calls.specs.Files.{IsFull}
use Rattle.calls.specs.Stepping.{IsReached, Plain}
use Rattle.calls.specs.Transactions.{HasFiles, IsInside, KeepsFiles, image_seen}
use Rattle.calls.specs.declared.transactions.fault.TransactionFault.TheVariants as fault
use Rattle.directories.specs.Sizes.{AreSized}
use Rattle.directories.specs.declared.refusal.Refusal.{Refusal}
use Rattle.directories.specs.declared.refusal.Refusal.TheVariants.{NoBlock}
use Rattle.names.specs.declared.refusal.TreeFault.{TreeFault}
use Rattle.names.specs.declared.refusal.TreeFault.TheVariants.{Path, Refused, Call, NoSpace, NoCall}

-- the files that a transaction sees: those that a kernel's calls made, its own included
abbrev pub files_seen : {D : Type 0} → (D → Image) → Plain D → Files
files_seen image k =
    unwrap_or (replay (form_of (image k.opening)) (files_of (image k.opening)) k.world.journal.list) []

-- the form of a kernel's image
abbrev pub form_seen : {D : Type 0} → (D → Image) → Plain D → Form
form_seen image k = form_of (image k.opening)

-- A transaction is under way, in which so many calls may be made yet, its commit among them.
pub record IsUnderWay {D N : Type 0} (disk : Ghosts D N) (k : Plain D) (left : ℕ) : Type 0 where
  pub inside : IsInside disk.fault_count k
  pub few : call_count k + left ≤ 2 ^ 63
  pub many : 2 ^ 62 ≤ call_count k + left
  pub files : HasFiles disk.image k (files_seen disk.image k)
  pub sized : AreSized (form_seen disk.image k) (files_seen disk.image k)

-- The transaction of k goes on in m: nothing was written. What came to k came to m.
pub record Goes {D N : Type 0} (disk : Ghosts D N) (k m : Plain D) (left : ℕ) : Type 0 where
  pub way : IsUnderWay disk m left
  pub same : image_on disk.image m ≡ image_on disk.image k
  pub opening : m.opening ≡ k.opening
  pub later : call_count k ≤ call_count m
  pub reached : (o : Plain D) → IsReached disk o k → IsReached disk o m

-- and it sees the same files in m
abbrev pub SeesSame : {D : Type 0} → (D → Image) → Plain D → Plain D → Type 0
SeesSame image k m = files_seen image m ≡ files_seen image k

-- an operation was answered so
abbrev pub Answers : {D : Type 0} → (D → Image) → Op → Plain D → Plain D → Reply → Type 0
Answers image op k m reply =
    after (form_seen image k) (files_seen image k) op reply ≡ Some (files_seen image m)

-- A creation made the lowest number that is free, and none only where each is taken; a short write
-- leaves no block free of those that the transaction sees.
pub record HasCause {D : Type 0} (image : D → Image) (op : Op) (k m : Plain D) (reply : Reply)
    : Type 0 where
  pub lowest : MakesLowestOf (files_seen image k) op reply
  pub none : MakesNoneOf (files_seen image k) op reply
  pub short : ShortIsFull (image_seen image m) op reply
  pub answered : call_count m ≡ call_count k + 1

-- From kernel k to m a write took fewer bytes than it was given, and no block is free of those that
-- the transaction sees then.
pub record FallsShort {D : Type 0} (image : D → Image) (k m : Plain D) : Type 0 where
  pub number : ℕ
  pub offset : ℕ
  pub count : ℕ
  pub bytes : List ℕ
  pub fewer : count < length bytes
  pub answers : Answers image (Write number offset bytes) k m (Wrote count)
  pub full : IsFull (image_seen image m)

-- Kernel k came to m, and in the transaction that is under way between them a write fell short. Nothing
-- of the transaction was on the disk then.
pub record WasFull {D N : Type 0} (disk : Ghosts D N) (k m : Plain D) : Type 0 where
  pub before : Plain D
  pub left : ℕ
  pub goes : Goes disk k before left
  pub behind : Plain D
  pub less : ℕ
  pub writes : Goes disk before behind less
  pub short : FallsShort disk.image before behind
  pub reached : IsReached disk behind m

-- where a refusal is that no block is free, this is so
abbrev pub IfNoBlock : Refusal → Type 0 → Type 0
IfNoBlock NoBlock full = full
IfNoBlock cause full = ⊤

-- a change in a transaction tells NoBlock only where a write fell short
abbrev pub AnswersFull : {D N T : Type 0} → Ghosts D N → Plain D → Plain D → Result T Refusal → Type 0
AnswersFull disk k m answer = IfErr answer (λ cause. IfNoBlock cause (WasFull disk k m))

-- and so does a call
abbrev pub TellsFull : {D N : Type 0} → Ghosts D N → Plain D → Plain D → TreeFault → Type 0
TellsFull disk k m (Refused cause) = IfNoBlock cause (WasFull disk k m)
TellsFull disk k m cause = ⊤

-- From kernel k to m a stop leaves the files on the disk as they were, and m is over the same disk, as
-- it was opened.
pub record LeavesFiles {D N : Type 0} (disk : Ghosts D N) (k m : Plain D) : Type 0 where
  pub opening : m.opening ≡ k.opening
  pub name : disk.name m.store.volume.device ≡ disk.name k.store.volume.device
  pub leaves : LeavesOnly disk.moment disk.leaves k.store.volume.device m.store.volume.device
      (KeepsFiles (image_on disk.image k))

-- What a stop left since the transaction began, in a kernel o with the image of k, it leaves up to m
-- too.
pub record StaysOn {D N : Type 0} (disk : Ghosts D N) (k m : Plain D) : Type 0 where
  pub on : (o : Plain D) → image_on disk.image k ≡ image_on disk.image o → LeavesFiles disk o k
      → LeavesFiles disk o m

-- where a change answers so, no block is free of those that the transaction of m sees
abbrev pub FillsUp : {D T : Type 0} → (D → Image) → (T → Type 0) → Plain D → Result T Refusal → Type 0
FillsUp {T = T} image fills m answer =
    (made : T) → answer ≡ Ok made → fills made → IsFull (image_seen image m)

-- the disk has the same image, and counted no fault
pub record IsSame {D N : Type 0} (disk : Ghosts D N) (k m : Plain D) : Type 0 where
  pub image : image_on disk.image m ≡ image_on disk.image k
  pub faults : faults_on disk.fault_count m ≡ faults_on disk.fault_count k

-- the transaction of a kernel logged more than ten blocks, and no operation that changes files begins
-- behind them
abbrev pub IsCrowded : {D : Type 0} → Plain D → Type 0
IsCrowded k = 10 < length k.store.volume.log.homes

-- as many calls of a kernel were answered as a tree makes
abbrev pub IsSpent : {D : Type 0} → Plain D → Type 0
IsSpent k = 2 ^ 62 ≤ call_count k

-- nothing but what hinders each call
abbrev pub Never : TreeFault → Type 0
Never cause = ⊥

-- that no block is free for bytes, too
abbrev pub Fills : TreeFault → Type 0
Fills NoSpace = ⊤
Fills cause = ⊥

-- Why a transaction of kernel k, which is m now, doesn't go on, besides what else is said to hinder it.
abbrev pub IsBrokenOr : {D N : Type 0} → (TreeFault → Type 0) → Ghosts D N → Plain D → Plain D
    → TreeFault → Type 0
IsBrokenOr hinders disk k m (Path cause) = ⊥
IsBrokenOr hinders disk k m (Refused cause) = ⊥
IsBrokenOr hinders disk k m (Call (fault.Disk cause)) = HasFailed disk k m cause
IsBrokenOr hinders disk k m (Call fault.NoMemory) = IsSame disk k m
IsBrokenOr hinders disk k m (Call fault.NoRoom) = IsSame disk k m × IsCrowded m
IsBrokenOr hinders disk k m NoSpace =
    hinders NoSpace × IsSame disk k m × IsFull (image_seen disk.image m)
IsBrokenOr hinders disk k m NoCall = IsSame disk k m × (hinders NoCall ⊎ IsSpent m)

abbrev pub IsBroken : {D N : Type 0} → Ghosts D N → Plain D → Plain D → TreeFault → Type 0
IsBroken disk k m cause = IsBrokenOr Never disk k m cause

-- behind it no other call is made
pub record EndsOr {D N : Type 0} (hinders : TreeFault → Type 0) (disk : Ghosts D N) (k m : Plain D)
    (left : ℕ) (cause : TreeFault) : Type 0 where
  pub none : left ≡ 0
  pub broken : IsBrokenOr hinders disk k m cause

abbrev pub Ends : {D N : Type 0} → Ghosts D N → Plain D → Plain D → ℕ → TreeFault → Type 0
Ends disk k m left cause = EndsOr Never disk k m left cause

-- What became of a transaction of kernel k, which is m now, behind calls in it: it goes on, or no other
-- call is made, and what a stop left it leaves.
pub record ProceedsOr {D N T : Type 0} (hinders : TreeFault → Type 0) (disk : Ghosts D N)
    (result : Result T TreeFault) (k m : Plain D) (left : ℕ) : Type 0 where
  pub on : OnOk result (Goes disk k m left)
  pub stays : StaysOn disk k m
  pub ends : IfErr result (EndsOr hinders disk k m left)

abbrev pub Proceeds : {D N T : Type 0} → Ghosts D N → Result T TreeFault → Plain D → Plain D → ℕ
    → Type 0
Proceeds disk result k m left = ProceedsOr Never disk result k m left
