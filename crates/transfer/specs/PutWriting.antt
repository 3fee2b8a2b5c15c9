-- What calls that put bytes come to.
use Rattle.std.specs.Prelude.{◌≡◌, ◌<◌, ◌≤◌, ℕ, Bool, true, false, List, length, take, Option, Some, None}
use Rattle.blocks.specs.Disk.{Image}
use Rattle.blocks.specs.declared.disk.Disk.{Ghosts}
use Rattle.model.specs.Files.{files_of}
use Rattle.model.specs.Layout.{form_of}
use Rattle.model.specs.Soundness.{IsSound}
use Rattle.calls.specs.Files.{IsFull, files_on}
use Rattle.calls.specs.Unshown.{KeepsUnshown, LosesNone}
use Rattle.calls.specs.Calls.{HasFailed, IsWhole, call_count, faults_on, image_on}
use Rattle.calls.specs.Stepping.{Plain}
use Rattle.calls.specs.Transactions.{Rests}
use Rattle.calls.specs.declared.transactions.fault.TransactionFault.{TransactionFault}
use Rattle.calls.specs.declared.transactions.fault.TransactionFault.TheVariants as fault
use Rattle.transfer.specs.Needs.{has_room_twice}
use Rattle.transfer.specs.Places.{HasNoFree, IsPlace, MayPut, PutsAll, put_at}
use Rattle.transfer.specs.Rounds.{Goes}
use Rattle.transfer.specs.declared.refused.PutRefusal.{PutRefusal}
use Rattle.transfer.specs.declared.refused.PutRefusal.TheVariants.{Full, NoMemory, NoInode, Disk}
use Rattle.transfer.specs.declared.writing.Outcome.{Outcome}
use Rattle.transfer.specs.declared.writing.Outcome.TheVariants as outcome

-- nothing is under way, at most so many calls were made, and the image is sound
pub record MayCall {D N : Type 0} (disk : Ghosts D N) (most : ℕ) (k : Plain D) : Type 0 where
  pub rests : Rests disk.fault_count k
  pub few : call_count k ≤ most
  pub sound : IsSound (image_on disk.image k)

-- calls were answered, and nothing is under way; no file is gone, and what none shows stays
pub record AreAnswered {D N : Type 0} (disk : Ghosts D N) (k m : Plain D) : Type 0 where
  pub rests : Rests disk.fault_count m
  pub whole : IsWhole (image_on disk.image k) (image_on disk.image m)
  pub unshown : KeepsUnshown (image_on disk.image k) (image_on disk.image m)
  pub none_lost : LosesNone (files_on disk.image k) (files_on disk.image m)
  pub form : form_of (image_on disk.image m) ≡ form_of (image_on disk.image k)
  pub opening : m.opening ≡ k.opening

-- all of the bytes were put at number i, or only the first of them, and then no block is free
pub record PutsPart (i : ℕ) (bytes : List ℕ) (x y : Image) : Type 0 where
  pub count : ℕ
  pub fewer : count < length bytes
  pub files : files_of y ≡ put_at (files_of x) i (take count bytes)
  pub full : IsFull y

abbrev pub Puts : Bool → ℕ → List ℕ → Image → Image → Type 0
Puts true i bytes x y = files_of y ≡ put_at (files_of x) i bytes
Puts false i bytes x y = PutsPart i bytes x y

-- what is left where no block is free for all of the bytes: the old file keeps the first of them, a
-- new one is removed
abbrev pub IsLeftOf : Option ℕ → Image → Image → Image → Type 0
IsLeftOf (Some inum) x full y = y ≡ full
IsLeftOf None x full y = files_of y ≡ files_of x

-- no block was free for all of the bytes
pub record FillsUp (x : Image) (inum : Option ℕ) (bytes : List ℕ) (y : Image) : Type 0 where
  pub number : ℕ
  pub place : IsPlace (files_of x) inum number
  pub full : Image
  pub part : PutsPart number bytes x full
  pub left : IsLeftOf inum x full y

-- each number is taken
pub record FindsNone (x : Image) (inum : Option ℕ) (y : Image) : Type 0 where
  pub new : inum ≡ None
  pub full : HasNoFree (files_of x)
  pub files : files_of y ≡ files_of x

-- what the calls make of an image
abbrev pub Comes : Image → Option ℕ → List ℕ → Image → Outcome → Type 0
Comes x inum bytes y (outcome.Put i) = PutsAll (files_of x) inum bytes (files_of y) i
Comes x inum bytes y outcome.NoInode = FindsNone x inum y
Comes x inum bytes y outcome.Full = FillsUp x inum bytes y

-- An image is whole, and has its files as before, or with the first of the bytes put. What no file
-- shows stays, here and below.
pub record KeepsPart (x : Image) (inum : Option ℕ) (bytes : List ℕ) (y : Image) : Type 0 where
  pub whole : IsWhole x y
  pub unshown : KeepsUnshown x y
  pub files : MayPut (files_of x) inum bytes (files_of y)

-- why a call was not answered, of a kernel that was k before all calls and is m
abbrev pub IsCutOff : {D N : Type 0} → Ghosts D N → Option ℕ → List ℕ → Plain D → Plain D
    → TransactionFault → Type 0
IsCutOff disk inum bytes k m (fault.Disk cause) = HasFailed disk k m cause
IsCutOff disk inum bytes k m fault.NoMemory =
    (faults_on disk.fault_count m ≡ faults_on disk.fault_count k)
    × KeepsPart (image_on disk.image k) inum bytes (image_on disk.image m)
IsCutOff disk inum bytes k m fault.NoRoom = ⊥

-- ---- over a file, where there is room `twice`, a put goes round

-- what a put makes of an image
abbrev pub PutComes : Bool → Image → Option ℕ → List ℕ → Image → Outcome → Type 0
PutComes twice x inum bytes y (outcome.Put i) = PutsAll (files_of x) inum bytes (files_of y) i
PutComes twice x inum bytes y outcome.NoInode = FindsNone x inum y
PutComes twice x inum bytes y outcome.Full =
    Goes inum twice (λ w place. FillsUp w place bytes y) x bytes

-- an image is whole, and has its files as before, or as a put that was cut off leaves them
pub record KeepsSome (twice : Bool) (x : Image) (inum : Option ℕ) (bytes : List ℕ) (y : Image)
    : Type 0 where
  pub whole : IsWhole x y
  pub unshown : KeepsUnshown x y
  pub files : Goes inum twice (λ w place. MayPut (files_of w) place bytes (files_of y)) x bytes

-- why a call of a put was not answered
abbrev pub IsPutCutOff : {D N : Type 0} → Bool → Ghosts D N → Option ℕ → List ℕ → Plain D → Plain D
    → TransactionFault → Type 0
IsPutCutOff twice disk inum bytes k m (fault.Disk cause) = HasFailed disk k m cause
IsPutCutOff twice disk inum bytes k m fault.NoMemory =
    (faults_on disk.fault_count m ≡ faults_on disk.fault_count k)
    × KeepsSome twice (image_on disk.image k) inum bytes (image_on disk.image m)
IsPutCutOff twice disk inum bytes k m fault.NoRoom = ⊥

-- the calls came to this, and none failed
pub record CallsTo {D N : Type 0} (twice : Bool) (disk : Ghosts D N) (inum : Option ℕ)
    (bytes : List ℕ) (k m : Plain D) (outcome : Outcome) : Type 0 where
  pub whole : IsWhole (image_on disk.image k) (image_on disk.image m)
  pub unshown : KeepsUnshown (image_on disk.image k) (image_on disk.image m)
  pub comes : PutComes twice (image_on disk.image k) inum bytes (image_on disk.image m) outcome
  pub faults : faults_on disk.fault_count m ≡ faults_on disk.fault_count k

-- why the bytes were not all put
abbrev pub IsUnwritten : {D N : Type 0} → Bool → Ghosts D N → Option ℕ → List ℕ → Plain D → Plain D
    → PutRefusal → Type 0
IsUnwritten twice disk inum bytes k m NoInode = CallsTo twice disk inum bytes k m outcome.NoInode
IsUnwritten twice disk inum bytes k m Full = CallsTo twice disk inum bytes k m outcome.Full
IsUnwritten twice disk inum bytes k m NoMemory =
    IsPutCutOff twice disk inum bytes k m fault.NoMemory
IsUnwritten twice disk inum bytes k m (Disk cause) =
    IsPutCutOff twice disk inum bytes k m (fault.Disk cause)
IsUnwritten twice disk inum bytes k m r = ⊥

-- ---- by the room that the image has

abbrev pub PutComesOf : Image → Option ℕ → List ℕ → Image → Outcome → Type 0
PutComesOf x inum bytes y outcome =
    PutComes (has_room_twice x inum (length bytes)) x inum bytes y outcome

abbrev pub KeepsSomeOf : Image → Option ℕ → List ℕ → Image → Type 0
KeepsSomeOf x inum bytes y = KeepsSome (has_room_twice x inum (length bytes)) x inum bytes y
