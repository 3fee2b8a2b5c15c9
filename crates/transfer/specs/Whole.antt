-- A put in one transaction: it is made whole or not at all.
use Rattle.std.specs.Prelude.{◌≡◌, ℕ, Bool, IsTrue, List, Option}
use Rattle.blocks.specs.Disk.{Image, LeavesOnly}
use Rattle.blocks.specs.declared.disk.Disk.{Ghosts}
use Rattle.model.specs.Log.{is_lawful_log, recovered}
use Rattle.model.specs.Soundness.{IsSound}
use Rattle.calls.specs.Calls.{faults_on, image_on}
use Rattle.calls.specs.Pairing.{IsUnmade}
use Rattle.calls.specs.Stepping.{IsReached, Plain}
use Rattle.calls.specs.Unshown.{KeepsUnshown}
use Rattle.calls.specs.declared.transactions.fault.TransactionFault.TheVariants as fault
use Rattle.transfer.specs.Midst.{IsSame, PutsShort}
use Rattle.transfer.specs.PutWriting.{CallsTo}
use Rattle.transfer.specs.Stopped.{IsNoneOrAll}
use Rattle.transfer.specs.declared.refused.PutRefusal.{PutRefusal}
use Rattle.transfer.specs.declared.refused.PutRefusal.TheVariants.{Full, NoMemory, NoInode, Disk}
use Rattle.transfer.specs.declared.writing.Outcome.{Outcome}
use Rattle.transfer.specs.declared.writing.Outcome.TheVariants as outcome

-- Recovery of z gives a sound image with the files of image x, or with all of the bytes put into
-- them, and what no file shows stays.
pub record KeepsWhole (x : Image) (inum : Option ℕ) (bytes : List ℕ) (z : Image) : Type 0 where
  pub log : IsTrue (is_lawful_log z)
  pub sound : IsSound (recovered z)
  pub files : IsNoneOrAll x inum bytes (recovered z)
  pub unshown : KeepsUnshown x (recovered z)

-- however a put in one transaction ends, with m, a stop at any moment of it leaves nothing else
pub record StaysWhole {D N : Type 0} (disk : Ghosts D N) (inum : Option ℕ) (bytes : List ℕ)
    (k m : Plain D) : Type 0 where
  pub leaves : LeavesOnly disk.moment disk.leaves k.store.volume.device m.store.volume.device
      (KeepsWhole (image_on disk.image k) inum bytes)
  pub name : disk.name m.store.volume.device ≡ disk.name k.store.volume.device
  pub reached : IsReached disk k m

-- the calls came to this, whether there is room twice or not
abbrev pub AllTo : {D N : Type 0} → Ghosts D N → Option ℕ → List ℕ → Plain D → Plain D → Outcome
    → Type 0
AllTo disk inum bytes k m o = (twice : Bool) → CallsTo twice disk inum bytes k m o

-- No block was free for all of the bytes in the transaction of kernel k, which is m now, and it was
-- given up: the disk has the image that it had.
pub record GivesUp {D N : Type 0} (disk : Ghosts D N) (inum : Option ℕ) (bytes : List ℕ)
    (k m : Plain D) : Type 0 where
  pub part : PutsShort disk inum bytes k m
  pub same : IsSame disk k m
  pub faults : faults_on disk.fault_count m ≡ faults_on disk.fault_count k

-- what a put in one transaction came to
abbrev pub WholeTo : {D N : Type 0} → Ghosts D N → Option ℕ → List ℕ → Plain D → Plain D → Outcome
    → Type 0
WholeTo disk inum bytes k m (outcome.Put i) = AllTo disk inum bytes k m (outcome.Put i)
WholeTo disk inum bytes k m outcome.NoInode = AllTo disk inum bytes k m outcome.NoInode
WholeTo disk inum bytes k m outcome.Full = GivesUp disk inum bytes k m

-- why the bytes were not put in it
abbrev pub IsUnwhole : {D N : Type 0} → Ghosts D N → Option ℕ → List ℕ → Plain D → Plain D
    → PutRefusal → Type 0
IsUnwhole disk inum bytes k m NoInode = WholeTo disk inum bytes k m outcome.NoInode
IsUnwhole disk inum bytes k m Full = WholeTo disk inum bytes k m outcome.Full
IsUnwhole disk inum bytes k m NoMemory = IsUnmade disk k m fault.NoMemory
IsUnwhole disk inum bytes k m (Disk cause) = IsUnmade disk k m (fault.Disk cause)
IsUnwhole disk inum bytes k m r = ⊥
