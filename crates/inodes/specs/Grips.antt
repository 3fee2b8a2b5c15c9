-- What processes have of the table of inodes in memory, and what is true of both between any two
-- steps.
use Rattle.std.specs.Prelude.{◌≡◌, ◌≢◌, ◌<◌, ◌≤◌, ℕ, Bool, true, false, IsTrue, List, [], ◌∷◌, length, replicate, slice_index_or, slice_set, Option, Some, None}
use Rattle.blocks.specs.Disk.{Image}
use Rattle.model.specs.declared.types.image.Dinode.{Dinode}
use Rattle.model.specs.declared.types.image.Form.{Form}
use Rattle.model.specs.Journal.{is_number}
use Rattle.model.specs.Layout.{inode_of}
use Rattle.inodes.specs.declared.table.InMemory.{InMemory}
use Rattle.inodes.specs.Table.{TableState, AreCounted, HasPlaceFor, new_table, entry_at, is_of, place_for, holder_in, holder_at, copy_in, copy_at, referred, locked, renewed, left}

-- an inode to which a process refers
pub record Grip : Type 0 where
  -- where it stands in the table
  pub place : ℕ
  pub number : ℕ
  -- whether the process has its sleep lock
  pub is_locked : Bool

abbrev pub unlocked_grip : ℕ → ℕ → Grip
unlocked_grip k i = record { place = k; number = i; is_locked = false }

abbrev pub locked_grip : ℕ → ℕ → Grip
locked_grip k i = record { place = k; number = i; is_locked = true }

-- what a process has of the table
abbrev pub grip : List (Option Grip) → ℕ → Option Grip
grip gs p = slice_index_or gs p None

abbrev pub with_grip : List (Option Grip) → ℕ → Option Grip → List (Option Grip)
with_grip gs p g = slice_set gs p g

-- the places to which processes refer, each as often as they do
abbrev pub named : List (Option Grip) → List ℕ
named [] = []
named (None ∷ gs) = named gs
named (Some g ∷ gs) = g.place ∷ named gs

-- place k is that of number i
abbrev pub HasNumber : List (Option InMemory) → ℕ → ℕ → Type 0
HasNumber ps k i = is_of i (entry_at ps k) ≡ true

-- THE TABLE of an image of n inode numbers agrees with what the processes have of it, and with the
-- current image.
pub record IsTable (ps : List (Option InMemory)) (n : ℕ) (gs : List (Option Grip)) (cur : Image)
    : Type 0 where
  pub size : length ps ≡ 50
  pub few : length gs ≤ 32
  pub counted : AreCounted ps (named gs)
  pub places : (p : ℕ) (g : Grip) → grip gs p ≡ Some g
      → (g.place < 50) × HasNumber ps g.place g.number
  -- a number has one place at most, and operations may name it
  pub once : (i j k : ℕ) → HasNumber ps j i → HasNumber ps k i → j ≡ k
  pub numbers : (i k : ℕ) → HasNumber ps k i → IsTrue (is_number n i)
  -- who has a locked grip of a place is the holder there, and the other way round
  pub locks : (p k i : ℕ) → grip gs p ≡ Some (locked_grip k i) → holder_at ps k ≡ Some p
  pub holders : (p k : ℕ) → holder_at ps k ≡ Some p
      → (i : ℕ) × (grip gs p ≡ Some (locked_grip k i))
  -- a copy is that number's inode in the current image, and used
  pub copies : (i k : ℕ) (d : Dinode) → HasNumber ps k i → copy_at ps k ≡ Some d
      → (inode_of cur i ≡ d) × (d.kind ≢ 0)

abbrev pub TableIs : TableState → List (Option Grip) → Image → Type 0
TableIs t gs cur = IsTable t.places t.inode_count gs cur

-- a place keeps number, holder and copy
pub record Stays (old new : Option InMemory) : Type 0 where
  pub number : (i : ℕ) → is_of i new ≡ is_of i old
  pub holder : holder_in new ≡ holder_in old
  pub copy : copy_in new ≡ copy_in old

-- process p changes table and grips, which agree as before
pub record KeepsTable (t u : TableState) (p : ℕ) (gs hs : List (Option Grip)) (cur : Image)
    : Type 0 where
  pub table : TableIs u hs cur
  -- what another process has locked stays
  pub others : (q k i : ℕ) → q ≢ p → grip gs q ≡ Some (locked_grip k i)
      → Stays (entry_at t.places k) (entry_at u.places k)

-- who takes a reference has an unlocked grip
abbrev pub KeptByRefer : Type 0
KeptByRefer = (t : TableState) (gs : List (Option Grip)) (cur : Image) (p i k : ℕ)
    → TableIs t gs cur → p < length gs → grip gs p ≡ None → IsTrue (is_number t.inode_count i)
    → place_for t.places i ≡ Some k
    → KeepsTable t (referred t i k) p gs (with_grip gs p (Some (unlocked_grip k i))) cur

-- who takes a lock that nobody has
abbrev pub KeptByLock : Type 0
KeptByLock = (t : TableState) (gs : List (Option Grip)) (cur : Image) (p k i : ℕ)
    → TableIs t gs cur → grip gs p ≡ Some (unlocked_grip k i) → holder_at t.places k ≡ None
    → KeepsTable t (locked t k p) p gs (with_grip gs p (Some (locked_grip k i))) cur

-- the used inodes of n numbers but i are the same in both images
abbrev pub KeepsUsedInodes : ℕ → ℕ → Image → Image → Type 0
KeepsUsedInodes n i old new = (j : ℕ) → IsTrue (is_number n j) → j ≢ i → (inode_of old j).kind ≢ 0
    → inode_of new j ≡ inode_of old j

-- a copy of number i is that inode in an image, and used
abbrev pub IsCopy : Image → ℕ → Option Dinode → Type 0
IsCopy x i c = (d : Dinode) → c ≡ Some d → (inode_of x i ≡ d) × (d.kind ≢ 0)

-- who has an inode's lock keeps what it read of it, or wrote
abbrev pub KeptByRenew : Type 0
KeptByRenew = (t : TableState) (gs : List (Option Grip)) (old new : Image) (p k i : ℕ)
    (c : Option Dinode) → TableIs t gs old → grip gs p ≡ Some (locked_grip k i)
    → KeepsUsedInodes t.inode_count i old new → IsCopy new i c
    → KeepsTable t (renewed t k c) p gs gs new

-- who gives up lock and reference has no grip
abbrev pub KeptByLeave : Type 0
KeptByLeave = (t : TableState) (gs : List (Option Grip)) (cur : Image) (p k i : ℕ)
    → TableIs t gs cur → grip gs p ≡ Some (locked_grip k i)
    → KeepsTable t (left t k) p gs (with_grip gs p None) cur

-- the current image changes, but no used inode
abbrev pub KeptByImage : Type 0
KeptByImage = (t : TableState) (gs : List (Option Grip)) (old new : Image)
    → TableIs t gs old → KeepsUsedInodes t.inode_count 0 old new → TableIs t gs new

-- at the opening nobody refers to an inode
abbrev pub IsTableAtOpening : Type 0
IsTableAtOpening = (form : Form) (n m : ℕ) (cur : Image) → m ≤ 32 →
    TableIs (new_table form n) (replicate m None) cur

-- there is a place for each number
abbrev pub HasPlaceForEach : Type 0
HasPlaceForEach = (t : TableState) (gs : List (Option Grip)) (cur : Image) (i : ℕ)
    → TableIs t gs cur → HasPlaceFor t i

-- two processes with locked grips of one number are the same
abbrev pub LocksExclude : Type 0
LocksExclude = (t : TableState) (gs : List (Option Grip)) (cur : Image) (p q i j k : ℕ)
    → TableIs t gs cur → grip gs p ≡ Some (locked_grip j i) → grip gs q ≡ Some (locked_grip k i)
    → p ≡ q

-- who finds a holder has another process before it, which has locked that number
abbrev pub HolderIsAnother : Type 0
HolderIsAnother = (t : TableState) (gs : List (Option Grip)) (cur : Image) (p q i k : ℕ)
    → TableIs t gs cur → grip gs p ≡ Some (unlocked_grip k i) → holder_at t.places k ≡ Some q
    → (q ≢ p) × (grip gs q ≡ Some (locked_grip k i))
