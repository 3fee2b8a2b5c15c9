-- An operation takes its inode.
use Rattle.std.proofs.Common.{◌≤◌, ◌≡◌, ℕ, ◌<◌, true, false, ltb, length, length-set, List, set, refl, sym, ◌∙◌, ap, subst, arith, Option, Some, None}
use Rattle.std.specs.Prelude.{IsTrue}
use Rattle.inodes.specs.Common.{Agrees, AreLooking, asked, asked_by, both_of, bytes_of, CanLook, CanTake, claim_by, claim_of, claims_of, Create, current_of, false≢true, Files, GatheredBytes, Ghosts, Grip, grip, grip_at, grip_by, grip_of, grips_of, HasRoom, HasSlot, held_alike, HoldsAt, HoldsWhereGot, Image, inode_block, inode_count_of, is_number, IsOpenFor, IsStore, IsTaking, length-current, LockAt, locked_grip, LockState, LogState, LooksAt, MayLock, MayLockAt, Op, Read, Remove, slot_of, Stage, Stands, Stat, stays_same, StoreState, TableState, task, TaskState, Trunc, unlocked_grip, Write, SetAttribute}
use Rattle.inodes.specs.Store.{FitsFiles}
use Rattle.inodes.specs.Lemmas.Faults.{where_none, if_none}
use Rattle.inodes.specs.Lemmas.Grips.{has_place_for_each}
use Rattle.inodes.specs.Lemmas.Holding.{claim_stays}
use Rattle.inodes.specs.Lemmas.Looks.{length-zeroes, look_takes}
use Rattle.inodes.proofs.Standing.{StandsAt}
use Rattle.inodes.proofs.Agreeing.{agrees_now}
use Rattle.inodes.proofs.WriteLogged.{logged_set}
use Rattle.inodes.proofs.Gripping.{grip_is}
use Rattle.inodes.proofs.LooksKept.{looks_set}
use Rattle.inodes.proofs.Searching.{where_got}
use Rattle.inodes.proofs.Frames.{within_image}

-- the number of an operation that takes its inode is one that operations may name
pub number_of_take : (n : ℕ) (op : Op) → CanTake n op → IsTrue (is_number n (asked op))
number_of_take n (Create kind) can = absurd can
number_of_take n (Write i off bytes) can = can.0
number_of_take n (Read i off count) can = can.0
number_of_take n (Trunc i) can = can
number_of_take n (Remove i) can = can
number_of_take n (Stat i) can = can
number_of_take n (SetAttribute i a) can = can.0

-- and it writes no more bytes than there may be at once
pub few_bytes : (n : ℕ) (op : Op) → CanTake n op → length (bytes_of op) ≤ 3072
few_bytes n (Create kind) can = absurd can
few_bytes n (Write i off bytes) can = can.1
few_bytes n (Read i off count) can = omega arith
few_bytes n (Trunc i) can = omega arith
few_bytes n (Remove i) can = omega arith
few_bytes n (Stat i) can = omega arith
few_bytes n (SetAttribute i a) can = omega (arith, length-zeroes)

-- and it needs nothing open in the log
look_open : (l : LogState) (p n : ℕ) (op : Op) → CanLook n op → IsOpenFor l p (Some op)
look_open l p n (Create kind) can = absurd can
look_open l p n (Write i off bytes) can = absurd can
look_open l p n (Read i off count) can = tt
look_open l p n (Trunc i) can = absurd can
look_open l p n (Remove i) can = absurd can
look_open l p n (Stat i) can = tt
look_open l p n (SetAttribute i a) can = absurd can

-- nobody has locked number 0
pub none_of_zero : (cur : Image) (t : TableState) (ts : List TaskState) → AreLooking cur t ts → (q k : ℕ) → grip_of (task ts q) ≡ Some (locked_grip k 0) → ⊥
none_of_zero cur t ts are q k has =
    false≢true (both_of (ltb 0 0) (ltb 0 t.inode_count) (are.table.numbers 0 k (are.table.places q (locked_grip k 0) (grip_is ts q ∙ has)).1)).0

-- in a store whose process p takes its inode
module _ {D N : Type 0} {disk : Ghosts D N} {s : StoreState D} {p : ℕ} {op : Op} {m : LockState} (h : StandsAt disk s p (Stage.Taking m)) (is_op : (task s.tasks p).op ≡ Some op) where
  abbrev cur : Image
  cur = current_of disk.image s.volume

  pub agrees : Agrees s.volume.buffers s.volume.log s.table.inode_count s.tasks
  agrees = where_none s.volume.fault h.well h.is.agrees

  pub looking : AreLooking cur s.table s.tasks
  looking = where_none s.volume.fault h.well h.is.looks

  pub taking : IsTaking s.table.inode_count (task s.tasks p) m
  taking = subst (λ (a : Stage). LooksAt cur s.table (task s.tasks p) a) h.stood (looking.stand p)

  pub same_op : taking.op ≡ op
  same_op = let both : Some taking.op ≡ Some op = sym taking.is ∙ is_op in cc both

  pub can_take : CanTake s.table.inode_count op
  can_take = subst (CanTake s.table.inode_count) same_op taking.can

  pub number : m.number ≡ asked op
  number = taking.number ∙ ap asked same_op

  pub may_name : IsTrue (is_number s.table.inode_count m.number)
  may_name = subst (λ (i : ℕ). IsTrue (is_number s.table.inode_count i)) (sym number) (number_of_take s.table.inode_count op can_take)

  -- the image says so too
  pub may_name_now : IsTrue (is_number (inode_count_of cur) m.number)
  may_name_now = subst (λ (n : ℕ). IsTrue (is_number n m.number)) h.is.numbers may_name

  pub has : grip (grips_of s.tasks) p ≡ grip_at m.at m.number
  has = grip_is s.tasks p ∙ ap (λ (a : Stage). grip_by a (asked_by (task s.tasks p).op)) h.stood

  stands : HoldsAt s.volume.buffers p (inode_block m.number) (slot_of m.at) × IsOpenFor s.volume.log p (task s.tasks p).op
  stands = subst (λ (a : Stage). Stands s.volume.buffers s.volume.log s.table.inode_count p (task s.tasks p).op a) h.stood (agrees.stands p)

  pub holds : HoldsAt s.volume.buffers p (inode_block m.number) (slot_of m.at)
  holds = stands.0

  -- a changing operation is open in the log
  pub is_open : IsOpenFor s.volume.log p (task s.tasks p).op
  is_open = stands.1

  pub slot_is : (i : ℕ) → HasSlot (task s.tasks p).stage i → slot_of m.at ≡ Some i
  slot_is i got = subst (λ (a : Stage). HasSlot a i) h.stood got

  within : inode_block m.number < s.volume.log.size
  within = omega (arith, within_image cur m.number h.is.geometry may_name_now, length-current (disk.image s.volume.device) s.volume.buffers, h.joint.size)

  no_lock : (k : ℕ) → ((i : ℕ) × (grip (grips_of s.tasks) p ≡ Some (locked_grip k i))) → grip (grips_of s.tasks) p ≡ Some (unlocked_grip k m.number) → ⊥
  no_lock k locks grips =
      let both : Some (locked_grip k locks.0) ≡ Some (unlocked_grip k m.number) = sym locks.1 ∙ grips in
      let same : true ≡ false = ap (λ (o : Option Grip). elim o [ None ↦ true | Some g ↦ g.is_locked ]) both in
      absurd (cc same)

  -- it may make its next step
  pub may_lock : MayLock disk.image s.table s.volume p m
  may_lock = by_place m.at has (where_got (disk.image s.volume.device) s.volume.buffers s.volume.log p (inode_block m.number) (slot_of m.at) h.joint holds)
    where
      by_place : (a : LockAt) → grip (grips_of s.tasks) p ≡ grip_at a m.number → HoldsWhereGot cur s.volume.buffers p (inode_block m.number) (slot_of a)
          → MayLockAt disk.image s.table s.volume p m.number a
      by_place LockAt.Reference grips held = has_place_for_each s.table (grips_of s.tasks) cur m.number looking.table
      by_place (LockAt.Lock k) grips held =
          let at = looking.table.places p (unlocked_grip k m.number) grips in
          (record { place = at.0; number = at.1 }, λ holder. no_lock k (looking.table.holders p k holder) grips)
      by_place (LockAt.Read k slot) grips held =
          let at = looking.table.places p (locked_grip k m.number) grips in
          (record { place = at.0; number = at.1 }, looking.table.locks p k m.number grips, record { within = within; holds = held })

-- the task of an operation that looks
abbrev pub look_task : Op → Option GatheredBytes → TaskState
look_task op room = record { op = Some op; stage = Stage.Taking (record { number = asked op; at = LockAt.Reference }); gathered = room }

-- such a task begins: it holds no number, as none did before
nothing_claimed : (ts : List TaskState) (p : ℕ) (op : Op) (room : Option GatheredBytes) → (task ts p).stage ≡ Stage.Nowhere → (j : ℕ) → claim_of (look_task op room) j ≡ claim_of (task ts p) j
nothing_claimed ts p op room stood j = sym (ap (λ (a : Stage). claim_by (task ts p).op a j) stood)

pub store_looks : {D : Type 0} (image : D → Image) (s : StoreState D) (p : ℕ) (op : Op) (room : Option GatheredBytes) → IsStore image s → s.volume.fault ≡ None → p < length s.tasks → (task s.tasks p).stage ≡ Stage.Nowhere
    → CanLook s.table.inode_count op → HasRoom op room → IsStore image (record s { tasks = set s.tasks p (look_task op room) })
store_looks image s p op room is well inside stood can has = record {
  few = let size = length-set s.tasks p (look_task op room) in let few = is.few in omega (arith, size, few);
  geometry = is.geometry;
  numbers = is.numbers;
  form = is.form;
  agrees = if_none s.volume.fault (agrees_now s.volume.buffers s.volume.buffers s.volume.log s.volume.log s.table.inode_count p s.tasks (look_task op room) (record {
    agrees = where_none s.volume.fault well is.agrees;
    inside = inside;
    others = stays_same s.volume.buffers s.volume.log p;
    stands = (tt, look_open s.volume.log p s.table.inode_count op can);
    locks = λ b i lock. subst (λ (a : Stage). HasSlot a i) stood ((where_none s.volume.fault well is.agrees).holders p b i lock);
  }));
  looks = if_none s.volume.fault (looks_set (current_of image s.volume) s.table s.tasks p (look_task op room) (where_none s.volume.fault well is.looks) inside (sym (ap (λ (a : Stage). grip_by a (asked_by (task s.tasks p).op)) stood))
      (record { op = op; is = refl; can = look_takes s.table.inode_count op can; number = refl; room = has })
      (nothing_claimed s.tasks p op room stood));
  logged = if_none s.volume.fault (logged_set (current_of image s.volume) s.volume.log s.volume.log s.tasks p (look_task op room) inside (λ b has. has) (λ q apart. refl) tt (where_none s.volume.fault well is.logged));
}

-- and the files are the same
pub files_look : {D : Type 0} (image : D → Image) (s : StoreState D) (p : ℕ) (op : Op) (room : Option GatheredBytes) → (task s.tasks p).stage ≡ Stage.Nowhere → (files : Files) → FitsFiles image s files
    → FitsFiles image (record s { tasks = set s.tasks p (look_task op room) }) files
unfolding FitsFiles
files_look image s p op room stood files fits = held_alike files (current_of image s.volume) (claims_of s.tasks) (claims_of (set s.tasks p (look_task op room))) (λ j. claim_stays s.tasks p j (look_task op room) (nothing_claimed s.tasks p op room stood j)) fits
