-- The number that a look at an inode block finds; and what is true of the readings of files that
-- are under way.
use Rattle.std.proofs.lemmas.List.{length-replicate}
use Rattle.model.specs.declared.types.operations.Attribute.TheVariants.{Links, Size}
use Rattle.inodes.specs.Growing.{bytes_of, zeroes}
use Rattle.inodes.specs.Looks.{IsWriteOp}
use Rattle.inodes.specs.Writing.{Writes, most_beside, most_logged}
use Rattle.std.proofs.Common.{◌≡◌, ◌≢◌, ℕ, zero, suc, ◌+◌, ◌-◌, ◌*◌, ◌<◌, ◌≤◌, Bool, true, false, cond, eqb, List, Option, Some, None, refl, sym, ◌∙◌, ap, subst, ⊎_elim, arith, inl, inr, length, replicate}
use Rattle.std.specs.List.{find, range_with_len}
use Rattle.std.specs.Prelude.{IsTrue, [], ◌∷◌}
use Rattle.inodes.specs.Common.{AreLooking, asked, asked_by, block_at, both_of, both_ways, CanLook, CanTake, cases_eq, copy_at, Create, Dinode, eqb-true, Freeing, grip, grip_by, grip_of, grips_of, HoldsInode, Image, inode_block, inode_bytes_in, inode_in, is_free_in, is_number, is_over, is_unturned, IsLate, IsRead, IsTruncating, IsWrite, IsWriting, Itrunc, locked_grip, LooksAt, lowest_free, Op, owes_reply, Read, Remove, Stage, Stat, TableState, task, TaskState, Trunc, trunc_op, Write, WriteState, SetAttribute, Form}
use Rattle.model.specs.Layout.{inode_of}
use Rattle.inodes.specs.Holding.{IsSetting}
use Rattle.inodes.specs.Iupdate.{UpdateState}
use Rattle.inodes.specs.Lemmas.Grips.{locks_exclude}

-- the number that is found passes, and lies in the range
abbrev IsIn : (ℕ → Bool) → ℕ → ℕ → ℕ → Type 0
IsIn test a n i = (a ≤ i) × (i < a + n) × (test i ≡ true)

here_or_later : (test : ℕ → Bool) (a n i : ℕ) (t : Bool) → test a ≡ t →
    (find test (range_with_len (a + 1) n) ≡ Some i → IsIn test (a + 1) n i) →
    cond t (Some a) (find test (range_with_len (a + 1) n)) ≡ Some i → IsIn test a (suc n) i
here_or_later test a n i true is later e =
    let same : a ≡ i = cc e in
    (omega arith, omega arith, subst (λ (j : ℕ). test j ≡ true) same is)
here_or_later test a n i false is later e = let rest = later e in (omega arith, omega arith, rest.2)

pub find-range : (test : ℕ → Bool) (a n i : ℕ) → find test (range_with_len a n) ≡ Some i →
    IsIn test a n i
find-range test a zero i h = absurd (cc h)
find-range test a (suc n) i h =
    here_or_later test a n i (test a) refl (λ e. find-range test (a + 1) n i e) h

-- a number that a look finds: its inode stands in the block, operations may name it, and it is free
pub record IsFound (bytes : List ℕ) (inode_count block i : ℕ) : Type 0 where
  pub place : inode_block i ≡ block
  pub number : is_number inode_count i ≡ true
  pub free : (inode_in (inode_bytes_in bytes i)).kind ≡ 0

-- what is found is such a number
pub found_number : (bytes : List ℕ) (inode_count block i : ℕ) → 33 ≤ block →
    lowest_free bytes inode_count block ≡ Some i → IsFound bytes inode_count block i
found_number bytes inode_count block i behind h =
    let f = find-range (is_free_in bytes inode_count) ((block - 33) * 16) 16 i h in
    let kind = (inode_in (inode_bytes_in bytes i)).kind in
    let parts = both_of (is_number inode_count i) (eqb kind 0) f.2 in
    record {
      place = omega (arith, f.0, f.1);
      number = parts.0;
      free = eqb-true kind 0 parts.1;
    }

-- a number that a search passed by: any where it found none, or one below that which it found
abbrev pub IsPassedBy : Option ℕ → ℕ → Type 0
IsPassedBy None j = Unit {0}
IsPassedBy (Some i) j = j < i

here_passed : (test : ℕ → Bool) (a n j : ℕ) (o : Option ℕ) (t : Bool) → test a ≡ t →
    (find test (range_with_len (a + 1) n) ≡ o → a + 1 ≤ j → test j ≡ false) →
    cond t (Some a) (find test (range_with_len (a + 1) n)) ≡ o → IsPassedBy o j → a ≤ j →
    test j ≡ false
here_passed test a n j None true is later e passed low = absurd (cc e)
here_passed test a n j (Some i) true is later e passed low =
    let same : a ≡ i = cc e in
    absurd (omega (arith, same, passed, low))
here_passed test a n j o false is later e passed low =
    ⊎_elim (λ (same : a ≡ j). subst (λ (k : ℕ). test k ≡ false) same is)
    (λ other. later e (omega (arith, other, low))) (cases_eq a j)

-- a number of the range that was passed by did not pass the test
pub passed_by : (test : ℕ → Bool) (a n j : ℕ) (o : Option ℕ) →
    find test (range_with_len a n) ≡ o → IsPassedBy o j → a ≤ j → j < a + n → test j ≡ false
passed_by test a zero j o found passed low high = absurd (omega arith)
passed_by test a (suc n) j o found passed low high =
    here_passed test a n j o (test a) refl
    (λ e more. passed_by test (a + 1) n j o e passed more (omega arith)) found passed low

-- so a number of the block that a look passed by is taken
pub taken_by_look : (x : Image) (n block j : ℕ) (o : Option ℕ) →
    lowest_free (block_at x block) n block ≡ o → IsPassedBy o j → is_number n j ≡ true →
    inode_block j ≡ block → (inode_of x j).kind ≢ 0
unfolding inode_of
taken_by_look x n block j o found passed number place free =
    let bytes = block_at x block in
    let here : bytes ≡ block_at x (inode_block j) = ap (λ (b : ℕ). block_at x b) (sym place) in
    let zero : (inode_in (inode_bytes_in bytes j)).kind ≡ 0 =
    ap (λ (l : List ℕ). (inode_in (inode_bytes_in l j)).kind) here ∙ free in
    let fails = passed_by (is_free_in bytes n) ((block - 33) * 16) 16 j o found passed
    (omega (arith, place)) (omega (arith, place)) in
    both_ways (is_free_in bytes n j) fails (rw (number, zero) refl)

-- ---- operations that take an inode

-- one that looks at a file takes its inode
pub look_takes : (n : ℕ) (op : Op) → CanLook n op → CanTake n op
look_takes n (Create kind) can = absurd can
look_takes n (Write i off bytes) can = absurd can
look_takes n (Read i off count) can = can
look_takes n (Trunc i) can = absurd can
look_takes n (Remove i) can = absurd can
look_takes n (Stat i) can = can
look_takes n (SetAttribute i a) can = absurd can

-- ---- tasks that had their turn, and whose reply is to come

-- a process has of the table what its task has
pub grip_of_task : (ts : List TaskState) (p : ℕ) → grip (grips_of ts) p ≡ grip_of (task ts p)
grip_of_task [] p = refl
grip_of_task (t ∷ ts) zero = refl
grip_of_task (t ∷ ts) (suc p) = grip_of_task ts p

-- a task whose reply is to come has locked the inode that it asks for
locks_own : (a : Stage) (i : ℕ) → owes_reply a ≡ true →
    (k : ℕ) × (grip_by a i ≡ Some (locked_grip k i))
locks_own Stage.Nowhere i unlike = absurd (cc unlike)
locks_own (Stage.Creating m) i unlike = absurd (cc unlike)
locks_own (Stage.Taking m) i unlike = absurd (cc unlike)
locks_own (Stage.Reading k m) i is = (k, refl)
locks_own (Stage.Delivering k) i is = (k, refl)
locks_own (Stage.Truncating k m) i unlike = absurd (cc unlike)
locks_own (Stage.Writing k m) i is = (k, refl)
locks_own (Stage.Setting k d u) i unlike = absurd (cc unlike)
locks_own (Stage.Leaving k) i unlike = absurd (cc unlike)

-- the operation that frees a file's blocks asks for its number
asked_to_free : (m : Itrunc) → asked (trunc_op m) ≡ m.number
asked_to_free m = by_end m.removes
  where
    by_end : (removes : Bool) → asked (cond removes (Remove m.number) (Trunc m.number)) ≡ m.number
    by_end true = refl
    by_end false = refl

-- ---- what a writing writes

writes_number : (op : Op) (m : WriteState) → Writes op m → asked op ≡ m.number
writes_number (Create kind) m w = absurd w
writes_number (Write i off bytes) m w = w.0
writes_number (Read i off n) m w = absurd w
writes_number (Trunc i) m w = absurd w
writes_number (Remove i) m w = absurd w
writes_number (Stat i) m w = absurd w
writes_number (SetAttribute i a) m w = w.0

-- its number is the one that the task asks for
pub write_asks : {o : Option Op} (op : Op) (m : WriteState) → o ≡ Some op → Writes op m → asked_by o ≡ m.number
write_asks op m is w = ap asked_by is ∙ writes_number op m w

pub is_write_op : (op : Op) (m : WriteState) → Writes op m → IsWriteOp op
is_write_op (Create kind) m w = absurd w
is_write_op (Write i off bytes) m w = tt
is_write_op (Read i off n) m w = absurd w
is_write_op (Trunc i) m w = absurd w
is_write_op (Remove i) m w = absurd w
is_write_op (Stat i) m w = absurd w
is_write_op (SetAttribute i (Links n)) m w = absurd w.1
is_write_op (SetAttribute i (Size n)) m w = tt

pub can_write : (n : ℕ) (op : Op) (m : WriteState) → Writes op m → IsTrue (is_number n m.number) → m.count ≤ 3072 → CanTake n op
can_write n (Create kind) m w number few = absurd w
can_write n (Write i off bytes) m w number few =
    (subst (λ (j : ℕ). IsTrue (is_number n j)) (sym w.0) number, omega (arith, few, w.2))
can_write n (Read i off count) m w number few = absurd w
can_write n (Trunc i) m w number few = absurd w
can_write n (Remove i) m w number few = absurd w
can_write n (Stat i) m w number few = absurd w
can_write n (SetAttribute i (Links c)) m w number few = absurd w.1
can_write n (SetAttribute i (Size c)) m w number few =
    (subst (λ (j : ℕ). IsTrue (is_number n j)) (sym w.0) number, tt)

pub write_number : (n : ℕ) (op : Op) → IsWriteOp op → CanTake n op → IsTrue (is_number n (asked op))
write_number n (Create kind) w can = absurd w
write_number n (Write i off bytes) w can = can.0
write_number n (Read i off count) w can = absurd w
write_number n (Trunc i) w can = absurd w
write_number n (Remove i) w can = absurd w
write_number n (Stat i) w can = absurd w
write_number n (SetAttribute i (Links c)) w can = absurd w
write_number n (SetAttribute i (Size c)) w can = can.0

-- the zeroes, and how many they are
pub zeroes_are : replicate 3072 0 ≡ zeroes
unfolding zeroes
zeroes_are = refl

pub length-zeroes : length zeroes ≡ 3072
length-zeroes = sym (ap length zeroes_are) ∙ length-replicate {A = ℕ} 3072 0

-- it has bytes for all of it
pub enough_bytes : (op : Op) (m : WriteState) → Writes op m → m.count ≤ 3072 → m.count ≤ length (bytes_of op)
enough_bytes (Create kind) m w few = absurd w
enough_bytes (Write i off bytes) m w few = omega (arith, w.2)
enough_bytes (Read i off count) m w few = absurd w
enough_bytes (Trunc i) m w few = absurd w
enough_bytes (Remove i) m w few = absurd w
enough_bytes (Stat i) m w few = absurd w
enough_bytes (SetAttribute i a) m w few = omega (arith, few, length-zeroes)

-- and writes the same as it goes on
pub writes_still : (op : Op) (m n : WriteState) → n.number ≡ m.number → n.offset ≡ m.offset → n.count ≡ m.count → Writes op m → Writes op n
writes_still (Create kind) m n number offset count w = absurd w
writes_still (Write i off bytes) m n number offset count w =
    (w.0 ∙ sym number, w.1 ∙ sym offset, w.2 ∙ sym count)
writes_still (Read i off c) m n number offset count w = absurd w
writes_still (Trunc i) m n number offset count w = absurd w
writes_still (Remove i) m n number offset count w = absurd w
writes_still (Stat i) m n number offset count w = absurd w
writes_still (SetAttribute i (Links c)) m n number offset count w = absurd w.1
writes_still (SetAttribute i (Size c)) m n number offset count w =
    (w.0 ∙ sym number, (omega (arith, w.1.0, offset), omega (arith, w.1.1, offset, count)))

-- it logs as much as a write may
pub write_logs : (form : Form) (op : Op) (m : WriteState) → Writes op m → most_logged form op ≡ 5 + most_beside form
write_logs form (Create kind) m w = absurd w
write_logs form (Write i off bytes) m w = refl
write_logs form (Read i off n) m w = absurd w
write_logs form (Trunc i) m w = absurd w
write_logs form (Remove i) m w = absurd w
write_logs form (Stat i) m w = absurd w
write_logs form (SetAttribute i (Links c)) m w = absurd w.1
write_logs form (SetAttribute i (Size c)) m w = refl

module _ (cur : Image) (t : TableState) (ts : List TaskState) (are : AreLooking cur t ts) where
  -- its operation is a reading or a write
  pub late_is : (p : ℕ) → owes_reply (task ts p).stage ≡ true → IsLate t.inode_count (task ts p)
  late_is p is = by_place (task ts p).stage (are.stand p) is
    where
      by_place : (a : Stage) → LooksAt cur t (task ts p) a → owes_reply a ≡ true →
          IsLate t.inode_count (task ts p)
      by_place Stage.Nowhere stands unlike = absurd (cc unlike)
      by_place (Stage.Creating m) stands unlike = absurd (cc unlike)
      by_place (Stage.Taking m) stands unlike = absurd (cc unlike)
      by_place (Stage.Reading k m) stands is = inl stands.op
      by_place (Stage.Delivering k) stands is = inl stands.op
      by_place (Stage.Truncating k m) stands unlike = absurd (cc unlike)
      by_place (Stage.Writing k m) stands is = inr (record {
        op = stands.op;
        is = stands.is;
        writes = is_write_op stands.op m stands.writes;
        may = can_write t.inode_count stands.op m stands.writes stands.number stands.few;
      })
      by_place (Stage.Setting k d u) stands unlike = absurd (cc unlike)
      by_place (Stage.Leaving k) stands unlike = absurd (cc unlike)

  -- of a number that operations may name
  pub late_number : (p : ℕ) → owes_reply (task ts p).stage ≡ true →
      IsTrue (is_number t.inode_count (asked_by (task ts p).op))
  late_number p is =
      ⊎_elim
      (λ (read : IsRead t.inode_count (task ts p)).
      subst (λ (i : ℕ). IsTrue (is_number t.inode_count i)) (sym (ap asked_by read.is)) read.may.0)
      (λ (write : IsWrite t.inode_count (task ts p)).
      subst (λ (i : ℕ). IsTrue (is_number t.inode_count i)) (sym (ap asked_by write.is))
      (write_number t.inode_count write.op write.writes write.may))
      (late_is p is)

  -- the place of its locked inode in the table
  pub late_locks : (p : ℕ) → owes_reply (task ts p).stage ≡ true →
      (k : ℕ) × (grip (grips_of ts) p ≡ Some (locked_grip k (asked_by (task ts p).op)))
  late_locks p is =
      let own = locks_own (task ts p).stage (asked_by (task ts p).op) is in
      (own.0, grip_of_task ts p ∙ own.1)

  -- a copy of a locked inode is that of its number in the image, and used
  pub copy_is : (p i k : ℕ) (d : Dinode) → grip (grips_of ts) p ≡ Some (locked_grip k i) →
      copy_at t.places k ≡ Some d → (inode_of cur i ≡ d) × (d.kind ≢ 0)
  copy_is p i k d has copy =
      are.table.copies i k d (are.table.places p (locked_grip k i) has).1 copy

  -- no two of one number
  pub late_apart : (p q : ℕ) → owes_reply (task ts p).stage ≡ true →
      owes_reply (task ts q).stage ≡ true → asked_by (task ts p).op ≡ asked_by (task ts q).op →
      p ≡ q
  late_apart p q one other same =
      let mine = late_locks p one in
      let theirs = late_locks q other in
      locks_exclude t (grips_of ts) cur p q (asked_by (task ts q).op) mine.0 theirs.0 are.table
      (subst (λ (n : ℕ). grip (grips_of ts) p ≡ Some (locked_grip mine.0 n)) same mine.1) theirs.1

  -- who had its turn holds the lock of its inode until its finish
  pub holds_lock : (p : ℕ) → is_over (task ts p).stage ≡ false →
      is_unturned (task ts p).stage ≡ false → HoldsInode t p (asked_by (task ts p).op)
  holds_lock p on turned = by_place (task ts p).stage (grip_of_task ts p) on turned
    where
      held : (k : ℕ) → grip (grips_of ts) p ≡ Some (locked_grip k (asked_by (task ts p).op)) →
          HoldsInode t p (asked_by (task ts p).op)
      held k has = record {
        place = k;
        number = (are.table.places p (locked_grip k (asked_by (task ts p).op)) has).1;
        holder = are.table.locks p k (asked_by (task ts p).op) has;
      }

      by_place : (a : Stage) → grip (grips_of ts) p ≡ grip_by a (asked_by (task ts p).op) →
          is_over a ≡ false → is_unturned a ≡ false → HoldsInode t p (asked_by (task ts p).op)
      by_place Stage.Nowhere has on turned = absurd (cc on)
      by_place (Stage.Creating m) has on turned = absurd (cc turned)
      by_place (Stage.Taking m) has on turned = absurd (cc turned)
      by_place (Stage.Reading k m) has on turned = held k has
      by_place (Stage.Delivering k) has on turned = held k has
      by_place (Stage.Truncating k m) has on turned = held k has
      by_place (Stage.Writing k m) has on turned = held k has
      by_place (Stage.Setting k d u) has on turned = held k has
      by_place (Stage.Leaving k) has on turned = held k has

  -- ---- the freeing of a file's blocks

  pub truncating_is : (p k : ℕ) (m : Freeing) → (task ts p).stage ≡ Stage.Truncating k m →
      IsTruncating cur t.inode_count (task ts p) m
  truncating_is p k m at = subst (λ (a : Stage). LooksAt cur t (task ts p) a) at (are.stand p)

  -- its operation asks for its number
  pub trunc_number : (p k : ℕ) (m : Freeing) → (task ts p).stage ≡ Stage.Truncating k m →
      asked_by (task ts p).op ≡ m.machine.number
  trunc_number p k m at = ap asked_by (truncating_is p k m at).op ∙ asked_to_free m.machine

  -- which operations may name
  pub trunc_names : (p k : ℕ) (m : Freeing) → (task ts p).stage ≡ Stage.Truncating k m →
      IsTrue (is_number t.inode_count m.machine.number)
  trunc_names p k m at = (truncating_is p k m at).number

  -- and it has locked it
  pub trunc_locks : (p k : ℕ) (m : Freeing) → (task ts p).stage ≡ Stage.Truncating k m →
      grip_of (task ts p) ≡ Some (locked_grip k m.machine.number)
  trunc_locks p k m at =
      ap (λ (a : Stage). grip_by a (asked_by (task ts p).op)) at
      ∙ ap (λ (i : ℕ). Some (locked_grip k i)) (trunc_number p k m at)

  -- ---- the writing of a file's bytes

  pub writing_is : (p k : ℕ) (m : WriteState) → (task ts p).stage ≡ Stage.Writing k m →
      IsWriting cur t.inode_count (task ts p) m
  writing_is p k m at = subst (λ (a : Stage). LooksAt cur t (task ts p) a) at (are.stand p)

  pub write_locks : (p k : ℕ) (m : WriteState) → (task ts p).stage ≡ Stage.Writing k m →
      grip_of (task ts p) ≡ Some (locked_grip k m.number)
  write_locks p k m at =
      ap (λ (a : Stage). grip_by a (asked_by (task ts p).op)) at
      ∙ ap (λ (i : ℕ). Some (locked_grip k i)) (write_asks (writing_is p k m at).op m (writing_is p k m at).is (writing_is p k m at).writes)

  -- ---- the writing back of an inode with an attribute set

  pub setting_is : (p k : ℕ) (d : Dinode) (u : UpdateState) →
      (task ts p).stage ≡ Stage.Setting k d u → IsSetting t.inode_count (task ts p) u
  setting_is p k d u at = subst (λ (a : Stage). LooksAt cur t (task ts p) a) at (are.stand p)

  pub set_locks : (p k : ℕ) (d : Dinode) (u : UpdateState) →
      (task ts p).stage ≡ Stage.Setting k d u → grip_of (task ts p) ≡ Some (locked_grip k u.number)
  set_locks p k d u at =
      ap (λ (a : Stage). grip_by a (asked_by (task ts p).op)) at
      ∙ ap (λ (o : Option Op). Some (locked_grip k (asked_by o))) (setting_is p k d u at).op
