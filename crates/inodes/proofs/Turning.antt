-- The turn of an operation that takes its inode.
use Rattle.std.proofs.Common.{◌-◌, ◌+◌, ◌≡◌, ◌≢◌, ◌⊎◌, inl, inr, ℕ, ◌≤◌, ◌<◌, ◌/◌, ◌^◌, Bool, true, false, cond, eqb, List, [], ◌∷◌, length, set, refl, sym, ◌∙◌, ap, subst, ⊎_elim, arith, Option, Some, None, ltb}
use Rattle.std.specs.Prelude.{IsTrue}
use Rattle.model.specs.Operations.{extension_refusal}
use Rattle.model.specs.declared.types.operations.Reply.TheVariants.{TooLong}
use Rattle.in_flight.specs.GrowthLaws.{beginning}
use Rattle.inodes.specs.Growing.{is_addition}
use Rattle.inodes.specs.Writing.{IsWriting, Writes}
use Rattle.inodes.specs.Common.{after, asked, BadOffset, begun_left, bitmap_block, block_of, block_of_write, blocks_behind, branch_shallow, Buffers, bytes_by, CanLook, CanTake, cases_eq, Claim, claim_by, claim_of, claims_of, copy_at, Create, current_of, Dinode, Done, eq-eqb, Extent, extent_of, few_left, file_left, Files, first_freeing, first_read, first_slot, first_trunc, first_write, FitsHeld, Form, form_of, free_tells, frees, Ghosts, greatest_size, grip_by, grip_of, grows, Growth, growth_of, HasComeTo, HasRoom, Held, held_of, HoldsAt, Image, is_making, is_number, IsClaimedNow, IsOpenFor, IsRead, IsTruncating, Itrunc, length-current, locked_grip, LockState, LoggedAt, LogState, LooksAt, ltb-false, ltb-true, MayRead, most_behind, most_left, ne_eqb, next_place, no_block_kept, node_of_write, NoFile, Op, Read, ReadState, Remove, Reply, resting_may_be_read, resting_refuses, resting_tells, slot_in, Stage, Stands, Stat, StatOf, steps_left, StoreState, TableState, task, TaskState, TooBig, transfer_limit, Trunc, trunc_op, turn_answers, turn_grows, turn_holds, TurnsTo, unbegun, used_by, WasAnswered, Write, WriteState, files_set, first_update, IsSetting, set_answers, set_refuses, SetAttribute, turn_sets, unwritten, with_value, false≢true}
use Rattle.model.specs.declared.types.operations.Attribute.{Attribute}
use Rattle.model.specs.declared.types.operations.Attribute.TheVariants.{Links, Size}
use Rattle.model.specs.Layout.{inode_of}
use Rattle.in_flight.specs.AttributeLaws.{IsAllowed}
use Rattle.in_flight.specs.Held.{blocks_left}
use Rattle.inodes.specs.Holding.{FitsField}
use Rattle.inodes.specs.Store.{FitsFiles}
use Rattle.inodes.specs.Lemmas.Holding.{HoldsAlone, claimed_now, none_held, own_grows, own_setting}
use Rattle.inodes.specs.Lemmas.ReadRuns.{begins}
use Rattle.inodes.specs.Turning.{IsReadable, if_used, reply_of_attribute, stage_of_addition, stage_of_attribute, reply_of_look, reply_when_taken, stage_of_look, stage_when_taken, stage_of_read, write_refusal, stage_by_refusal}
use Rattle.in_flight.specs.Looks.{AnswersNoFile}
use Rattle.inodes.proofs.Standing.{StandsAt}
use Rattle.inodes.proofs.Starting.{has_begun, has_none, few_reads}
use Rattle.inodes.proofs.Taking.{taking, looking, can_take, number, same_op, may_name, may_name_now}
use Rattle.inodes.specs.Lemmas.Unclaimed.{holds_alone_of}
use Rattle.inodes.proofs.TruncFiles.{with_claim, with_claim_is}
use Rattle.inodes.proofs.TruncNext.{address_same, first_comes, first_held, first_number}
use Rattle.inodes.proofs.WriteComes.{fresh_next, comes_next}
use Rattle.inodes.specs.Lemmas.Bounds.{few_frees, most_elsewhere, next_low, writes_most}
use Rattle.inodes.proofs.TruncGot.{holds_kept}

-- a turn makes no number
pub makes_none : (form : Form) (d : Dinode) (op : Op) (used : Bool) (i : ℕ) → is_making i (reply_when_taken form (if_used used d) op) ≡ true → ⊥
makes_none form d op false i makes = absurd (cc makes)
makes_none form d (Create kind) true i makes = absurd (cc makes)
makes_none form d (Write j off bytes) true i makes = by_size (ltb d.size off) (ltb (greatest_size form) (off + length bytes)) makes
  where
    by_size : (a b : Bool) → is_making i (cond a (Some BadOffset) (cond b (Some TooBig) None)) ≡ true → ⊥
    by_size true b makes = absurd (cc makes)
    by_size false true makes = absurd (cc makes)
    by_size false false makes = absurd (cc makes)
makes_none form d (Read j off n) true i makes = absurd (cc makes)
makes_none form d (Trunc j) true i makes = absurd (cc makes)
makes_none form d (Remove j) true i makes = absurd (cc makes)
makes_none form d (Stat j) true i makes = absurd (cc makes)
makes_none form d (SetAttribute j (Links n)) true i makes = absurd (cc makes)
makes_none form d (SetAttribute j (Size n)) true i makes =
    by_size (ltb d.size n) (ltb (d.size + transfer_limit) n) (ltb (greatest_size form) n) makes
  where
    by_size : (a b c : Bool) → is_making i (cond a (cond b (Some TooLong) (cond c (Some TooBig) None)) (Some Done)) ≡ true → ⊥
    by_size false b c makes = absurd (cc makes)
    by_size true true c makes = absurd (cc makes)
    by_size true false true makes = absurd (cc makes)
    by_size true false false makes = absurd (cc makes)

-- what a truncation holds of its own at its turn
abbrev pub held_at_turn : Dinode → Bool → Held
held_at_turn d removes = record { copy = d; cursor = 0 ∷ []; last_kind = cond removes 0 d.kind }

-- where a reading goes, it has locked its inode, got no block, and has few steps left
grip_of_read : (k i : ℕ) (o : Option ReadState) → grip_by (stage_of_read k o) i ≡ Some (locked_grip k i)
grip_of_read k i None = refl
grip_of_read k i (Some m) = refl

-- so has a write
grip_of_write : (k i : ℕ) (m : WriteState) (o : Option Reply) → grip_by (stage_by_refusal k m o) i ≡ Some (locked_grip k i)
grip_of_write k i m None = refl
grip_of_write k i m (Some reply) = refl

-- what a longer length adds at once, where it is not refused
few_added : (form : Form) (old n : ℕ) → extension_refusal form old n ≡ None → n - old ≤ 3072
few_added form old n none = by_long (ltb (old + transfer_limit) n) refl none
  where
    by_long : (b : Bool) → ltb (old + transfer_limit) n ≡ b → cond b (Some TooLong) (cond (ltb (greatest_size form) n) (Some TooBig) None) ≡ None → n - old ≤ 3072
    by_long true is none = absurd (cc none)
    by_long false is none = let few = ltb-false (old + transfer_limit) n is in omega (arith, few)

-- where a length leads: behind the file's end, or not
abbrev stage_by_length : ℕ → ℕ → Dinode → ℕ → Extent → Bool → Stage
stage_by_length k i d n e b = cond b (stage_of_addition k i d n e) (Stage.Setting k (with_value d (Size n)) (first_update i))

-- and so has what sets an attribute
grip_of_length : (k i j : ℕ) (d : Dinode) (n : ℕ) (e : Extent) (b : Bool) → grip_by (stage_by_length k j d n e b) i ≡ Some (locked_grip k i)
grip_of_length k i j d n e true = grip_of_write k i (first_write j d d.size (n - d.size) e) (extension_refusal e.form d.size n)
grip_of_length k i j d n e false = refl

-- and so where any operation goes at its turn
pub grip_at_turn : (c : Extent) (d : Dinode) (k i : ℕ) (op : Op) (used : Bool) → grip_by (stage_when_taken c (if_used used d) k op) i ≡ Some (locked_grip k i)
grip_at_turn c d k i op false = refl
grip_at_turn c d k i (Create kind) true = refl
grip_at_turn c d k i (Write j off bytes) true = grip_of_write k i (first_write j d off (length bytes) c) (write_refusal c.form d off (length bytes))
grip_at_turn c d k i (Read j off n) true = grip_of_read k i (first_read c.form d off n)
grip_at_turn c d k i (Trunc j) true = refl
grip_at_turn c d k i (Remove j) true = refl
grip_at_turn c d k i (Stat j) true = refl
grip_at_turn c d k i (SetAttribute j (Links n)) true = refl
grip_at_turn c d k i (SetAttribute j (Size n)) true = grip_of_length k i j d n c (ltb d.size n)

slot_of_read : (form : Form) (d : Dinode) (k off n : ℕ) (o : Option ReadState) → first_read form d off n ≡ o → (m : ReadState) → o ≡ Some m → slot_in m.target ≡ None
slot_of_read form d k off n o first m is = ap slot_in (begins form d off n m (first ∙ is)).target ∙ first_slot form d (off / 1024)

-- an inode that is taken names no more blocks than a file may have
abbrev pub HasFewAtTurn : Image → Dinode → Type 0
HasFewAtTurn x d = blocks_left x (held_at_turn d true) ≤ most_left (form_of x)

left_of_read : (x : Image) (form : Form) (d : Dinode) (k off n c : ℕ) (o : Option ReadState) → n ≤ 3072 → first_read form d off n ≡ o → steps_left x (stage_of_read k o) c ≤ 55
left_of_read x form d k off n c None few first = omega arith
left_of_read x form d k off n c (Some m) few first = let at = few_reads form d off n m few first in omega (arith, at)

left_of_trunc : (x : Image) (form : Form) (b c : ℕ) (d : Dinode) (k j : ℕ) (removes : Bool) → HasFewAtTurn x d → steps_left x (Stage.Truncating k (first_freeing (first_trunc j d form removes b))) c ≤ most_behind (form_of x) + 1
left_of_trunc x form b c d k j removes few =
    omega (arith, (few_frees x (first_freeing (first_trunc j d form removes b)) (omega (arith, (ap (blocks_left x) (first_held j d form removes b)), few))))

left_of_write : (x : Image) (c k i : ℕ) (d : Dinode) (off n : ℕ) (e : Extent) (o : Option Reply) → (o ≡ None → n ≤ 3072) → steps_left x (stage_by_refusal k (first_write i d off n e) o) c ≤ 100
left_of_write x c k i d off n e None few =
    let m : WriteState = first_write i d off n e in
    omega (arith, ((fresh_next m i d off n e).steps), (branch_shallow e.form (off / 1024)), (writes_most e.form (blocks_behind m)), (few refl))
left_of_write x c k i d off n e (Some reply) few = omega arith

left_of_length : (x : Image) (c k i : ℕ) (d : Dinode) (n : ℕ) (e : Extent) (b : Bool) → steps_left x (stage_by_length k i d n e b) c ≤ 100
left_of_length x c k i d n e true = left_of_write x c k i d d.size (n - d.size) e (extension_refusal e.form d.size n) (few_added e.form d.size n)
left_of_length x c k i d n e false = omega arith

pub left_at_turn : (x : Image) (d : Dinode) (k n c : ℕ) (e : Extent) (op : Op) (used : Bool) → CanTake n op → (used ≡ true → HasFewAtTurn x d) → steps_left x (stage_when_taken e (if_used used d) k op) c ≤ most_behind (form_of x) + 1
left_at_turn x d k n c e op false can few = omega arith
left_at_turn x d k n c e (Create kind) true can few = omega arith
left_at_turn x d k n c e (Write j off bytes) true can few =
    omega (arith, (left_of_write x c k j d off (length bytes) e (write_refusal e.form d off (length bytes)) (λ none. can.1)), (most_elsewhere (form_of x)))
left_at_turn x d k n c e (Read j off count) true can few =
    omega (arith, (left_of_read x e.form d k off count c (first_read e.form d off count) can.1 refl), (most_elsewhere (form_of x)))
left_at_turn x d k n c e (Trunc j) true can few = left_of_trunc x e.form e.bitmap c d k j false (few refl)
left_at_turn x d k n c e (Remove j) true can few = left_of_trunc x e.form e.bitmap c d k j true (few refl)
left_at_turn x d k n c e (Stat j) true can few = omega arith
left_at_turn x d k n c e (SetAttribute j (Links v)) true can few = omega (arith, (most_elsewhere (form_of x)))
left_at_turn x d k n c e (SetAttribute j (Size v)) true can few =
    omega (arith, (left_of_length x c k j d v e (ltb d.size v)), (most_elsewhere (form_of x)))

-- it holds no other number
none_of_read : (k j : ℕ) (op : Option Op) (o : Option ReadState) → claim_by op (stage_of_read k o) j ≡ None
none_of_read k j op None = refl
none_of_read k j op (Some m) = refl

none_of_write : (k i j : ℕ) (op : Option Op) (d : Dinode) (off n : ℕ) (e : Extent) (o : Option Reply) → j ≢ i → claim_by op (stage_by_refusal k (first_write i d off n e) o) j ≡ None
none_of_write k i j op d off n e None other = rw (ne_eqb i j (λ same. other (sym same))) refl
none_of_write k i j op d off n e (Some reply) other = refl

none_of_trunc : (i j : ℕ) (form : Form) (d : Dinode) (removes : Bool) (b : ℕ) → j ≢ i → (let m = first_trunc i d form removes b in let none : Option Claim = cond (eqb m.number j) (Some (frees (held_of m))) None in none) ≡ None
none_of_trunc i j form d removes b other = rw (ne_eqb (first_trunc i d form removes b).number j (λ same. other (sym same ∙ first_number i d form removes b))) refl

none_of_length : (k i j : ℕ) (op : Option Op) (d : Dinode) (n : ℕ) (e : Extent) (b : Bool) → j ≢ i → claim_by op (stage_by_length k i d n e b) j ≡ None
none_of_length k i j op d n e true other = none_of_write k i j op d d.size (n - d.size) e (extension_refusal e.form d.size n) other
none_of_length k i j op d n e false other = rw (ne_eqb i j (λ same. other (sym same))) refl

pub claims_at_turn : (o : Option Op) (c : Extent) (d : Dinode) (k : ℕ) (op : Op) (used : Bool) (j : ℕ) → j ≢ asked op → claim_by o (stage_when_taken c (if_used used d) k op) j ≡ None
claims_at_turn o c d k op false j other = refl
claims_at_turn o c d k (Create kind) true j other = refl
claims_at_turn o c d k (Write i off bytes) true j other = none_of_write k i j o d off (length bytes) c (write_refusal c.form d off (length bytes)) other
claims_at_turn o c d k (Read i off n) true j other = none_of_read k j o (first_read c.form d off n)
claims_at_turn o c d k (Trunc i) true j other = none_of_trunc i j c.form d false c.bitmap other
claims_at_turn o c d k (Remove i) true j other = none_of_trunc i j c.form d true c.bitmap other
claims_at_turn o c d k (Stat i) true j other = refl
claims_at_turn o c d k (SetAttribute i (Links n)) true j other = rw (ne_eqb i j (λ same. other (sym same))) refl
claims_at_turn o c d k (SetAttribute i (Size n)) true j other = none_of_length k i j o d n c (ltb d.size n) other

claim_at_turn : (form : Form) (b : ℕ) (d : Dinode) (k i : ℕ) (removes : Bool) → claim_by None (Stage.Truncating k (first_freeing (first_trunc i d form removes b))) i ≡ Some (frees (held_at_turn d removes))
claim_at_turn form b d k i removes =
    rw (eq-eqb (first_trunc i d form removes b).number i (first_number i d form removes b)) (ap (λ (h : Held). Some (frees h)) (first_held i d form removes b))

-- nothing is got there
stands_of_read : (b : Buffers) (l : LogState) (n p : ℕ) (t : Option Op) (form : Form) (d : Dinode) (k off count : ℕ) (o : Option ReadState) → first_read form d off count ≡ o → Stands b l n p t (stage_of_read k o)
stands_of_read b l n p t form d k off count None first = tt
stands_of_read b l n p t form d k off count (Some m) first = subst (λ (s : Option ℕ). HoldsAt b p (block_of m.target) s) (sym (slot_of_read form d k off count (Some m) first m refl)) tt

-- a write that begins has logged nothing, and got nothing
stands_of_write : (b : Buffers) (l : LogState) (n p : ℕ) (t : Option Op) (k i : ℕ) (d : Dinode) (off count : ℕ) (e : Extent) (o : Option Reply) → used_by l p ≡ Some 0
    → Stands b l n p t (stage_by_refusal k (first_write i d off count e) o)
stands_of_write b l n p t k i d off count e None used =
    let m : WriteState = first_write i d off count e in
    let fresh = fresh_next m i d off count e in
    record {
      logged = record { homes = 0; used = used };
      kept = subst (λ (s : Option ℕ). HoldsAt b p (node_of_write m.at) s) (sym fresh.kept) tt;
      used = subst (λ (s : Option ℕ). HoldsAt b p (block_of_write m.at) s) (sym fresh.used) tt;
    }
stands_of_write b l n p t k i d off count e (Some reply) used = tt

stands_of_length : (b : Buffers) (l : LogState) (c p : ℕ) (t : Option Op) (k i : ℕ) (d : Dinode) (n : ℕ) (e : Extent) (longer : Bool) → used_by l p ≡ Some 0
    → Stands b l c p t (stage_by_length k i d n e longer)
stands_of_length b l c p t k i d n e true used = stands_of_write b l c p t k i d d.size (n - d.size) e (extension_refusal e.form d.size n) used
stands_of_length b l c p t k i d n e false used = record { used = used; holds = tt }

pub stands_at_turn : (b : Buffers) (l : LogState) (n p : ℕ) (t : Option Op) (c : Extent) (d : Dinode) (k : ℕ) (op : Op) (used : Bool) → CanTake n op → IsOpenFor l p (Some op) → Stands b l n p t (stage_when_taken c (if_used used d) k op)
stands_at_turn b l n p t c d k op false can open_for = tt
stands_at_turn b l n p t c d k (Create kind) true can open_for = tt
stands_at_turn b l n p t c d k (Write i off bytes) true can open_for = stands_of_write b l n p t k i d off (length bytes) c (write_refusal c.form d off (length bytes)) open_for
stands_at_turn b l n p t c d k (Read i off count) true can open_for = stands_of_read b l n p t c.form d k off count (first_read c.form d off count) refl
stands_at_turn b l n p t c d k (Trunc i) true can open_for = record { logged = inl open_for; holds = holds_kept b p (first_freeing (first_trunc i d c.form false c.bitmap)) refl tt tt }
stands_at_turn b l n p t c d k (Remove i) true can open_for = record { logged = inl open_for; holds = holds_kept b p (first_freeing (first_trunc i d c.form true c.bitmap)) refl tt tt }
stands_at_turn b l n p t c d k (Stat i) true can open_for = tt
stands_at_turn b l n p t c d k (SetAttribute i (Links v)) true can open_for = record { used = open_for; holds = tt }
stands_at_turn b l n p t c d k (SetAttribute i (Size v)) true can open_for = stands_of_length b l n p t k i d v c (ltb d.size v) open_for

-- and so it has room in the log
logged_of_write : (x : Image) (l : LogState) (p k i : ℕ) (d : Dinode) (off count : ℕ) (e : Extent) (o : Option Reply) → (o ≡ None → count ≤ 3072) → used_by l p ≡ Some 0
    → LoggedAt x l p (stage_by_refusal k (first_write i d off count e) o)
logged_of_write x l p k i d off count e None few open_for = λ homes used.
    let m : WriteState = first_write i d off count e in
    let blocks = (fresh_next m i d off count e).blocks in
    let zero : homes ≡ 0 = (let both : Some homes ≡ Some 0 = sym used ∙ open_for in cc both) in
    omega (arith, (few refl), blocks, zero)
logged_of_write x l p k i d off count e (Some reply) few open_for = tt

logged_of_read : (x : Image) (l : LogState) (p k : ℕ) (o : Option ReadState) → LoggedAt x l p (stage_of_read k o)
logged_of_read x l p k None = tt
logged_of_read x l p k (Some m) = tt

logged_of_length : (x : Image) (l : LogState) (p k i : ℕ) (d : Dinode) (n : ℕ) (e : Extent) (longer : Bool) → used_by l p ≡ Some 0 → LoggedAt x l p (stage_by_length k i d n e longer)
logged_of_length x l p k i d n e true open_for =
    logged_of_write x l p k i d d.size (n - d.size) e (extension_refusal e.form d.size n) (few_added e.form d.size n) open_for
logged_of_length x l p k i d n e false open_for = tt

pub logged_at_turn : (x : Image) (l : LogState) (n p : ℕ) (c : Extent) (d : Dinode) (k : ℕ) (op : Op) (used : Bool) → CanTake n op → IsOpenFor l p (Some op) → LoggedAt x l p (stage_when_taken c (if_used used d) k op)
logged_at_turn x l n p c d k op false can open_for = tt
logged_at_turn x l n p c d k (Create kind) true can open_for = tt
logged_at_turn x l n p c d k (Write i off bytes) true can open_for = logged_of_write x l p k i d off (length bytes) c (write_refusal c.form d off (length bytes)) (λ none. can.1) open_for
logged_at_turn x l n p c d k (Read i off count) true can open_for = logged_of_read x l p k (first_read c.form d off count)
logged_at_turn x l n p c d k (Trunc i) true can open_for = tt
logged_at_turn x l n p c d k (Remove i) true can open_for = tt
logged_at_turn x l n p c d k (Stat i) true can open_for = tt
logged_at_turn x l n p c d k (SetAttribute i (Links v)) true can open_for = tt
logged_at_turn x l n p c d k (SetAttribute i (Size v)) true can open_for = logged_of_length x l p k i d v c (ltb d.size v) open_for

-- in a store whose process p takes its inode, which the image has as d
module _ {D N : Type 0} {disk : Ghosts D N} {s : StoreState D} {p : ℕ} {op : Op} {m : LockState} (h : StandsAt disk s p (Stage.Taking m)) (is_op : (task s.tasks p).op ≡ Some op)
    (alone : (q k : ℕ) → q ≢ p → grip_of (task s.tasks q) ≡ Some (locked_grip k m.number) → ⊥) where
  abbrev cur : Image
  cur = current_of disk.image s.volume

  abbrev inode : Dinode
  inode = inode_of cur m.number

  room : HasRoom op (task s.tasks p).gathered
  room = subst (λ (q : Op). HasRoom q (task s.tasks p).gathered) (same_op h is_op) (taking h is_op).room

  can : CanTake s.table.inode_count op
  can = can_take h is_op

  asks : m.number ≡ asked op
  asks = number h is_op

  -- nobody holds its number
  pub holds_alone : HoldsAlone s.tasks p m.number
  holds_alone = holds_alone_of cur s.table s.tasks (looking h is_op) p m.number alone

  pub holds_nothing : (j : ℕ) → claim_of (task s.tasks p) j ≡ None
  holds_nothing j = ap (λ (a : Stage). claim_by (task s.tasks p).op a j) h.stood

  none : claims_of s.tasks m.number ≡ None
  none = none_held s.tasks m.number (λ q. ⊎_elim
      (λ (same : q ≡ p). ap (λ (r : ℕ). claim_of (task s.tasks r) m.number) same ∙ holds_nothing m.number)
      (λ (apart : q ≢ p). holds_alone q apart)
      (cases_eq q p))

  may : inode.kind ≢ 0 → MayRead cur inode
  may used = let files = (looking h is_op).files in resting_may_be_read files.0 cur (claims_of s.tasks) m.number files.1 (may_name_now h is_op, used) none

  -- a used inode's file may be read
  pub readable : (used : Bool) → (used ≡ true → inode.kind ≢ 0) → IsReadable s.table.form (if_used used inode)
  readable true is_used =
      let read = may (is_used refl) in
      (read.fit.fields.count, omega (arith, read.fit.size, (ap greatest_size h.is.form)))
  readable false is_used = tt

  -- and it has few blocks to give up
  pub few_at_turn : inode.kind ≢ 0 → HasFewAtTurn cur inode
  few_at_turn used =
      let files = (looking h is_op).files in
      let names = may_name_now h is_op in
      let held = held_at_turn inode true in
      let now = with_claim_is (claims_of s.tasks) m.number (Some (frees held)) in
      let new = with_claim (claims_of s.tasks) m.number (Some (frees held)) in
      let holds = turn_holds files.0 cur (claims_of s.tasks) new m.number 0 (0 ∷ []) files.1 (names, used) none (inl refl) (begun_left cur inode) now in
      few_left (set files.0 m.number (file_left 0 inode.nlink)) cur new m.number held (record { fits = holds.fits; number = names; holds = now.own })

  -- where blocks are taken
  abbrev extent : Extent
  extent = extent_of s.table.form s.table.inode_count s.volume.log.size

  -- the bytes of the largest file
  abbrev most : ℕ
  most = greatest_size s.table.form

  size : s.volume.log.size ≡ length cur
  size = let long = length-current (disk.image s.volume.device) s.volume.buffers in sym (long ∙ h.joint.size)

  -- the files are then what the reply says
  module _ (t : StoreState D) (u : TaskState) (k : ℕ) (tasks : t.tasks ≡ set s.tasks p u) (current : current_of disk.image t.volume ≡ cur)
      (same : claim_of u m.number ≡ None → (files : Files) → FitsFiles disk.image s files → FitsFiles disk.image t files) where
    fits_then : (files : Files) → FitsHeld files cur (claims_of (set s.tasks p u)) → FitsFiles disk.image t files
    unfolding FitsFiles
    fits_then files fits = subst (λ (x : Image). FitsHeld files x (claims_of t.tasks)) (sym current) (subst (λ (ts : List TaskState). FitsHeld files cur (claims_of ts)) (sym tasks) fits)

    fits_before : (files : Files) → FitsFiles disk.image s files → FitsHeld files cur (claims_of s.tasks)
    unfolding FitsFiles
    fits_before files fits = fits

    -- the number is held now
    begins_freeing : (removes : Bool) → u.stage ≡ Stage.Truncating k (first_freeing (first_trunc m.number inode s.table.form removes extent.bitmap)) → inode.kind ≢ 0 → (files : Files) → FitsHeld files cur (claims_of s.tasks)
        → FitsFiles disk.image t (set files m.number (file_left (cond removes 0 inode.kind) inode.nlink))
    begins_freeing removes there used files fits =
        let own : claim_of u m.number ≡ Some (frees (held_at_turn inode removes)) = ap (λ (a : Stage). claim_by u.op a m.number) there ∙ claim_at_turn s.table.form extent.bitmap inode k m.number removes in
        let others : (j : ℕ) → j ≢ m.number → claim_of u j ≡ claim_of (task s.tasks p) j = λ j other. ap (λ (a : Stage). claim_by u.op a j) there ∙ none_of_trunc m.number j s.table.form inode removes extent.bitmap other ∙ sym (holds_nothing j) in
        let now : IsClaimedNow (claims_of s.tasks) m.number (Some (frees (held_at_turn inode removes))) (claims_of (set s.tasks p u)) =
        subst (λ (o : Option Claim). IsClaimedNow (claims_of s.tasks) m.number o (claims_of (set s.tasks p u))) own (claimed_now s.tasks p m.number u h.inside holds_alone others) in
        fits_then (set files m.number (file_left (cond removes 0 inode.kind) inode.nlink))
        (turn_holds files cur (claims_of s.tasks) (claims_of (set s.tasks p u)) m.number (cond removes 0 inode.kind) (0 ∷ []) fits (may_name_now h is_op, used) none (last removes) (begun_left cur inode) now).fits
      where
        last : (b : Bool) → (cond b 0 inode.kind ≡ 0) ⊎ (cond b 0 inode.kind ≡ inode.kind)
        last true = inl refl
        last false = inr refl

    -- so it is by the writing of its bytes, which begins with none
    begins_growing : (i off count : ℕ) → i ≡ m.number → u.stage ≡ Stage.Writing k (first_write i inode off count extent) → inode.kind ≢ 0 → off ≤ inode.size → (is_addition u.op ≡ true → inode.size ≤ off)
        → (files : Files) → FitsFiles disk.image s files → FitsFiles disk.image t files
    begins_growing i off count same_number there used within ends files fits =
        let w : WriteState = first_write i inode off count extent in
        let g : Growth = beginning inode off (is_addition u.op) in
        let grown : growth_of w u.op ≡ g = ap (λ (o : Option ℕ). record { copy = inode; taken = o; offset = off; at_end = is_addition u.op; written = [] }) (fresh_next w i inode off count extent).taken in
        let own : claim_of u m.number ≡ Some (grows g) =
        ap (λ (a : Stage). claim_by u.op a m.number) there ∙ ap (λ (j : ℕ). claim_by u.op (Stage.Writing k w) j) (sym same_number) ∙ own_grows u.op k w ∙ ap (λ (h : Growth). Some (grows h)) grown in
        let others : (j : ℕ) → j ≢ m.number → claim_of u j ≡ claim_of (task s.tasks p) j =
        λ j other. ap (λ (a : Stage). claim_by u.op a j) there ∙ rw (ne_eqb i j (λ e. other (sym e ∙ same_number))) refl ∙ sym (holds_nothing j) in
        let now : IsClaimedNow (claims_of s.tasks) m.number (Some (grows g)) (claims_of (set s.tasks p u)) =
        subst (λ (o : Option Claim). IsClaimedNow (claims_of s.tasks) m.number o (claims_of (set s.tasks p u))) own (claimed_now s.tasks p m.number u h.inside holds_alone others) in
        fits_then files
        (turn_grows files cur (claims_of s.tasks) (claims_of (set s.tasks p u)) m.number off (is_addition u.op) (fits_before files fits) (may_name_now h is_op, used) none within ends now).fits

    -- and by the writing back of its inode with an attribute
    begins_setting : (i : ℕ) (v : Attribute) → IsAllowed inode v → i ≡ m.number → u.stage ≡ Stage.Setting k (with_value inode v) (first_update i) → inode.kind ≢ 0 → (files : Files) → FitsHeld files cur (claims_of s.tasks)
        → FitsFiles disk.image t (files_set files cur m.number v)
    begins_setting i v allowed same_number there used files fits =
        let d : Dinode = with_value inode v in
        let own : claim_of u m.number ≡ Some (grows (unwritten d)) =
        ap (λ (a : Stage). claim_by u.op a m.number) there ∙ ap (λ (j : ℕ). claim_by u.op (Stage.Setting k d (first_update i)) j) (sym same_number) ∙ own_setting u.op k d (first_update i) in
        let others : (j : ℕ) → j ≢ m.number → claim_of u j ≡ claim_of (task s.tasks p) j =
        λ j other. ap (λ (a : Stage). claim_by u.op a j) there ∙ rw (ne_eqb i j (λ e. other (sym e ∙ same_number))) refl ∙ sym (holds_nothing j) in
        let now : IsClaimedNow (claims_of s.tasks) m.number (Some (grows (unwritten d))) (claims_of (set s.tasks p u)) =
        subst (λ (o : Option Claim). IsClaimedNow (claims_of s.tasks) m.number o (claims_of (set s.tasks p u))) own (claimed_now s.tasks p m.number u h.inside holds_alone others) in
        fits_then (files_set files cur m.number v)
        (turn_sets files cur (claims_of s.tasks) (claims_of (set s.tasks p u)) m.number v fits (may_name_now h is_op, used) none allowed now).fits

    -- an attribute that the inode can get is set
    sets_turn : (i : ℕ) (v : Attribute) → IsAllowed inode v → i ≡ m.number → u.stage ≡ Stage.Setting k (with_value inode v) (first_update i) → inode.kind ≢ 0 → (files : Files) → FitsFiles disk.image s files
        → TurnsTo (form_of cur) (SetAttribute i v) (Some Done) files (FitsFiles disk.image t)
    sets_turn i v allowed same_number there used files fits =
        let before = fits_before files fits in (
          files_set files cur m.number v,
          subst (λ (j : ℕ). after (form_of cur) files (SetAttribute j v) Done ≡ Some (files_set files cur m.number v)) (sym same_number)
              (set_answers files cur (claims_of s.tasks) m.number v before (may_name_now h is_op, used) none allowed),
          begins_setting i v allowed same_number there used files before,
        )

    -- zeroes are written behind the file's end, or the length is refused
    adds_turn : (i n : ℕ) → i ≡ m.number → inode.kind ≢ 0 → (files : Files) → FitsFiles disk.image s files → inode.size < n
        → (a : Bool) → ltb (inode.size + transfer_limit) n ≡ a → (b : Bool) → ltb most n ≡ b
        → u.stage ≡ stage_by_refusal k (first_write i inode inode.size (n - inode.size) extent) (cond a (Some TooLong) (cond b (Some TooBig) None))
        → TurnsTo (form_of cur) (SetAttribute i (Size n)) (cond a (Some TooLong) (cond b (Some TooBig) None)) files (FitsFiles disk.image t)
    adds_turn i n same_number used files fits longer true many b big there = (
      files,
      subst (λ (j : ℕ). after (form_of cur) files (SetAttribute j (Size n)) TooLong ≡ Some files) (sym same_number)
          ((set_refuses files cur (claims_of s.tasks) m.number n (fits_before files fits) (may_name_now h is_op, used) none longer).0 (ltb-true (inode.size + transfer_limit) n many)),
      same (ap (λ (a : Stage). claim_by u.op a m.number) there) files fits,
    )
    adds_turn i n same_number used files fits longer false many true big there =
        let same_size : greatest_size (form_of cur) ≡ most = ap greatest_size (sym h.is.form) in (
          files,
          subst (λ (j : ℕ). after (form_of cur) files (SetAttribute j (Size n)) TooBig ≡ Some files) (sym same_number)
              ((set_refuses files cur (claims_of s.tasks) m.number n (fits_before files fits) (may_name_now h is_op, used) none longer).1 (ltb-false (inode.size + transfer_limit) n many)
              (subst (λ (g : ℕ). g < n) (sym same_size) (ltb-true most n big))),
          same (ap (λ (a : Stage). claim_by u.op a m.number) there) files fits,
        )
    adds_turn i n same_number used files fits longer false many false big there =
        begins_growing i inode.size (n - inode.size) same_number there used (omega arith) (λ is. omega arith) files fits

    size_turn : (i n : ℕ) → i ≡ m.number → inode.kind ≢ 0 → (files : Files) → FitsFiles disk.image s files → (b : Bool) → ltb inode.size n ≡ b
        → u.stage ≡ stage_by_length k i inode n extent b
        → TurnsTo (form_of cur) (SetAttribute i (Size n)) (cond b (extension_refusal s.table.form inode.size n) (Some Done)) files (FitsFiles disk.image t)
    size_turn i n same_number used files fits true longer there =
        adds_turn i n same_number used files fits (ltb-true inode.size n longer) (ltb (inode.size + transfer_limit) n) refl (ltb most n) refl there
    size_turn i n same_number used files fits false within there =
        sets_turn i (Size n) (ltb-false inode.size n within) same_number there used files fits

    attribute_turn : (i : ℕ) (v : Attribute) → FitsField v → i ≡ m.number → inode.kind ≢ 0 → (files : Files) → FitsFiles disk.image s files → u.stage ≡ stage_of_attribute k i inode v extent
        → TurnsTo (form_of cur) (SetAttribute i v) (reply_of_attribute s.table.form inode v) files (FitsFiles disk.image t)
    attribute_turn i (Links n) few same_number used files fits there = sets_turn i (Links n) few same_number there used files fits
    attribute_turn i (Size n) few same_number used files fits there = size_turn i n same_number used files fits (ltb inode.size n) refl there

    -- a write is refused, or begins
    write_turn : (i off : ℕ) (bytes : List ℕ) → u.op ≡ Some (Write i off bytes) → length bytes ≤ transfer_limit → i ≡ m.number → inode.kind ≢ 0 → (files : Files) → FitsFiles disk.image s files
        → (a : Bool) → ltb inode.size off ≡ a → (b : Bool) → ltb most (off + length bytes) ≡ b
        → u.stage ≡ stage_by_refusal k (first_write i inode off (length bytes) extent) (write_refusal s.table.form inode off (length bytes))
        → TurnsTo (form_of cur) (Write i off bytes) (write_refusal s.table.form inode off (length bytes)) files (FitsFiles disk.image t)
    write_turn i off bytes asked_so few same_number used files fits true behind b big there =
        let says : write_refusal s.table.form inode off (length bytes) ≡ Some BadOffset = rw behind refl in
        subst (λ (o : Option Reply). TurnsTo (form_of cur) (Write i off bytes) o files (FitsFiles disk.image t)) (sym says) (
          files,
          subst (λ (j : ℕ). after (form_of cur) files (Write j off bytes) BadOffset ≡ Some files) (sym same_number)
              ((resting_refuses files cur (claims_of s.tasks) m.number off bytes (fits_before files fits) (may_name_now h is_op, used) none few).0 (ltb-true inode.size off behind)),
          same (ap (λ (a : Stage). claim_by u.op a m.number) (there ∙ ap (stage_by_refusal k (first_write i inode off (length bytes) extent)) says)) files fits,
        )
    write_turn i off bytes asked_so few same_number used files fits false behind true big there =
        let says : write_refusal s.table.form inode off (length bytes) ≡ Some TooBig = rw (behind, big) refl in
        let same_size : greatest_size (form_of cur) ≡ most = ap greatest_size (sym h.is.form) in
        subst (λ (o : Option Reply). TurnsTo (form_of cur) (Write i off bytes) o files (FitsFiles disk.image t)) (sym says) (
          files,
          subst (λ (j : ℕ). after (form_of cur) files (Write j off bytes) TooBig ≡ Some files) (sym same_number)
              ((resting_refuses files cur (claims_of s.tasks) m.number off bytes (fits_before files fits) (may_name_now h is_op, used) none few).1 (ltb-false inode.size off behind)
              (subst (λ (n : ℕ). n < off + length bytes) (sym same_size) (ltb-true most (off + length bytes) big))),
          same (ap (λ (a : Stage). claim_by u.op a m.number) (there ∙ ap (stage_by_refusal k (first_write i inode off (length bytes) extent)) says)) files fits,
        )
    write_turn i off bytes asked_so few same_number used files fits false behind false big there =
        let says : write_refusal s.table.form inode off (length bytes) ≡ None = rw (behind, big) refl in
        subst (λ (o : Option Reply). TurnsTo (form_of cur) (Write i off bytes) o files (FitsFiles disk.image t)) (sym says)
        (begins_growing i off (length bytes) same_number (there ∙ ap (stage_by_refusal k (first_write i inode off (length bytes) extent)) says) used (ltb-false inode.size off behind)
        (λ adds. absurd (false≢true (sym (ap is_addition asked_so) ∙ adds))) files fits)

    used_turn : (q : Op) → u.op ≡ Some q → CanTake s.table.inode_count q → m.number ≡ asked q → u.stage ≡ stage_of_look extent inode k q → inode.kind ≢ 0 → (files : Files) → FitsFiles disk.image s files
        → TurnsTo (form_of cur) q (reply_of_look s.table.form inode q) files (FitsFiles disk.image t)
    used_turn (Create kind) asked_so allowed named there used files fits = absurd allowed
    used_turn (Write i off bytes) asked_so allowed named there used files fits =
        write_turn i off bytes asked_so allowed.1 (sym named) used files fits (ltb inode.size off) refl (ltb most (off + length bytes)) refl there
    used_turn (Read i off n) asked_so allowed named there used files fits = same (ap (λ (a : Stage). claim_by u.op a m.number) there ∙ none_of_read k m.number u.op (first_read s.table.form inode off n)) files fits
    used_turn (Trunc i) asked_so allowed named there used files fits =
        let before = fits_before files fits in (
          set files m.number (file_left inode.kind inode.nlink),
          subst (λ (j : ℕ). after (form_of cur) files (Trunc j) Done ≡ Some (set files m.number (file_left inode.kind inode.nlink))) named
              (turn_answers files cur (claims_of s.tasks) m.number before (may_name_now h is_op, used) none).0,
          begins_freeing false (there ∙ ap (λ (j : ℕ). Stage.Truncating k (first_freeing (first_trunc j inode s.table.form false extent.bitmap))) (sym named)) used files before,
        )
    used_turn (Remove i) asked_so allowed named there used files fits =
        let before = fits_before files fits in (
          set files m.number None,
          subst (λ (j : ℕ). after (form_of cur) files (Remove j) Done ≡ Some (set files m.number None)) named
              (turn_answers files cur (claims_of s.tasks) m.number before (may_name_now h is_op, used) none).1,
          begins_freeing true (there ∙ ap (λ (j : ℕ). Stage.Truncating k (first_freeing (first_trunc j inode s.table.form true extent.bitmap))) (sym named)) used files before,
        )
    used_turn (Stat i) asked_so allowed named there used files fits = (
      files,
      subst (λ (j : ℕ). after (form_of cur) files (Stat j) (StatOf inode.kind inode.nlink inode.size) ≡ Some files) named
          (resting_tells files cur (claims_of s.tasks) m.number (fits_before files fits) (may_name_now h is_op, used) none).stat,
      same (ap (λ (a : Stage). claim_by u.op a m.number) there) files fits,
    )
    used_turn (SetAttribute i v) asked_so allowed named there used files fits = attribute_turn i v allowed.1 (sym named) used files fits there

    free_turn : (q : Op) → CanTake s.table.inode_count q → m.number ≡ asked q → u.stage ≡ Stage.Leaving k → inode.kind ≡ 0 → (files : Files) → FitsFiles disk.image s files
        → TurnsTo (form_of cur) q (Some NoFile) files (FitsFiles disk.image t)
    free_turn q allowed named there free files fits = (
      files,
      by_op q allowed named,
      same (ap (λ (a : Stage). claim_by u.op a m.number) there) files fits,
    )
      where
        tells : AnswersNoFile (form_of cur) files m.number
        tells = (free_tells files cur (claims_of s.tasks) m.number (fits_before files fits) (may_name_now h is_op, free)).1

        by_op : (o : Op) → CanTake s.table.inode_count o → m.number ≡ asked o → after (form_of cur) files o NoFile ≡ Some files
        by_op (Create kind) can_it named_it = absurd can_it
        by_op (Write i off bytes) can_it named_it = subst (λ (j : ℕ). after (form_of cur) files (Write j off bytes) NoFile ≡ Some files) named_it (tells.write off bytes can_it.1)
        by_op (Read i off n) can_it named_it = subst (λ (j : ℕ). after (form_of cur) files (Read j off n) NoFile ≡ Some files) named_it (tells.read off n can_it.1)
        by_op (Trunc i) can_it named_it = subst (λ (j : ℕ). after (form_of cur) files (Trunc j) NoFile ≡ Some files) named_it tells.trunc
        by_op (Remove i) can_it named_it = subst (λ (j : ℕ). after (form_of cur) files (Remove j) NoFile ≡ Some files) named_it tells.remove
        by_op (Stat i) can_it named_it = subst (λ (j : ℕ). after (form_of cur) files (Stat j) NoFile ≡ Some files) named_it tells.stat
        by_op (SetAttribute i a) can_it named_it = subst (λ (j : ℕ). after (form_of cur) files (SetAttribute j a) NoFile ≡ Some files) named_it (tells.attribute a)

    pub files_at_turn : (used : Bool) → (used ≡ true → inode.kind ≢ 0) → (used ≡ false → inode.kind ≡ 0) → u.op ≡ Some op → u.stage ≡ stage_when_taken extent (if_used used inode) k op → (files : Files) → FitsFiles disk.image s files
        → TurnsTo (form_of cur) op (reply_when_taken s.table.form (if_used used inode) op) files (FitsFiles disk.image t)
    files_at_turn true is_used is_free has there files fits = used_turn op has can asks there (is_used refl) files fits
    files_at_turn false is_used is_free has there files fits = free_turn op can asks there (is_free refl) files fits

  -- and what is true of its task
  module _ (tab : TableState) (k : ℕ) (count : tab.inode_count ≡ s.table.inode_count) where
    answered : (u : TaskState) → u.op ≡ Some op → WasAnswered tab.inode_count u
    answered u has = record { op = op; is = has; can = subst (λ (n : ℕ). CanTake n op) (sym count) can }

    reads : (off n i : ℕ) → op ≡ Read i off n → (o : Option ReadState) → first_read s.table.form inode off n ≡ o → inode.kind ≢ 0 → copy_at tab.places k ≡ Some inode
        → (u : TaskState) → u.op ≡ Some op → u.gathered ≡ (task s.tasks p).gathered → LooksAt cur tab u (stage_of_read k o)
    reads off n i here o first used copy u has gathered = by_first o first
      where
        its : IsRead tab.inode_count u
        its = record {
          number = i;
          offset = off;
          count = n;
          is = has ∙ ap Some here;
          may = subst (λ (c : ℕ). CanLook c (Read i off n)) (sym count) (subst (CanTake s.table.inode_count) here can);
          gathered = record { bytes = []; room = n };
          has = gathered ∙ subst (λ (q : Op). HasRoom q (task s.tasks p).gathered) here room;
        }

        by_first : (q : Option ReadState) → first_read s.table.form inode off n ≡ q → LooksAt cur tab u (stage_of_read k q)
        by_first None none = record { op = its; dinode = inode; copy = copy; bytes = sym (has_none cur s.table.form inode off n (may used) none) }
        by_first (Some r) some = record {
          op = its;
          copy = copy ∙ ap Some (sym (begins s.table.form inode off n r some).inode);
          read = has_begun disk.image s.volume p inode off n r (record { bytes = []; room = n }) (may used) size (subst (λ (f : Form). first_read f inode off n ≡ Some r) h.is.form some) refl;
        }

    truncates : (removes : Bool) (i : ℕ) → op ≡ cond removes (Remove i) (Trunc i) → i ≡ asked op → inode.kind ≢ 0 → (u : TaskState) → u.op ≡ Some op
        → IsTruncating cur tab.inode_count u (first_freeing (first_trunc i inode s.table.form removes extent.bitmap))
    truncates removes i same named used u has =
        let comes = first_comes i inode s.table.form removes extent.bitmap cur h.is.form (may used).fit.fields.count in
        let is_so = address_same (unbegun i inode s.table.form removes extent.bitmap) 0 in
        record {
          op = has ∙ ap Some same ∙ ap (λ (o : Itrunc). Some (trunc_op o)) (sym is_so);
          number = subst (λ (j : ℕ). IsTrue (is_number tab.inode_count j)) (asks ∙ sym named ∙ sym (first_number i inode s.table.form removes extent.bitmap))
              (subst (λ (n : ℕ). IsTrue (is_number n m.number)) (sym count) (may_name h is_op));
          bitmap = ap (λ (o : Itrunc). o.bitmap) is_so ∙ ap bitmap_block (sym count);
          form = ap (λ (o : Itrunc). o.form) is_so ∙ h.is.form;
          slot = comes.slot;
          given = comes.given;
          keeps = comes.keeps no_block_kept refl refl;
        }

    -- the writing of bytes begins
    begins_writing : (i off bytes : ℕ) (q : Op) → op ≡ q → CanTake s.table.inode_count q → IsTrue (is_number s.table.inode_count i) → (w : WriteState) → w ≡ first_write i inode off bytes extent → Writes q w → bytes ≤ 3072
        → off + bytes ≤ most → inode.kind ≢ 0 → (u : TaskState) → u.op ≡ Some op → IsWriting cur tab.inode_count u (first_write i inode off bytes extent)
    begins_writing i off bytes q same may_take number w is writing few fits used u has =
        let first : WriteState = first_write i inode off bytes extent in
        record {
          op = q;
          is = has ∙ ap Some same;
          writes = subst (Writes q) is writing;
          number = subst (λ (c : ℕ). IsTrue (is_number c i)) (sym count) number;
          few = few;
          done = omega arith;
          fits = fits;
          extent = ap (λ (n : ℕ). extent_of s.table.form n s.volume.log.size) (sym count) ∙ ap (extent_of s.table.form tab.inode_count) size
              ∙ ap (λ (f : Form). extent_of f tab.inode_count (length cur)) h.is.form;
          come =
              let here : off + 0 ≡ off = omega arith in
              let all : bytes - 0 ≡ bytes = omega arith in
              subst (λ (j : ℕ). HasComeTo cur first (next_place i inode j bytes extent)) here
              (subst (λ (n : ℕ). HasComeTo cur first (next_place i inode (off + 0) n extent)) all
              (comes_next cur first (sym h.is.form) (may used).fit.fields.count (omega arith) (λ left. next_low first left fits)));
        }

    writes : (i off : ℕ) (bytes : List ℕ) → op ≡ Write i off bytes → inode.kind ≢ 0 → (u : TaskState) → u.op ≡ Some op
        → (a : Bool) → ltb inode.size off ≡ a → (b : Bool) → ltb most (off + length bytes) ≡ b
        → LooksAt cur tab u (stage_by_refusal k (first_write i inode off (length bytes) extent) (cond a (Some BadOffset) (cond b (Some TooBig) None)))
    writes i off bytes same used u has true behind b big = answered u has
    writes i off bytes same used u has false behind true big = answered u has
    writes i off bytes same used u has false behind false big =
        let allowed = subst (CanTake s.table.inode_count) same can in
        begins_writing i off (length bytes) (Write i off bytes) same allowed allowed.0 (first_write i inode off (length bytes) extent) refl (refl, refl, refl) allowed.1 (ltb-false most (off + length bytes) big) used u has

    sets : (i : ℕ) (v : Attribute) → op ≡ SetAttribute i v → (u : TaskState) → u.op ≡ Some op → LooksAt cur tab u (Stage.Setting k (with_value inode v) (first_update i))
    sets i v same u has =
        let may_take : CanTake tab.inode_count (SetAttribute i v) = subst (λ (c : ℕ). CanTake c (SetAttribute i v)) (sym count) (subst (CanTake s.table.inode_count) same can) in
        record { attribute = v; op = has ∙ ap Some same; number = may_take.0; fits = may_take.1 }

    adds : (i n : ℕ) → op ≡ SetAttribute i (Size n) → inode.kind ≢ 0 → (u : TaskState) → u.op ≡ Some op → inode.size < n
        → (a : Bool) → ltb (inode.size + transfer_limit) n ≡ a → (b : Bool) → ltb most n ≡ b
        → LooksAt cur tab u (stage_by_refusal k (first_write i inode inode.size (n - inode.size) extent) (cond a (Some TooLong) (cond b (Some TooBig) None)))
    adds i n same used u has longer true many b big = answered u has
    adds i n same used u has longer false many true big = answered u has
    adds i n same used u has longer false many false big =
        let allowed = subst (CanTake s.table.inode_count) same can in
        let few = ltb-false (inode.size + transfer_limit) n many in
        let fits = ltb-false most n big in
        begins_writing i inode.size (n - inode.size) (SetAttribute i (Size n)) same allowed allowed.0 (first_write i inode inode.size (n - inode.size) extent) refl (refl, (omega (arith, longer), omega (arith, longer)))
        (omega (arith, few)) (omega (arith, fits, longer)) used u has

    lengthens : (i n : ℕ) → op ≡ SetAttribute i (Size n) → inode.kind ≢ 0 → (u : TaskState) → u.op ≡ Some op → (b : Bool) → ltb inode.size n ≡ b
        → LooksAt cur tab u (stage_by_length k i inode n extent b)
    lengthens i n same used u has true longer =
        adds i n same used u has (ltb-true inode.size n longer) (ltb (inode.size + transfer_limit) n) refl (ltb most n) refl
    lengthens i n same used u has false within = sets i (Size n) same u has

    looks_used : (q : Op) → op ≡ q → inode.kind ≢ 0 → copy_at tab.places k ≡ Some inode → (u : TaskState) → u.op ≡ Some op → u.gathered ≡ (task s.tasks p).gathered → LooksAt cur tab u (stage_of_look extent inode k q)
    looks_used (Create kind) same used copy u has gathered = answered u has
    looks_used (Write i off bytes) same used copy u has gathered = writes i off bytes same used u has (ltb inode.size off) refl (ltb most (off + length bytes)) refl
    looks_used (Read i off n) same used copy u has gathered = reads off n i same (first_read s.table.form inode off n) refl used copy u has gathered
    looks_used (Trunc i) same used copy u has gathered = truncates false i same (sym (ap asked same)) used u has
    looks_used (Remove i) same used copy u has gathered = truncates true i same (sym (ap asked same)) used u has
    looks_used (Stat i) same used copy u has gathered = answered u has
    looks_used (SetAttribute i (Links n)) same used copy u has gathered = sets i (Links n) same u has
    looks_used (SetAttribute i (Size n)) same used copy u has gathered = lengthens i n same used u has (ltb inode.size n) refl

    pub looks_at_turn : (used : Bool) → (used ≡ true → inode.kind ≢ 0) → (used ≡ true → copy_at tab.places k ≡ Some inode) → (u : TaskState) → u.op ≡ Some op → u.gathered ≡ (task s.tasks p).gathered
        → LooksAt cur tab u (stage_when_taken extent (if_used used inode) k op)
    looks_at_turn true is_used copy u has gathered = looks_used op refl (is_used refl) (copy refl) u has gathered
    looks_at_turn false is_used copy u has gathered = answered u has
