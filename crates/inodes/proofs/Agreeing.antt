-- One task goes on, and all of them agree with buffers and log as before.
use Rattle.std.proofs.Common.{eqb, cond, Bool, false, ◌≡◌, ◌≤◌, ◌≢◌, ℕ, ◌<◌, inl, inr, true, List, length, set, refl, sym, ◌∙◌, subst, ⊎_elim, Option, Some, None, arith, Bool, cond, eqb}
use Rattle.inodes.specs.Common.{Agrees, block_of, block_of_write, Buffers, cases_eq, counted, Create, get_or-set_other, get_or-set_same, HasLock, HasLogged, HasOpen, HasSlot, HoldsAt, HoldsBlock, inode_block, is_among, IsOpenFor, kept_by_write, LogState, no_task, node_of_write, now_of, Op, Read, Remove, slot_in, slot_of, Stage, Stands, Stat, StaysForOthers, task, TaskState, Trunc, used_by, used_by_write, Write, SetAttribute}
use Rattle.inodes.proofs.TruncGot.{holds_still}

-- process p's task is t now
pub record TaskIsNow (c d : Buffers) (l m : LogState) (n p : ℕ) (ts : List TaskState) (t : TaskState) : Type 0 where
  pub agrees : Agrees c l n ts
  pub inside : p < length ts
  pub others : StaysForOthers c d l m p
  pub stands : Stands d m n p t.op t.stage
  pub locks : (b i : ℕ) → HasLock d p b i → HasSlot t.stage i

holds_other : (c d : Buffers) (l m : LogState) (p q b : ℕ) (o : Option ℕ) → StaysForOthers c d l m p → q ≢ p → HoldsAt c q b o → HoldsAt d q b o
holds_other c d l m p q b None stays apart has = tt
holds_other c d l m p q b (Some i) stays apart has = stays.holds q b i apart has

-- what a process has open stays open, where it added as much as before
pub open_still : (l m : LogState) (q : ℕ) (o : Option Op) → used_by m q ≡ used_by l q → IsOpenFor l q o → IsOpenFor m q o
open_still l m q None used is = tt
open_still l m q (Some (Create kind)) used is = tt
open_still l m q (Some (Write i off bytes)) used is = used ∙ is
open_still l m q (Some (Read i off n)) used is = tt
open_still l m q (Some (Trunc i)) used is = used ∙ is
open_still l m q (Some (Remove i)) used is = used ∙ is
open_still l m q (Some (Stat i)) used is = tt
open_still l m q (Some (SetAttribute i a)) used is = used ∙ is

pub logged_still : (l m : LogState) (q b : ℕ) → used_by m q ≡ used_by l q → (used_by l q ≡ Some 1 → is_among b l.homes ≡ true → is_among b m.homes ≡ true) → HasLogged l q b → HasLogged m q b
logged_still l m q b used among has = ⊎_elim (λ (none : used_by l q ≡ Some 0). inl (used ∙ none)) (λ one. inr (used ∙ one.0, among one.0 one.1)) has

-- a block counts as long as it is a home
pub counts_more : (l m : LogState) (b : ℕ) → (is_among b l.homes ≡ true → is_among b m.homes ≡ true) → counted l b ≤ counted m b
counts_more l m b among = by_zero (eqb b 0)
  where
    by_home : (t : Bool) → is_among b l.homes ≡ t → cond t 1 0 ≤ cond (is_among b m.homes) 1 0
    by_home true home = rw (among home) (omega arith)
    by_home false other = omega arith

    by_zero : (z : Bool) → cond z 0 (cond (is_among b l.homes) 1 0) ≤ cond z 0 (cond (is_among b m.homes) 1 0)
    by_zero true = omega arith
    by_zero false = by_home (is_among b l.homes) refl

pub open_write_still : (l m : LogState) (q : ℕ) → used_by m q ≡ used_by l q → HasOpen l q → HasOpen m q
open_write_still l m q used has = record { homes = has.homes; used = used ∙ has.used }

stands_other : (c d : Buffers) (l m : LogState) (n p q : ℕ) (t : TaskState) (a : Stage) → StaysForOthers c d l m p → q ≢ p → Stands c l n q t.op a → Stands d m n q t.op a
stands_other c d l m n p q t Stage.Nowhere stays apart s = tt
stands_other c d l m n p q t (Stage.Creating search) stays apart s = record {
  op = s.op;
  used = stays.used q apart ∙ s.used;
  count = s.count;
  kind = s.kind;
  behind = s.behind;
  last = s.last;
  holds = holds_other c d l m p q search.block search.slot stays apart s.holds;
}
stands_other c d l m n p q t (Stage.Taking lock) stays apart s = (holds_other c d l m p q (inode_block lock.number) (slot_of lock.at) stays apart s.0, open_still l m q t.op (stays.used q apart) s.1)
stands_other c d l m n p q t (Stage.Reading k reading) stays apart s = holds_other c d l m p q (block_of reading.target) (slot_in reading.target) stays apart s
stands_other c d l m n p q t (Stage.Delivering k) stays apart s = tt
stands_other c d l m n p q t (Stage.Truncating k trunc) stays apart s = record {
  logged = logged_still l m q trunc.machine.bitmap (stays.used q apart) (λ one has. stays.among trunc.machine.bitmap has) s.logged;
  holds = holds_still c d q trunc.kept (now_of trunc) (λ b i has. stays.holds q b i apart has) s.holds;
}
stands_other c d l m n p q t (Stage.Writing k w) stays apart s = record {
  logged = open_write_still l m q (stays.used q apart) s.logged;
  kept = holds_other c d l m p q (node_of_write w.at) (kept_by_write w.at) stays apart s.kept;
  used = holds_other c d l m p q (block_of_write w.at) (used_by_write w.at) stays apart s.used;
}
stands_other c d l m n p q t (Stage.Setting k e u) stays apart s = record {
  used = stays.used q apart ∙ s.used;
  holds = holds_other c d l m p q (inode_block u.number) u.slot stays apart s.holds;
}
stands_other c d l m n p q t (Stage.Leaving k) stays apart s = tt

pub agrees_now : (c d : Buffers) (l m : LogState) (n p : ℕ) (ts : List TaskState) (t : TaskState) → TaskIsNow c d l m n p ts t → Agrees d m n (set ts p t)
agrees_now c d l m n p ts t is = record {
  stands = λ q. ⊎_elim
      (λ (same : q ≡ p). subst (λ (r : ℕ). Stands d m n r (task (set ts p t) r).op (task (set ts p t) r).stage) (sym same) (subst (λ (s : TaskState). Stands d m n p s.op s.stage) (sym mine) is.stands))
      (λ (apart : q ≢ p). subst (λ (s : TaskState). Stands d m n q s.op s.stage) (sym (theirs q apart)) (stands_other c d l m n p q (task ts q) (task ts q).stage is.others apart (is.agrees.stands q)))
      (cases_eq q p);
  holders = λ q b i has. ⊎_elim
      (λ (same : q ≡ p). subst (λ (r : ℕ). HasSlot (task (set ts p t) r).stage i) (sym same) (subst (λ (s : TaskState). HasSlot s.stage i) (sym mine) (is.locks b i (subst (λ (r : ℕ). HasLock d r b i) same has))))
      (λ (apart : q ≢ p). subst (λ (s : TaskState). HasSlot s.stage i) (sym (theirs q apart)) (is.agrees.holders q b i (is.others.locks q b i apart has)))
      (cases_eq q p);
}
  where
    mine : task (set ts p t) p ≡ t
    mine = get_or-set_same ts p t no_task is.inside

    theirs : (q : ℕ) → q ≢ p → task (set ts p t) q ≡ task ts q
    theirs q apart = get_or-set_other ts p q t no_task apart

-- nobody's task goes on, and each process keeps what it has; where one has something open, what is logged stays
pub agrees_still : (c d : Buffers) (l m : LogState) (n : ℕ) (ts : List TaskState) → ((q b i : ℕ) → HoldsBlock c q b i → HoldsBlock d q b i) → ((q b i : ℕ) → HasLock d q b i → HasLock c q b i)
    → ((q : ℕ) → used_by m q ≡ used_by l q) → ((q k b : ℕ) → used_by l q ≡ Some k → is_among b l.homes ≡ true → is_among b m.homes ≡ true) → Agrees c l n ts → Agrees d m n ts
agrees_still c d l m n ts holds locks used among are = record {
  stands = λ q. by_place q (task ts q) (task ts q).stage (are.stands q);
  holders = λ q b i has. are.holders q b i (locks q b i has);
}
  where
    by_slot : (q b : ℕ) (o : Option ℕ) → HoldsAt c q b o → HoldsAt d q b o
    by_slot q b None has = tt
    by_slot q b (Some i) has = holds q b i has

    by_place : (q : ℕ) (t : TaskState) (a : Stage) → Stands c l n q t.op a → Stands d m n q t.op a
    by_place q t Stage.Nowhere s = tt
    by_place q t (Stage.Creating search) s = record { op = s.op; used = used q ∙ s.used; count = s.count; kind = s.kind; behind = s.behind; last = s.last; holds = by_slot q search.block search.slot s.holds }
    by_place q t (Stage.Taking lock) s = (by_slot q (inode_block lock.number) (slot_of lock.at) s.0, open_still l m q t.op (used q) s.1)
    by_place q t (Stage.Reading k reading) s = by_slot q (block_of reading.target) (slot_in reading.target) s
    by_place q t (Stage.Delivering k) s = tt
    by_place q t (Stage.Truncating k trunc) s = record {
      logged = logged_still l m q trunc.machine.bitmap (used q) (λ one has. among q 1 trunc.machine.bitmap one has) s.logged;
      holds = holds_still c d q trunc.kept (now_of trunc) (holds q) s.holds;
    }
    by_place q t (Stage.Writing k w) s = record {
      logged = open_write_still l m q (used q) s.logged;
      kept = by_slot q (node_of_write w.at) (kept_by_write w.at) s.kept;
      used = by_slot q (block_of_write w.at) (used_by_write w.at) s.used;
    }
    by_place q t (Stage.Setting k e u) s = record { used = used q ∙ s.used; holds = by_slot q (inode_block u.number) u.slot s.holds }
    by_place q t (Stage.Leaving k) s = tt
