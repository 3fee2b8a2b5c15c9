-- Nobody waits for ever: of the tasks under way one goes on. It is one that uses what it has got;
-- where there is none, one that keeps a block of addresses; where there is none, one that gets a
-- block; and else any, for nobody has an inode's lock then.
use Rattle.std.proofs.Common.{◌≡◌, ◌≢◌, ℕ, Bool, true, false, List, [], ◌∷◌, refl, sym, ◌∙◌, ap, subst, Option, Some, None, inl, inr, ◌⊎◌}
use Rattle.std.specs.Prelude.{IfNone}
use Rattle.inodes.specs.Common.{Agrees, AreLooking, asked_by, both_ways, buffer, Buffers, count_of, current_of, DeviceFault, Got, Grip, grip_at, grip_by, HasLock, holder_at, Image, is_over, IsStore, Joint, LockAt, locked_grip, LockState, no_task, not-false, Stage, StoreState, TableState, task, TaskState, victim, cases_eq, cause_of_get, cause_to_get, get_answer_by, Why}
use Rattle.inodes.specs.Waiting.{SomeoneGoesOn, NobodyWaitsForEver, cause_at, cause_to_lock, cause_of_holder, AloneGetsBuffers, HoldsNone, sleep_cause}
use Rattle.inodes.specs.Lemmas.Faults.{where_none}
use Rattle.inodes.specs.Lemmas.Sought.{Sought, sought, passes_busy}
use Rattle.inodes.proofs.Gripping.{grip_is}
use Rattle.inodes.proofs.FreePlaces.{IsOneOf, KeptIn, few_by, is_free, free_goes, kept_by, has_kept, is_lock, is_getting, getting_waits, slot_counts, slots_of}
use Rattle.wal.specs.Lemmas.Victims.{HoldsFew, some_victim, gets_now}
use Rattle.inodes.proofs.KeptBlocks.{keeps_open, KeepsOpen, kept_own, kept_waits, waits_apart, WaitsBehind}
use Rattle.bcache.specs.Buffers.{found, lock_answer, take_answer}

-- ---- who has an inode's lock waits for none

abbrev is_locked_in : Option Grip → Bool
is_locked_in None = false
is_locked_in (Some g) = g.is_locked

lock_taken : (m : LockState) (a : LockAt) (k i : ℕ) → grip_at a m.number ≡ Some (locked_grip k i) → is_lock a ≡ false
lock_taken m LockAt.Reference k i has = refl
lock_taken m (LockAt.Lock j) k i has = let unlike : false ≡ true = ap is_locked_in has in absurd (cc unlike)
lock_taken m (LockAt.Read j slot) k i has = refl

locked_gets : (a : Stage) (j k i : ℕ) → grip_by a j ≡ Some (locked_grip k i) → is_getting a ≡ true
locked_gets Stage.Nowhere j k i has = absurd (cc has)
locked_gets (Stage.Creating m) j k i has = refl
locked_gets (Stage.Taking m) j k i has = rw (lock_taken m m.at k i has) refl
locked_gets (Stage.Reading l m) j k i has = refl
locked_gets (Stage.Delivering l) j k i has = refl
locked_gets (Stage.Truncating l m) j k i has = refl
locked_gets (Stage.Writing l m) j k i has = refl
locked_gets (Stage.Setting l d u) j k i has = refl
locked_gets (Stage.Leaving l) j k i has = refl

-- a task that neither is over nor gets a block waits for a lock at that stage, if anybody has it
abbrev WaitsForLock : Buffers → TableState → Stage → Type 0
WaitsForLock c t a = (k : ℕ) × (cause_at c t a ≡ cause_of_holder (holder_at t.places k))

at_lock : (c : Buffers) (t : TableState) (a : LockAt) (i : ℕ) → is_lock a ≡ true → (k : ℕ) × (cause_to_lock c t a i ≡ cause_of_holder (holder_at t.places k))
at_lock c t LockAt.Reference i is = absurd (cc is)
at_lock c t (LockAt.Lock k) i is = (k, refl)
at_lock c t (LockAt.Read k slot) i is = absurd (cc is)

only_lock : (c : Buffers) (t : TableState) (a : Stage) → is_over a ≡ false → is_getting a ≡ false → WaitsForLock c t a
only_lock c t Stage.Nowhere busy is = absurd (cc busy)
only_lock c t (Stage.Creating m) busy is = absurd (cc is)
only_lock c t (Stage.Taking m) busy is = at_lock c t m.at m.number (not-false (is_lock m.at) is)
only_lock c t (Stage.Reading k m) busy is = absurd (cc is)
only_lock c t (Stage.Delivering k) busy is = absurd (cc is)
only_lock c t (Stage.Truncating k m) busy is = absurd (cc is)
only_lock c t (Stage.Writing k m) busy is = absurd (cc is)
only_lock c t (Stage.Setting k d u) busy is = absurd (cc is)
only_lock c t (Stage.Leaving k) busy is = absurd (cc is)

abbrev has_some : List Got → Bool
has_some [] = false
has_some (g ∷ gs) = true

-- who waits for a lock, or has nothing to do, wants no buffer
never_full : (o : Option ℕ) → cause_of_holder o ≡ Some Why.NoBuffer → ⊥
never_full None e = cc e
never_full (Some q) e = cc e

over_goes : (c : Buffers) (t : TableState) (a : Stage) → is_over a ≡ true → cause_at c t a ≡ Some Why.NoBuffer → ⊥
over_goes c t Stage.Nowhere over e = cc e
over_goes c t (Stage.Creating m) over e = cc over
over_goes c t (Stage.Taking m) over e = cc over
over_goes c t (Stage.Reading k m) over e = cc over
over_goes c t (Stage.Delivering k) over e = cc over
over_goes c t (Stage.Truncating k m) over e = cc over
over_goes c t (Stage.Writing k m) over e = cc over
over_goes c t (Stage.Setting k d u) over e = cc over
over_goes c t (Stage.Leaving k) over e = cc over

-- who finds no buffer for a block finds all of them in use
full_where_none : (c : Buffers) (b : ℕ) → cause_to_get c (Some b) ≡ Some Why.NoBuffer → victim c ≡ None
full_where_none c b full = by (found c b) refl
  where
    by_holder : (i : ℕ) (valid : Bool) (o : Option ℕ) → cause_of_get (get_answer_by (lock_answer o i valid)) ≡ Some Why.NoBuffer → ⊥
    by_holder i valid None e = cc e
    by_holder i valid (Some q) e = cc e

    by_victim : (o : Option ℕ) → cause_of_get (get_answer_by (take_answer o)) ≡ Some Why.NoBuffer → o ≡ None
    by_victim None e = refl
    by_victim (Some i) e = absurd (cc e)

    by : (o : Option ℕ) → found c b ≡ o → victim c ≡ None
    by None at = by_victim (victim c) (rw at at full)
    by (Some i) at = absurd (by_holder i (buffer c i).valid (buffer c i).holder (rw at at full))

-- a task that stands there keeps a block of addresses
abbrev keeps : Stage → Bool
keeps a = has_some (kept_by a)

one_in : (gs : List Got) → has_some gs ≡ true → (g : Got) × IsOneOf g gs
one_in [] e = absurd (cc e)
one_in (g ∷ gs) e = (g, inl refl)

none_in : (gs : List Got) (g : Got) → has_some gs ≡ false → IsOneOf g gs → ⊥
none_in [] g e is = is
none_in (h ∷ hs) g e is = cc e

module _ {D : Type 0} (image : D → Image) (s : StoreState D) (store : IsStore image s) (unfailed : s.volume.fault ≡ None) (joint : Joint (image s.volume.device) s.volume.buffers s.volume.log) where
  abbrev c : Buffers
  c = s.volume.buffers

  abbrev at : ℕ → Stage
  at p = (task s.tasks p).stage

  -- a task passes a test, or none does
  some_task : (test : Stage → Bool) → test Stage.Nowhere ≡ false → Sought (λ (t : TaskState). test t.stage) no_task s.tasks
  some_task test fails = sought (λ (t : TaskState). test t.stage) no_task s.tasks fails

  agrees : Agrees s.volume.buffers s.volume.log s.table.inode_count s.tasks
  agrees = where_none s.volume.fault unfailed store.agrees

  looks : AreLooking (current_of image s.volume) s.table s.tasks
  looks = where_none s.volume.fault unfailed store.looks

  -- who has a buffer's lock has it for a block
  held_block : (p i : ℕ) → (buffer c i).holder ≡ Some p → (b : ℕ) × ((buffer c i).block ≡ Some b)
  held_block p i held = by (buffer c i).block refl
    where
      by : (o : Option ℕ) → (buffer c i).block ≡ o → (b : ℕ) × ((buffer c i).block ≡ Some b)
      by None none = let free = joint.held i none in absurd (cc (sym free ∙ held))
      by (Some b) e = (b, e)

  -- ---- where each task waits for a block or a lock, or holds no buffer

  module _ (waits : (q : ℕ) → (is_free (at q) ≡ false) ⊎ HoldsNone (at q)) where
    kept_of : (p b i : ℕ) → HasLock c p b i → KeptIn (at p) i
    kept_of p b i lock = elim (waits p) [
      | inl waiting ↦ has_kept (at p) i waiting (agrees.holders p b i lock)
      | inr none ↦ absurd (none i (agrees.holders p b i lock))
    ]

    open_by : (p : ℕ) (g : Got) → IsOneOf g (kept_by (at p)) → KeepsOpen c s.volume.log p g
    open_by p g has = keeps_open c s.volume.log s.table.inode_count p g (task s.tasks p).op (at p) has (agrees.stands p)

    holds_few : (p i : ℕ) → (buffer c i).holder ≡ Some p → HoldsFew c s.volume.log (λ (q : ℕ). slots_of (kept_by (at q))) p i
    holds_few p i held =
        let block = held_block p i held in
        let kept = kept_of p block.0 i (record { holder = held; block = block.1 }) in
        let is = open_by p kept.0 kept.1 in
        record { slot = subst (λ (j : ℕ). count_of j (slots_of (kept_by (at p))) ≢ 0) kept.2 (slot_counts (kept_by (at p)) kept.0 kept.1); used = is.used; has = is.has }

    left : victim c ≢ None
    left = some_victim s.volume.log.commit (image s.volume.device) c s.volume.log joint (λ (q : ℕ). slots_of (kept_by (at q))) (λ q. few_by (at q)) holds_few

  -- ---- where each task that is not over waits

  module _ (waits : (q : ℕ) → is_free (at q) ≡ false) where
    wait : (q : ℕ) → (is_free (at q) ≡ false) ⊎ HoldsNone (at q)
    wait q = inl (waits q)

    -- who keeps a block of addresses goes on
    keeper_goes : (p : ℕ) (g : Got) → IsOneOf g (kept_by (at p)) → cause_at c s.table (at p) ≡ None
    keeper_goes p g has =
        let w = kept_waits (current_of image s.volume) s.table s.tasks looks store.numbers c p g has (waits p) in
        w.cause ∙ gets_now c w.block joint.cache (free w) (left wait)
      where
        free : (w : WaitsBehind (current_of image s.volume) s.table s.tasks looks store.numbers c p) → (q j : ℕ) → HasLock c q w.block j → ⊥
        free w q j lock =
            let kept = kept_of wait q w.block j lock in
            let same : Some w.block ≡ Some kept.0.block = sym lock.block ∙ ap (λ (i : ℕ). (buffer c i).block) (sym kept.2) ∙ (open_by wait q kept.0 kept.1).holds.block in
            waits_apart (current_of image s.volume) s.table s.tasks looks store.numbers c p q kept.0 w kept.1
            (kept_own (current_of image s.volume) s.table s.tasks looks store.numbers q kept.0 kept.1 (waits q)) (cc same)

    -- where nobody keeps one, who gets a block goes on
    getter_goes : ((q : ℕ) → keeps (at q) ≡ false) → (p : ℕ) → is_getting (at p) ≡ true → cause_at c s.table (at p) ≡ None
    getter_goes none p is =
        let w = getting_waits c s.table (at p) (waits p) is in
        w.1 ∙ gets_now c w.0 joint.cache (free w.0) (left wait)
      where
        free : (b q j : ℕ) → HasLock c q b j → ⊥
        free b q j lock = let kept = kept_of wait q b j lock in none_in (kept_by (at q)) kept.0 (none q) kept.1

    -- and where nobody gets one, who waits for a lock goes on
    locker_goes : ((q : ℕ) → is_getting (at q) ≡ false) → (p : ℕ) → is_over (at p) ≡ false → cause_at c s.table (at p) ≡ None
    locker_goes none p busy =
        let w = only_lock c s.table (at p) busy (none p) in
        w.1 ∙ by (holder_at s.table.places w.0) w.0 refl
      where
        by : (o : Option ℕ) (k : ℕ) → holder_at s.table.places k ≡ o → cause_of_holder (holder_at s.table.places k) ≡ None
        by None k e = ap cause_of_holder e
        by (Some q) k e =
            let has = looks.table.holders q k e in
            absurd (both_ways _ (none q) (locked_gets (at q) (asked_by (task s.tasks q).op) k has.0 (sym (grip_is s.tasks q) ∙ has.1)))

    by_lock : (p : ℕ) → is_over (at p) ≡ false → ((q : ℕ) → keeps (at q) ≡ false) → SomeoneGoesOn s
    by_lock p busy none = elim (some_task is_getting refl) [
      | inl found ↦ record { process = found.0; busy = passes_busy is_getting refl (at found.0) found.1; goes = getter_goes none found.0 found.1 }
      | inr all ↦ record { process = p; busy = busy; goes = locker_goes all p busy }
    ]

    by_keeper : (p : ℕ) → is_over (at p) ≡ false → SomeoneGoesOn s
    by_keeper p busy = elim (some_task keeps refl) [
      | inl found ↦
          let one = one_in (kept_by (at found.0)) found.1 in
          record { process = found.0; busy = passes_busy keeps refl (at found.0) found.1; goes = keeper_goes found.0 one.0 one.1 }
      | inr none ↦ by_lock p busy none
    ]

  pub nobody_waits_for_ever : NobodyWaitsForEver s
  nobody_waits_for_ever p busy = elim (some_task is_free refl) [
    | inl found ↦ record { process = found.0; busy = passes_busy is_free refl (at found.0) found.1; goes = free_goes c s.table (at found.0) found.1 }
    | inr waits ↦ by_keeper waits p busy
  ]

  -- ---- a process that holds buffers alone

  module _ (p : ℕ) (alone : (q : ℕ) → q ≢ p → HoldsNone (at q)) (full : sleep_cause s p ≡ Some Why.NoBuffer) where
    waiting : is_free (at p) ≡ false
    waiting = by (is_free (at p)) refl
      where
        by : (b : Bool) → is_free (at p) ≡ b → is_free (at p) ≡ false
        by false e = e
        by true e = let unlike : None ≡ Some Why.NoBuffer = sym (free_goes c s.table (at p) e) ∙ full in absurd (cc unlike)

    others : (q : ℕ) → (is_free (at q) ≡ false) ⊎ HoldsNone (at q)
    others q = elim (cases_eq q p) [
      | inl same ↦ inl (ap (λ (j : ℕ). is_free (at j)) same ∙ waiting)
      | inr apart ↦ inr (alone q apart)
    ]

    finds_one : ⊥
    finds_one = by (is_getting (at p)) (is_over (at p)) refl refl
      where
        by : (getting over : Bool) → is_getting (at p) ≡ getting → is_over (at p) ≡ over → ⊥
        by true over gets e = let w = getting_waits c s.table (at p) waiting gets in left others (full_where_none c w.0 (sym w.1 ∙ full))
        by false false quiet busy =
            let w = only_lock c s.table (at p) busy quiet in
            never_full (holder_at s.table.places w.0) (sym w.1 ∙ full)
        by false true quiet over = over_goes c s.table (at p) over full

  pub alone_gets_buffers : AloneGetsBuffers s
  alone_gets_buffers p alone full = finds_one p alone full

-- and so it is where the disk has not failed
module _ {D : Type 0} (image : D → Image) (s : StoreState D) (store : IsStore image s) where
  pub unless_failed : IfNone s.volume.fault (Joint (image s.volume.device) s.volume.buffers s.volume.log)
      → IfNone s.volume.fault (NobodyWaitsForEver s) × IfNone s.volume.fault (AloneGetsBuffers s)
  unless_failed joint = by s.volume.fault refl joint
    where
      by : (o : Option DeviceFault) → s.volume.fault ≡ o → IfNone o (Joint (image s.volume.device) s.volume.buffers s.volume.log)
          → IfNone o (NobodyWaitsForEver s) × IfNone o (AloneGetsBuffers s)
      by None well here = (nobody_waits_for_ever image s store well here, alone_gets_buffers image s store well here)
      by (Some fault) well here = (tt, tt)
