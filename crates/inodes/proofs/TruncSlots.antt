-- The two slots of a process that frees a file's blocks: that of the block of addresses, and that of the block that it
-- uses.
use Rattle.std.proofs.Common.{◌≡◌, ◌≢◌, ◌⊎◌, inl, inr, ⊎_elim, ℕ, refl, sym, ◌∙◌, ap, subst, Option, Some, None}
use Rattle.inodes.specs.Common.{Agrees, buffer, Buffers, DeviceFault, fault_of_get, fault_of_task, faults_after, Get, GetsFor, GetsLock, Ghosts, GivesUpLock, HasLock, HoldsAt, HoldsBlock, IsHeldByAnother, IsLocked, LocksAfter, OnSleeping, Progress, progress_of, Reads, StoreState, TaskProgress, WaitsFor, Why}
use Rattle.wal.specs.Volume.{slot_of}
use Rattle.wal.specs.Get as get
use Rattle.inodes.proofs.Getting.{fault_of}

-- Process p has block a in the slot that it keeps, and b in the one that it uses, where it got them, and nothing else.
pub record Slots (c : Buffers) (p a : ℕ) (kept : Option ℕ) (b : ℕ) (used : Option ℕ) : Type 0 where
  pub holds_kept : HoldsAt c p a kept
  pub holds_used : HoldsAt c p b used
  pub locks : (e i : ℕ) → HasLock c p e i → (kept ≡ Some i) ⊎ (used ≡ Some i)

still_at : (c d : Buffers) (p a e i : ℕ) (o : Option ℕ) → GetsLock c d p e i → HoldsAt c p a o → HoldsAt d p a o
still_at c d p a e i None gets holds = tt
still_at c d p a e i (Some j) gets holds = gets.held p a j holds

-- it gets the block that it uses
pub slots_used : (c d : Buffers) (p a b e i : ℕ) (kept : Option ℕ) → Slots c p a kept b None → GetsLock c d p e i → Slots d p a kept e (Some i)
slots_used c d p a b e i kept had gets = record {
  holds_kept = still_at c d p a e i kept gets had.holds_kept;
  holds_used = gets.holds;
  locks = λ g j has. ⊎_elim
      (λ (was : HasLock c p g j). ⊎_elim (λ (old : kept ≡ Some j). inl old) (λ (no : None ≡ Some j). absurd (cc no)) (had.locks g j was))
      (λ mine. inr (ap Some (sym mine.2)))
      (gets.takes p g j has);
}

-- or the block of addresses
pub slots_kept : (c d : Buffers) (p a b e i x : ℕ) → Slots c p a None b None → GetsLock c d p e i → Slots d p e (Some i) x None
slots_kept c d p a b e i x had gets = record {
  holds_kept = gets.holds;
  holds_used = tt;
  locks = λ g j has. ⊎_elim
      (λ (was : HasLock c p g j). ⊎_elim (λ (no : None ≡ Some j). absurd (cc no)) (λ (no : None ≡ Some j). absurd (cc no)) (had.locks g j was))
      (λ mine. inl (ap Some (sym mine.2)))
      (gets.takes p g j has);
}

kept_still : (c d : Buffers) (p a b i : ℕ) (kept : Option ℕ) → ((j : ℕ) → kept ≡ Some j → a ≢ b) → HoldsBlock c p b i → GivesUpLock c d p i → HoldsAt c p a kept → HoldsAt d p a kept
kept_still c d p a b i None other mine gives holds = tt
kept_still c d p a b i (Some j) other mine gives holds = gives.others p a j (inr (λ same. other j refl (let e : Some a ≡ Some b = sym holds.block ∙ ap (λ (k : ℕ). (buffer c k).block) same ∙ mine.block in cc e))) holds

-- it gives up the one that it used
pub slots_put : (c d : Buffers) (p a b i x : ℕ) (kept : Option ℕ) → Slots c p a kept b (Some i) → ((j : ℕ) → kept ≡ Some j → a ≢ b) → GivesUpLock c d p i → Slots d p a kept x None
slots_put c d p a b i x kept had other gives = record {
  holds_kept = kept_still c d p a b i kept other had.holds_used gives had.holds_kept;
  holds_used = tt;
  locks = λ g j has. ⊎_elim
      (λ (old : kept ≡ Some j). inl old)
      (λ (used : Some i ≡ Some j). let here : j ≡ i = cc used in absurd (gives.free p g (subst (λ (k : ℕ). HasLock d p g k) here has)))
      (had.locks g j (gives.none p g j has));
}

-- or the block of addresses
pub slots_left : (c d : Buffers) (p a b i x y : ℕ) → Slots c p a (Some i) b None → GivesUpLock c d p i → Slots d p x None y None
slots_left c d p a b i x y had gives = record {
  holds_kept = tt;
  holds_used = tt;
  locks = λ g j has. ⊎_elim
      (λ (kept : Some i ≡ Some j). let here : j ≡ i = cc kept in absurd (gives.free p g (subst (λ (k : ℕ). HasLock d p g k) here has)))
      (λ (no : None ≡ Some j). absurd (cc no))
      (had.locks g j (gives.none p g j has));
}

-- where it has none, no block needs a name
pub slots_none : (c : Buffers) (p a b x y : ℕ) → Slots c p a None b None → Slots c p x None y None
slots_none c p a b x y had = record { holds_kept = tt; holds_used = tt; locks = had.locks }

-- who waits for a block other than the one that it keeps, waits for another's
waits_another : {D : Type 0} (s : StoreState D) (p a b x : ℕ) (kept : Option ℕ) → Agrees s.volume.buffers s.volume.log s.table.inode_count s.tasks → Slots s.volume.buffers p a kept x None
    → ((j : ℕ) → kept ≡ Some j → a ≢ b) → IsLocked s.volume.buffers b → IsHeldByAnother s p b
waits_another s p a b x kept agrees had other locked = record {
  other = locked.0;
  slot = locked.1;
  apart = λ same. let mine : HasLock s.volume.buffers p b locked.1 = subst (λ (q : ℕ). HasLock s.volume.buffers q b locked.1) same locked.2 in
      ⊎_elim (λ (has : kept ≡ Some locked.1). own mine has) (λ (no : None ≡ Some locked.1). absurd (cc no)) (had.locks b locked.1 mine);
  lock = locked.2;
  got = agrees.holders locked.0 b locked.1 locked.2;
}
  where
    own : HasLock s.volume.buffers p b locked.1 → kept ≡ Some locked.1 → ⊥
    own mine has =
        other locked.1 has (cc (sym (subst (λ (o : Option ℕ). HoldsAt s.volume.buffers p a o) has had.holds_kept).block ∙ mine.block))

-- ---- a block is got, or the process has to wait, or the disk fails

module _ {D N T : Type 0} (disk : Ghosts D N) (s t : StoreState D) (p b : ℕ) (r : Progress T) (slot : Option ℕ) (gets : GetsFor disk s.volume p b r slot t.volume) where
  same_fault : (a : Get) → (let made : Progress T = progress_of a in fault_of made) ≡ fault_of_get a
  same_fault (get.Got i) = refl
  same_fault (get.Sleeping cause) = refl
  same_fault (get.Fault fault) = refl

  pub reads_for : (q : TaskProgress) → fault_of_task q ≡ fault_of r → Reads disk s q t
  reads_for q fault =
      let same : fault_of_task q ≡ fault_of_get gets.answer = fault ∙ ap fault_of gets.gives ∙ same_fault gets.answer in
      record {
        device = gets.reads.device;
        fault = gets.reads.fault ∙ sym same;
        faults = gets.reads.faults ∙ ap (λ (o : Option DeviceFault). faults_after o (disk.fault_count s.volume.device)) (sym same);
      }

  -- it got it
  pub record Gains : Type 0 where
    pub at : ℕ
    pub is : slot ≡ Some at
    pub locks : GetsLock s.volume.buffers t.volume.buffers p b at

  pub gains : r ≡ Progress.Moved → Gains
  gains moved = by_answer gets.answer gets.gives gets.slot gets.locks
    where
      by_answer : (a : Get) → r ≡ progress_of a → slot ≡ slot_of a → LocksAfter a s.volume.buffers t.volume.buffers p b → Gains
      by_answer (get.Got i) is at locks = record { at = i; is = at; locks = locks }
      by_answer (get.Sleeping cause) is at locks = absurd (let e : (let q : Progress T = Progress.Sleeping cause in q) ≡ Progress.Moved = sym is ∙ moved in cc e)
      by_answer (get.Fault fault) is at locks = absurd (let e : (let q : Progress T = Progress.Fault fault in q) ≡ Progress.Moved = sym is ∙ moved in cc e)

  pub never_over : (out : T) → r ≡ Progress.Over out → ⊥
  never_over out over = by_answer gets.answer gets.gives
    where
      by_answer : (a : Get) → r ≡ progress_of a → ⊥
      by_answer (get.Got i) is = absurd (let e : (let q : Progress T = Progress.Moved in q) ≡ Progress.Over out = sym is ∙ over in cc e)
      by_answer (get.Sleeping cause) is = absurd (let e : (let q : Progress T = Progress.Sleeping cause in q) ≡ Progress.Over out = sym is ∙ over in cc e)
      by_answer (get.Fault fault) is = absurd (let e : (let q : Progress T = Progress.Fault fault in q) ≡ Progress.Over out = sym is ∙ over in cc e)

  asleep : (cause : Why) → r ≡ Progress.Sleeping cause → gets.answer ≡ get.Sleeping cause
  asleep cause waits = by_answer gets.answer gets.gives
    where
      by_answer : (a : Get) → r ≡ progress_of a → a ≡ get.Sleeping cause
      by_answer (get.Got i) is = absurd (let e : (let q : Progress T = Progress.Moved in q) ≡ Progress.Sleeping cause = sym is ∙ waits in cc e)
      by_answer (get.Sleeping other) is = let same : other ≡ cause = (let e : (let q : Progress T = Progress.Sleeping other in q) ≡ Progress.Sleeping cause = sym is ∙ waits in cc e) in ap get.Sleeping same
      by_answer (get.Fault fault) is = absurd (let e : (let q : Progress T = Progress.Fault fault in q) ≡ Progress.Sleeping cause = sym is ∙ waits in cc e)

  -- who has to wait changed nothing
  pub sleeps : (cause : Why) → r ≡ Progress.Sleeping cause → t.volume ≡ s.volume
  sleeps cause waits = subst (λ (a : Get). OnSleeping a (t.volume ≡ s.volume)) (asleep cause waits) gets.gets.sleeping

  pub waiting : (cause : Why) → r ≡ Progress.Sleeping cause → WaitsFor cause s.volume.buffers b
  waiting cause waits = (subst (λ (a : Get). LocksAfter a s.volume.buffers t.volume.buffers p b) (asleep cause waits) gets.locks).0

  -- nobody waits for an inode there
  pub never_inode : r ≡ Progress.Sleeping Why.InodeHeld → ⊥
  never_inode waits = waiting Why.InodeHeld waits

  pub held_for : (a x : ℕ) (kept : Option ℕ) → Agrees s.volume.buffers s.volume.log s.table.inode_count s.tasks → Slots s.volume.buffers p a kept x None
      → ((j : ℕ) → kept ≡ Some j → a ≢ b) → r ≡ Progress.Sleeping Why.BufferHeld → IsHeldByAnother s p b
  held_for a x kept agrees had other waits = waits_another s p a b x kept agrees had other (waiting Why.BufferHeld waits)

-- the same blocks and slots by other names
pub slots_as : (c : Buffers) (p a b e g : ℕ) (kept used old_kept old_used : Option ℕ) → a ≡ e → kept ≡ old_kept → b ≡ g → used ≡ old_used → Slots c p e old_kept g old_used → Slots c p a kept b used
slots_as c p a b e g kept used old_kept old_used one two three four had =
    subst (λ (o : Option ℕ). Slots c p a kept b o) (sym four)
    (subst (λ (x : ℕ). Slots c p a kept x old_used) (sym three)
    (subst (λ (o : Option ℕ). Slots c p a o g old_used) (sym two)
    (subst (λ (x : ℕ). Slots c p x old_kept g old_used) (sym one) had)))
