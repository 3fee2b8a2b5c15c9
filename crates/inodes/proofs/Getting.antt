-- What a look's steps make of buffers and device: a block is got, or released, or nothing is done.
use Rattle.std.proofs.Common.{◌≡◌, ⊎_elim, ℕ, List, refl, sym, ◌∙◌, ap, subst, arith, Option, Some, None}
use Rattle.inodes.specs.Common.{Agrees, Buffers, current_of, DeviceFault, fault_of_get, fault_of_task, faults_after, Get, GetsFor, GetsLock, Ghosts, GivesUpLock, HasLock, HasSlot, HoldsAt, Image, IsHeldByAnother, IsLocked, LocksAfter, LogState, OnlyReads, OnSleeping, Progress, progress_of, Reads, ShowsSame, stays_got, stays_left, stays_same, StaysForOthers, StoreState, task, TaskProgress, TaskState, VolumeState, Why}
use Rattle.wal.specs.Volume.{slot_of}
use Rattle.wal.specs.declared.types.DeviceFault.TheVariants.{Block}
use Rattle.wal.specs.Get as get

-- Process p has block b where it was got, and nothing else; the others have what they had.
pub record HasOne (c d : Buffers) (l : LogState) (p b : ℕ) (slot : Option ℕ) : Type 0 where
  pub others : StaysForOthers c d l l p
  pub locks : (a i : ℕ) → HasLock d p a i → slot ≡ Some i
  pub holds : HoldsAt d p b slot

-- the fault of a machine's answer
abbrev pub fault_of : {T : Type 0} → Progress T → Option DeviceFault
fault_of Progress.Moved = None
fault_of (Progress.Sleeping cause) = None
fault_of (Progress.Over out) = None
fault_of (Progress.Fault fault) = Some (Block fault)

-- the task of process p has got this slot alone
abbrev pub HasOnly : List TaskState → ℕ → Option ℕ → Type 0
HasOnly ts p slot = (i : ℕ) → HasSlot (task ts p).stage i → slot ≡ Some i

module _ (c : Buffers) (l : LogState) (n p : ℕ) (ts : List TaskState) (agrees : Agrees c l n ts) where
  -- it has what its task has
  has_own : (slot : Option ℕ) (b i : ℕ) → HasOnly ts p slot → HasLock c p b i → slot ≡ Some i
  has_own slot b i only has = only i (agrees.holders p b i has)

  -- nothing is done to the buffers
  pub has_same : (b : ℕ) (slot : Option ℕ) → HasOnly ts p slot → HoldsAt c p b slot → HasOne c c l p b slot
  has_same b slot only holds = record { others = stays_same c l p; locks = λ a i has. has_own slot a i only has; holds = holds }

  -- it got its block
  pub has_got : (d : Buffers) (b i : ℕ) → HasOnly ts p None → GetsLock c d p b i → HasOne c d l p b (Some i)
  has_got d b i none gets = record {
    others = stays_got c d l p b i gets;
    locks = λ a j has. ⊎_elim
        (λ (was : HasLock c p a j). let no = has_own None a j none was in absurd (cc no))
        (λ mine. ap Some (sym mine.2))
        (gets.takes p a j has);
    holds = gets.holds;
  }

  -- it released it
  pub has_left : (d : Buffers) (b i : ℕ) → HasOnly ts p (Some i) → GivesUpLock c d p i → HasOne c d l p b None
  has_left d b i got gives = record {
    others = stays_left c d l p i gives;
    locks = λ a j has.
        let here : j ≡ i = cc (has_own (Some i) a j got (gives.none p a j has)) in
        absurd (gives.free p a (subst (λ (k : ℕ). HasLock d p a k) here has));
    holds = tt;
  }

-- who waits for a buffer, waits for another's
pub waits_for : {D : Type 0} (s : StoreState D) (p b : ℕ) → Agrees s.volume.buffers s.volume.log s.table.inode_count s.tasks → HasOnly s.tasks p None
    → IsLocked s.volume.buffers b → IsHeldByAnother s p b
waits_for s p b agrees none locked = record {
  other = locked.0;
  slot = locked.1;
  apart = λ same. let no : None ≡ Some locked.1 = none locked.1 (subst (λ (q : ℕ). HasSlot (task s.tasks q).stage locked.1) same (agrees.holders locked.0 b locked.1 locked.2)) in absurd (cc no);
  lock = locked.2;
  got = agrees.holders locked.0 b locked.1 locked.2;
}

-- a block is got, or the process has to wait, or the disk fails
module _ {D N T : Type 0} (disk : Ghosts D N) (s t : StoreState D) (p b : ℕ) (r : Progress T) (slot : Option ℕ) (gets : GetsFor disk s.volume p b r slot t.volume)
    (agrees : Agrees s.volume.buffers s.volume.log s.table.inode_count s.tasks) (none : HasOnly s.tasks p None) where
  pub shows_got : ShowsSame disk.image s t
  shows_got = ap (λ (x : Image). record { current = x; log = t.volume.log }) gets.reads.current ∙ ap (λ (l : LogState). record { current = current_of disk.image s.volume; log = l }) gets.reads.log

  same_fault : (a : Get) → (let made : Progress T = progress_of a in fault_of made) ≡ fault_of_get a
  same_fault (get.Got i) = refl
  same_fault (get.Sleeping cause) = refl
  same_fault (get.Fault fault) = refl

  pub reads_got : (q : TaskProgress) → fault_of_task q ≡ fault_of r → Reads disk s q t
  reads_got q fault =
      let same : fault_of_task q ≡ fault_of_get gets.answer = fault ∙ ap fault_of gets.gives ∙ same_fault gets.answer in
      record {
        device = gets.reads.device;
        fault = gets.reads.fault ∙ sym same;
        faults = gets.reads.faults ∙ ap (λ (o : Option DeviceFault). faults_after o (disk.fault_count s.volume.device)) (sym same);
      }

  asleep : (a : Get) (cause : Why) → r ≡ progress_of a → r ≡ Progress.Sleeping cause → a ≡ get.Sleeping cause
  asleep (get.Got i) cause is waits = absurd (cc (sym is ∙ waits))
  asleep (get.Sleeping other) cause is waits = let same : other ≡ cause = (let e : (let a : Progress T = Progress.Sleeping other in a) ≡ Progress.Sleeping cause = sym is ∙ waits in cc e) in ap get.Sleeping same
  asleep (get.Fault fault) cause is waits = absurd (cc (sym is ∙ waits))

  -- who has to wait has no slot, and changed nothing
  pub sleeps_got : (cause : Why) → r ≡ Progress.Sleeping cause → (t.volume ≡ s.volume) × (slot ≡ None)
  sleeps_got cause waits =
      let is = asleep gets.answer cause gets.gives waits in
      (subst (λ (a : Get). OnSleeping a (t.volume ≡ s.volume)) is gets.gets.sleeping, gets.slot ∙ ap slot_of is)

  pub held_got : r ≡ Progress.Sleeping Why.BufferHeld → IsHeldByAnother s p b
  held_got waits = waits_for s p b agrees none (subst (λ (a : Get). LocksAfter a s.volume.buffers t.volume.buffers p b) (asleep gets.answer Why.BufferHeld gets.gives waits) gets.locks).0

  pub has_then : fault_of r ≡ None → HasOne s.volume.buffers t.volume.buffers s.volume.log p b slot
  has_then well = by_answer gets.answer (sym (same_fault gets.answer) ∙ ap fault_of (sym gets.gives) ∙ well) gets.slot gets.locks gets.gets.sleeping
    where
      by_answer : (a : Get) → fault_of_get a ≡ None → slot ≡ slot_of a → LocksAfter a s.volume.buffers t.volume.buffers p b → OnSleeping a (t.volume ≡ s.volume)
          → HasOne s.volume.buffers t.volume.buffers s.volume.log p b slot
      by_answer (get.Got i) fine is locks same = subst (λ (o : Option ℕ). HasOne s.volume.buffers t.volume.buffers s.volume.log p b o) (sym is)
          (has_got s.volume.buffers s.volume.log s.table.inode_count p s.tasks agrees t.volume.buffers b i none locks)
      by_answer (get.Sleeping cause) fine is locks same = subst (λ (v : VolumeState D). HasOne s.volume.buffers v.buffers s.volume.log p b slot) (sym same)
          (subst (λ (o : Option ℕ). HasOne s.volume.buffers s.volume.buffers s.volume.log p b o) (sym is)
          (has_same s.volume.buffers s.volume.log s.table.inode_count p s.tasks agrees b None none tt))
      by_answer (get.Fault fault) fine is locks same = absurd (cc fine)

-- the device is as it was
module _ {D N : Type 0} (disk : Ghosts D N) (s t : StoreState D) (device : t.volume.device ≡ s.volume.device) (well : t.volume.fault ≡ None) where
  pub reads_none : (q : TaskProgress) → fault_of_task q ≡ None → Reads disk s q t
  reads_none q fine = record {
    device = subst (λ (d : D). OnlyReads disk s.volume.device d) (sym device) (record {
      name = refl;
      image = refl;
      writes = refl;
      syncs = refl;
      time = record { later = omega arith; adds = λ n x le old. old; keeps = λ n x le old. old };
    });
    fault = well ∙ sym fine;
    faults = ap disk.fault_count device ∙ ap (λ (o : Option DeviceFault). faults_after o (disk.fault_count s.volume.device)) (sym fine);
  }
