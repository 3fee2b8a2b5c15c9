-- What each call makes of the locks.
use Rattle.std.proofs.Common.{◌≡◌, ◌≢◌, ◌⊎◌, inl, inr, ℕ, ◌+◌, ◌-◌, ◌<◌, Bool, true, false, cond, length, List, refl, sym, ◌∙◌, ap, subst, arith, Option, Some, None, length-set}
use Rattle.std.specs.Prelude.{slice_index}
use Rattle.wal.specs.Common.{acquire_answer, Acquired, after_acquire, after_acquire_by, after_lock, after_take, answer_at, answer_by, answer_synced, block_at, block_is, Buffer, buffer, buffer_other, buffer_same, Buffers, cases_eq, changed, Commit, CommitSteps, CommitStepsAt, CommitsTo, CommitSyncs, Committed, CommitWrites, each_buffer, EndsUnfilled, Faulted, filled, found, GetsLock, Ghosts, GivesUpLock, HasLock, header_block, holder_count, HoldsBlock, Image, is_among, IsCache, Joint, KeepsHeld, LeavesLocks, lock_answer, locked, LocksAfter, LogState, noted_cache, OnFault, Part, pinned, released, seen, some_found, Stepped, Synced, take_answer, taken, TakesLock, UnlessFault, unpinned_found, Unsynced, victim, victim_free, VolumeState, WaitsFor, Why, why_busy, with_buffer, written_cache}
use Rattle.bcache.specs.declared.types.Busy.{Busy}
use Rattle.wal.specs.Get.{Get}
use Rattle.wal.specs.Get as get
use Rattle.wal.specs.Lemmas.Volume.{IsAcquired}
use Rattle.wal.specs.Lemmas.Held.{held_bytes, held_lock, leaves_same, leaves_then, locked_place}

-- a slot with the same lock; it may have become valid
pub record SameLock (old new : Buffer) : Type 0 where
  pub holder : new.holder ≡ old.holder
  pub block : new.block ≡ old.block
  pub valid : old.valid ≡ true → new.valid ≡ true

-- a change of one slot that leaves its lock
pub leaves_kept : (c : Buffers) (i : ℕ) (t : Buffer) → i < length c.slots → SameLock (buffer c i) t → LeavesLocks c (with_buffer c i t)
leaves_kept c i t lt kept = record {
  held = λ p b j h. let s = same j in record { slot = h.slot; holder = s.holder ∙ h.holder; block = s.block ∙ h.block; valid = s.valid h.valid };
  none = λ p b j h. let s = same j in record { holder = sym s.holder ∙ h.holder; block = sym s.block ∙ h.block };
}
  where
    same : (j : ℕ) → SameLock (buffer c j) (buffer (with_buffer c i t) j)
    same = each_buffer c i t (λ j s. SameLock (buffer c j) s) lt kept (λ j other. record { holder = refl; block = refl; valid = λ e. e })

-- a slot is logged, and its bytes change
pub leaves_changed : (l : LogState) (c e d : Buffers) (i b : ℕ) (bytes : List ℕ) → IsCache c → i < 40 → e ≡ noted_cache l c i b → d ≡ changed e i bytes → LeavesLocks c d
leaves_changed l c e d i b bytes is lt are new =
    subst (LeavesLocks c) (sym (new ∙ ap (λ (f : Buffers). changed f i bytes) are)) (by_home (is_among b l.homes))
  where
    here : i < length c.slots
    here = omega (arith, lt, is.size)

    by_change : (f : Buffers) → i < length f.slots → LeavesLocks f (changed f i bytes)
    by_change f inside = leaves_kept f i (record (buffer f i) { bytes = bytes }) inside (record { holder = refl; block = refl; valid = λ v. v })

    by_home : (t : Bool) → LeavesLocks c (changed (cond t c (pinned c i)) i bytes)
    by_home true = by_change c here
    by_home false =
        let s : Buffer = record (buffer c i) { pins = (buffer c i).pins + 1 } in
        leaves_then c (pinned c i) (changed (pinned c i) i bytes) (leaves_kept c i s here (record { holder = refl; block = refl; valid = λ v. v }))
        (by_change (pinned c i) (omega (arith, here, length-set c.slots i s)))

-- a home that was written is unpinned
leaves_written : (k : Commit) (hs : List ℕ) (c : Buffers) → LeavesLocks c (written_cache k hs c)
leaves_written Commit.Quiet hs c = leaves_same c c refl
leaves_written (Commit.Logging n) hs c = leaves_same c c refl
leaves_written Commit.Heading hs c = leaves_same c c refl
leaves_written Commit.Clearing hs c = leaves_same c c refl
leaves_written (Commit.Syncing part) hs c = leaves_same c c refl
leaves_written (Commit.Homing n) hs c = by_found (found c (slice_index hs n)) refl
  where
    by_found : (o : Option ℕ) → found c (slice_index hs n) ≡ o → LeavesLocks c (unpinned_found c o)
    by_found None e = leaves_same c c refl
    by_found (Some i) e = leaves_kept c i (record (buffer c i) { pins = (buffer c i).pins - 1 }) (some_found c (slice_index hs n) i e).0 (record { holder = refl; block = refl; valid = λ v. v })

-- a step of a commit, whether or not its write was made
pub leaves_stepped : {D N : Type 0} (disk : Ghosts D N) (d : D) (c : Buffers) (l : LogState) (r : Committed) (e : D) (f : Buffers) (m : LogState) → CommitSteps disk d c l r e f m → LeavesLocks c f
leaves_stepped {D} {N} disk d c l r e f m step = by_phase l.commit step
  where
    writes : CommitWrites disk d c l r e f m → LeavesLocks c f
    writes w = by_answer r w.step
      where
        by_answer : (r : Committed) → CommitsTo (answer_at (disk.holding (disk.name d)) l.commit l.opened) r (Stepped (disk.holding (disk.name d)) (header_block l.homes) (disk.image d) c l (disk.image e) f m (disk.leaves e (disk.moment e))) (Faulted (header_block l.homes) (disk.image d) c l (disk.image e) f m) → LeavesLocks c f
        by_answer Committed.More step = subst (LeavesLocks c) (sym step.1.cache) (leaves_written l.commit l.homes c)
        by_answer (Committed.Durable n) step = subst (LeavesLocks c) (sym step.1.cache) (leaves_written l.commit l.homes c)
        by_answer Committed.Done step = subst (LeavesLocks c) (sym step.1.cache) (leaves_written l.commit l.homes c)
        by_answer (Committed.Fault fault) step = leaves_same c f step.cache

    syncs : (p : Part) → CommitSyncs disk p d c l r e f m → LeavesLocks c f
    syncs p w = by_answer r w.step
      where
        by_answer : (r : Committed) → CommitsTo (answer_synced p l.opened) r (Synced p c l (disk.image e) f m (disk.leaves e (disk.moment e))) (Unsynced c l f m) → LeavesLocks c f
        by_answer Committed.More step = leaves_same c f step.1.cache
        by_answer (Committed.Durable n) step = leaves_same c f step.1.cache
        by_answer Committed.Done step = leaves_same c f step.1.cache
        by_answer (Committed.Fault fault) step = leaves_same c f step.cache

    by_phase : (k : Commit) → CommitStepsAt disk k d c l r e f m → LeavesLocks c f
    by_phase Commit.Quiet w = absurd w
    by_phase (Commit.Logging n) w = writes w
    by_phase Commit.Heading w = writes w
    by_phase (Commit.Homing n) w = writes w
    by_phase Commit.Clearing w = writes w
    by_phase (Commit.Syncing p) w = syncs p w

-- the lock of a slot is given up
pub gives_up : (c d : Buffers) (pid i : ℕ) → IsCache c → i < 40 → (buffer c i).holder ≡ Some pid → d ≡ released c i → GivesUpLock c d pid i
gives_up c d pid i is lt mine new = subst (λ (e : Buffers). GivesUpLock c e pid i) (sym new) (record { others = others; none = none_taken; free = free })
  where
    t : Buffer
    t = record (buffer c i) { holder = None }

    here : buffer (released c i) i ≡ t
    here = buffer_same c i t (omega (arith, lt, is.size))

    free : (p b : ℕ) → HasLock (released c i) p b i → ⊥
    free p b has = let some : None ≡ Some p = sym (ap (λ (s : Buffer). s.holder) here) ∙ has.holder in absurd (cc some)

    by_slot : (p b j : ℕ) → j ≢ i → buffer (released c i) j ≡ buffer c j
    by_slot p b j other = buffer_other c i j t other

    apart : (p b j : ℕ) → (p ≢ pid) ⊎ (j ≢ i) → HoldsBlock c p b j → j ≢ i
    apart p b j (inr other) h same = other same
    apart p b j (inl other) h same = let both : Some p ≡ Some pid = sym h.holder ∙ ap (λ (k : ℕ). (buffer c k).holder) same ∙ mine in other (cc both)

    others : (p b j : ℕ) → (p ≢ pid) ⊎ (j ≢ i) → HoldsBlock c p b j → HoldsBlock (released c i) p b j
    others p b j why h =
        let same = by_slot p b j (apart p b j why h) in
        record { slot = h.slot; holder = ap (λ (s : Buffer). s.holder) same ∙ h.holder; block = ap (λ (s : Buffer). s.block) same ∙ h.block; valid = ap (λ (s : Buffer). s.valid) same ∙ h.valid }

    none_taken : (p b j : ℕ) → HasLock (released c i) p b j → HasLock c p b j
    none_taken p b j has = elim (cases_eq j i) [
      | inl same ↦ absurd (free p b (subst (λ (k : ℕ). HasLock (released c i) p b k) same has))
      | inr other ↦
          let same = by_slot p b j other in
          record { holder = sym (ap (λ (s : Buffer). s.holder) same) ∙ has.holder; block = sym (ap (λ (s : Buffer). s.block) same) ∙ has.block }
    ]

-- one lock is taken, and what is held stays so
pub record TakesOne (c d : Buffers) (pid b i : ℕ) : Type 0 where
  pub held : KeepsHeld c d
  pub takes : TakesLock c d pid b i

-- the lock of a slot that nobody has is taken for a block
takes_slot : (c : Buffers) (pid b i : ℕ) (t : Buffer) → i < length c.slots → (buffer c i).holder ≡ None → t.holder ≡ Some pid → t.block ≡ Some b → TakesOne c (with_buffer c i t) pid b i
takes_slot c pid b i t lt free mine block = record { held = held; takes = takes }
  where
    here : buffer (with_buffer c i t) i ≡ t
    here = buffer_same c i t lt

    held : KeepsHeld c (with_buffer c i t)
    held p a j h =
        let stays = buffer_other c i j t (λ same. (let some : Some p ≡ None = sym h.holder ∙ ap (λ (k : ℕ). (buffer c k).holder) same ∙ free in cc some)) in
        record { slot = h.slot; holder = ap (λ (s : Buffer). s.holder) stays ∙ h.holder; block = ap (λ (s : Buffer). s.block) stays ∙ h.block; valid = ap (λ (s : Buffer). s.valid) stays ∙ h.valid }

    takes : TakesLock c (with_buffer c i t) pid b i
    takes p a j has = elim (cases_eq j i) [
      | inl same ↦
          let now : HasLock (with_buffer c i t) p a i = subst (λ (k : ℕ). HasLock (with_buffer c i t) p a k) same has in
          let what : Some a ≡ Some b = sym now.block ∙ ap (λ (s : Buffer). s.block) here ∙ block in
          inr (cc (sym now.holder ∙ ap (λ (s : Buffer). s.holder) here ∙ mine), cc what, same)
      | inr other ↦
          let stays = buffer_other c i j t other in
          inl (record { holder = sym (ap (λ (s : Buffer). s.holder) stays) ∙ has.holder; block = sym (ap (λ (s : Buffer). s.block) stays) ∙ has.block })
    ]

nobody : (pins : ℕ) (o : Option ℕ) → pins + holder_count o ≡ 0 → o ≡ None
nobody pins None none = refl
nobody pins (Some p) none = absurd (omega (arith, none))

takes_acquired : (c : Buffers) (pid b i : ℕ) (v : Bool) → IsCache c → acquire_answer c b ≡ Acquired.Got i v → TakesOne c (after_acquire c pid b) pid b i
takes_acquired c pid b i v is e = by_found (found c b) refl e
  where
    by_lock : (j : ℕ) (o : Option ℕ) → found c b ≡ Some j → (buffer c j).holder ≡ o → lock_answer o j (buffer c j).valid ≡ Acquired.Got i v → TakesOne c (after_lock o c pid j) pid b i
    by_lock j None at free e =
        let here = some_found c b j at in
        let same : j ≡ i = cc e in
        subst (TakesOne c (locked c pid j) pid b) same (takes_slot c pid b j (record (buffer c j) { holder = Some pid }) here.0 free refl (block_is b (buffer c j).block here.1))
    by_lock j (Some q) at free e = absurd (cc e)

    by_take : (o : Option ℕ) → victim c ≡ o → take_answer o ≡ Acquired.Got i v → TakesOne c (after_take o c pid b) pid b i
    by_take None at e = absurd (cc e)
    by_take (Some j) at e =
        let unused = victim_free c j is at in
        let same : j ≡ i = cc e in
        subst (TakesOne c (taken c pid b j) pid b) same (takes_slot c pid b j (record (buffer c j) { block = Some b; valid = false; holder = Some pid }) (omega (arith, unused.0, is.size)) (nobody (buffer c j).pins (buffer c j).holder unused.1) refl refl)

    by_found : (o : Option ℕ) → found c b ≡ o → answer_by o c ≡ Acquired.Got i v → TakesOne c (after_acquire_by o c pid b) pid b i
    by_found None at e = by_take (victim c) refl e
    by_found (Some j) at e = by_lock j (buffer c j).holder at refl e

-- a process gets the lock of a slot that is valid
pub gets_acquired : (c d : Buffers) (pid b i : ℕ) (w : Bool) → IsCache c → Acquired.Got i w ≡ acquire_answer c b → d ≡ after_acquire c pid b → IsAcquired d pid b i true → GetsLock c d pid b i
gets_acquired c d pid b i w is answer are has =
    let one : TakesOne c d pid b i = subst (λ (e : Buffers). TakesOne c e pid b i) (sym are) (takes_acquired c pid b i w is (sym answer)) in
    record { holds = record { slot = has.slot; holder = has.holder; block = has.block; valid = has.valid }; held = one.held; takes = one.takes }

-- of one that is filled then
pub gets_filled : (x : Image) (c d e : Buffers) (pid b i : ℕ) (w : Bool) (r : Get) → IsCache c → IsCache d → Acquired.Got i w ≡ acquire_answer c b → d ≡ after_acquire c pid b → IsAcquired d pid b i false
    → UnlessFault r (r ≡ get.Got i) → UnlessFault r (e ≡ filled d i (block_at x b)) → OnFault r (λ _. EndsUnfilled d i e) → LocksAfter r c e pid b
gets_filled x c d e pid b i w (get.Got n) is now answer are has same new failed =
    let one : TakesOne c d pid b i = subst (λ (f : Buffers). TakesOne c f pid b i) (sym are) (takes_acquired c pid b i w is (sym answer)) in
    let t : Buffer = record (buffer d i) { valid = true; bytes = block_at x b } in
    let inside : i < length d.slots = omega (arith, has.slot, now.size) in
    let stays : LeavesLocks d e = subst (LeavesLocks d) (sym new) (leaves_kept d i t inside (record { holder = refl; block = refl; valid = λ v. refl })) in
    let here : buffer e i ≡ t = ap (λ (f : Buffers). buffer f i) new ∙ buffer_same d i t inside in
    subst (GetsLock c e pid b) (cc same) (record {
      holds = record { slot = has.slot; holder = ap (λ (s : Buffer). s.holder) here ∙ has.holder; block = ap (λ (s : Buffer). s.block) here ∙ has.block; valid = ap (λ (s : Buffer). s.valid) here };
      held = λ p a j h. stays.held p a j (one.held p a j h);
      takes = λ p a j h. one.takes p a j (stays.none p a j h);
    })
gets_filled x c d e pid b i w (get.Sleeping cause) is now answer are has same new failed = absurd (cc same)
gets_filled x c d e pid b i w (get.Fault fault) is now answer are has same new failed =
    let one : TakesOne c d pid b i = subst (λ (f : Buffers). TakesOne c f pid b i) (sym are) (takes_acquired c pid b i w is (sym answer)) in
    let t : Buffer = record (buffer d i) { bytes = failed.0 } in
    let inside : i < length d.slots = omega (arith, has.slot, now.size) in
    let stays : LeavesLocks d e = subst (LeavesLocks d) (sym failed.1) (leaves_kept d i t inside (record { holder = refl; block = refl; valid = λ v. v })) in
    let here : buffer e i ≡ t = ap (λ (f : Buffers). buffer f i) failed.1 ∙ buffer_same d i t inside in
    record {
      slot = i;
      lock = record { holder = ap (λ (s : Buffer). s.holder) here ∙ has.holder; block = ap (λ (s : Buffer). s.block) here ∙ has.block };
      unread = ap (λ (s : Buffer). s.valid) here ∙ has.valid;
      held = λ p a j h. stays.held p a j (one.held p a j h);
      takes = λ p a j h. one.takes p a j (stays.none p a j h);
    }

-- a process has to wait
pub waits_acquired : (c d : Buffers) (pid b : ℕ) (cause : Busy) (reason : Why) → Acquired.Sleeping cause ≡ acquire_answer c b → reason ≡ why_busy cause → d ≡ after_acquire c pid b → WaitsFor reason c b × LeavesLocks c d
waits_acquired c d pid b cause reason answer is are = subst (λ (r : Why). WaitsFor r c b × LeavesLocks c d) (sym is) (subst (λ (e : Buffers). WaitsFor (why_busy cause) c b × LeavesLocks c e) (sym are) (by_found (found c b) refl answer))
  where
    by_lock : (j : ℕ) (o : Option ℕ) → found c b ≡ Some j → (buffer c j).holder ≡ o → Acquired.Sleeping cause ≡ lock_answer o j (buffer c j).valid → WaitsFor (why_busy cause) c b × LeavesLocks c (after_lock o c pid j)
    by_lock j None at has e = absurd (cc e)
    by_lock j (Some q) at has e =
        let held : cause ≡ Busy.Held = cc e in
        let lock : HasLock c q b j = record { holder = has; block = block_is b (buffer c j).block (some_found c b j at).1 } in
        (subst (λ (k : Busy). WaitsFor (why_busy k) c b) (sym held) (q, j, lock), leaves_same c c refl)

    by_take : (o : Option ℕ) → Acquired.Sleeping cause ≡ take_answer o → WaitsFor (why_busy cause) c b × LeavesLocks c (after_take o c pid b)
    by_take None e = let full : cause ≡ Busy.NoBuffer = cc e in (subst (λ (k : Busy). WaitsFor (why_busy k) c b) (sym full) tt, leaves_same c c refl)
    by_take (Some j) e = absurd (cc e)

    by_found : (o : Option ℕ) → found c b ≡ o → Acquired.Sleeping cause ≡ answer_by o c → WaitsFor (why_busy cause) c b × LeavesLocks c (after_acquire_by o c pid b)
    by_found None at e = by_take (victim c) e
    by_found (Some j) at e = by_lock j (buffer c j).holder at refl e

-- the bytes of a slot whose block is held
pub data_now : {D : Type 0} (image : D → Image) (v w : VolumeState D) (i : ℕ) (bytes : List ℕ) → v ≡ w → (w.fault ≡ None → Joint (image v.device) v.buffers v.log) → bytes ≡ (buffer v.buffers i).bytes
    → (pid b : ℕ) → w.fault ≡ None → HoldsBlock w.buffers pid b i → bytes ≡ block_at (seen (image w.device) w.buffers) b
data_now {D} image v w i bytes is joint are pid b fine held =
    let j = joint fine in
    let here : HoldsBlock v.buffers pid b i = subst (λ (u : VolumeState D). HoldsBlock u.buffers pid b i) (sym is) held in
    subst (λ (u : VolumeState D). bytes ≡ block_at (seen (image u.device) u.buffers) b) is
    (are ∙ held_bytes (image v.device) v.buffers pid b i j.cache (locked_place pid b i j (held_lock here)).1 here)
