-- What the calls on a disk with its buffers and its log keep, and what they give.
use Rattle.std.proofs.Common.{◌≡◌, ⊎_elim, ℕ, ◌<◌, Bool, true, false, cond, eqb, List, length, refl, sym, ◌∙◌, ap, subst, arith, Option, Some, None}
use Rattle.std.specs.Prelude.{IfNone, IsSome}
use Rattle.wal.specs.Common.{after_acquire, after_acquire_by, after_begin, after_begin_by, after_lock, after_take, answer_at, answer_synced, appended, AreBlocks, begin_cause, block_at, block_or_zero, Buffer, buffer, buffer_same, Buffers, changed, closed, Commit, CommitSteps, CommitStepsAt, CommitsTo, CommitSyncs, Committed, CommitWrites, current_filled, current_hidden, current_kept, current_unfilled, DeviceFault, ended, EndsUnfilled, eq-eqb, Faulted, filled, found, Ghosts, HasRoom, header_block, Holds, Image, is_among, is_lawful_log, is_number_in, is_syncing, IsCache, IsSameOutsideLog, IsSettled, Joint, JointAt, left_by, LogState, noted, noted_cache, OnGot, Part, seen, Stepped, Synced, UnlessFault, Unsynced, used_by, victim, victim_free, VolumeState, Why}
use Rattle.wal.specs.Floats.{AreAfloat, IsAfloat, IsVolume, Survives}
use Rattle.wal.specs.Lemmas.Log.{some_open, is_open, quiet_of}
use Rattle.wal.proofs.FloatLemmas.{floats_here, survives}
use Rattle.wal.proofs.LogLemmas.{room_of}
use Rattle.wal.specs.Get.{Get}
use Rattle.wal.specs.Get as get
use Rattle.wal.proofs.CommitLemmas.{write_current, unpinned_current}
use Rattle.wal.proofs.CacheCallLemmas.{clean_shows, joint_filled}
use Rattle.wal.proofs.StepLemmas.{joint_lawful, some_block}
use Rattle.wal.specs.Lemmas.Volume.{IsAcquired, holds_now, changed_lock}
use Rattle.wal.specs.Lemmas.Faults.{where_none}

pub if_whole : {holds : Bool} {x : Image} {c : Buffers} {l : LogState} {left : Image → Type 0} (fault : Option DeviceFault) → Joint x c l → AreBlocks c → IsAfloat holds l.commit x l.homes left → IfNone fault (IsVolume holds x c l left)
if_whole None joint are floats = record { joint = joint; blocks = are; floats = floats }
if_whole (Some f) joint are floats = tt

pub if_joint : (holds : Bool) (x : Image) (c : Buffers) (l : LogState) (left : Image → Type 0) (fault : Option DeviceFault) → IfNone fault (IsVolume holds x c l left) → IfNone fault (Joint x c l)
if_joint holds x c l left None whole = whole.joint
if_joint holds x c l left (Some f) whole = tt

-- what recovery gives for each image that may be left
pub if_survives : (holds : Bool) (x : Image) (c : Buffers) (l : LogState) (left : Image → Type 0) (fault : Option DeviceFault) → IfNone fault (IsVolume holds x c l left) → IfNone fault ((z : Image) → left z → Survives l.commit x z)
if_survives holds x c l left None whole = λ z now. survives l.commit x c l z whole.joint (joint_lawful x c l whole.joint) (whole.floats.each z now)
if_survives holds x c l left (Some f) whole = tt

-- of a disk that holds no writes back no part waits for its sync
pub if_plain : (holds : Bool) (x : Image) (c : Buffers) (l : LogState) (left : Image → Type 0) (fault : Option DeviceFault) → IfNone fault (IsVolume holds x c l left) → IfNone fault (holds ≡ false → is_syncing l.commit ≡ false)
if_plain holds x c l left None whole = whole.floats.plain
if_plain holds x c l left (Some f) whole = tt

-- where the disk hasn't failed: v is what the fields of w were
pub joint_here : {D N : Type 0} (disk : Ghosts D N) (v w : VolumeState D) → v ≡ w → w.fault ≡ None → IfNone v.fault (IsVolume (disk.holding (disk.name v.device)) (disk.image v.device) v.buffers v.log (disk.leaves v.device (disk.moment v.device))) → Joint (disk.image v.device) v.buffers v.log
joint_here {D} {N} disk v w is none whole = (where_none v.fault (ap (λ (u : VolumeState D). u.fault) is ∙ none) whole).joint

pub blocks_here : {D N : Type 0} (disk : Ghosts D N) (v w : VolumeState D) → v ≡ w → w.fault ≡ None → IfNone v.fault (IsVolume (disk.holding (disk.name v.device)) (disk.image v.device) v.buffers v.log (disk.leaves v.device (disk.moment v.device))) → AreBlocks v.buffers
blocks_here {D} {N} disk v w is none whole = (where_none v.fault (ap (λ (u : VolumeState D). u.fault) is ∙ none) whole).blocks

pub floats_at : {D N : Type 0} (disk : Ghosts D N) (v w : VolumeState D) → v ≡ w → w.fault ≡ None → IfNone v.fault (IsVolume (disk.holding (disk.name v.device)) (disk.image v.device) v.buffers v.log (disk.leaves v.device (disk.moment v.device))) → IsAfloat (disk.holding (disk.name v.device)) v.log.commit (disk.image v.device) v.log.homes (disk.leaves v.device (disk.moment v.device))
floats_at {D} {N} disk v w is none whole = (where_none v.fault (ap (λ (u : VolumeState D). u.fault) is ∙ none) whole).floats

-- nothing is held: that is so in each phase
pub any_afloat : (x : Image) (left : Image → Type 0) (k : Commit) (hs : List ℕ) → is_lawful_log x ≡ true → IsSettled x left → AreAfloat k x hs left
any_afloat x left k hs lawful settled z now = floats_here k x z hs lawful (settled z now)

-- nothing is held while an operation is open
open_afloat : {holds : Bool} {x : Image} {c : Buffers} {left : Image → Type 0} (l m : LogState) (p u : ℕ) → Joint x c l → p < 32 → used_by l p ≡ Some u → is_syncing m.commit ≡ false → IsAfloat holds l.commit x l.homes left → IsAfloat holds m.commit x m.homes left
open_afloat {holds} {x} {c} {left} l m p u j lt held calm are =
    let quiet = quiet_of l.commit l j.log (is_open l l.commit p u j.log lt held) in
    record { each = any_afloat x left m.commit m.homes (joint_lawful x c l j) (subst (λ (k : Commit). AreAfloat k x l.homes left) quiet are.each); plain = λ free. calm }

-- an operation that is open in a quiet log
open_quiet : {x : Image} {c : Buffers} (l : LogState) (p u : ℕ) → Joint x c l → p < 32 → used_by l p ≡ Some u → is_syncing l.commit ≡ false
open_quiet l p u j lt held = ap is_syncing (quiet_of l.commit l j.log (is_open l l.commit p u j.log lt held))

ended_calm : (l : LogState) (p : ℕ) → is_syncing l.commit ≡ false → is_syncing (ended l p).commit ≡ false
ended_calm l p calm = by_last (eqb l.outstanding 1)
  where
    by_homes : (b : Bool) → is_syncing (cond b (record (left_by l p) { committed = l.opened }) (record (left_by l p) { commit = Commit.Logging 0 })).commit ≡ false
    by_homes true = calm
    by_homes false = refl

    by_last : (b : Bool) → is_syncing (cond b (closed (left_by l p)) (left_by l p)).commit ≡ false
    by_last true = by_homes (eqb (length l.homes) 0)
    by_last false = calm

pub end_afloat : {holds : Bool} {x : Image} {c : Buffers} {left : Image → Type 0} (l m : LogState) (p : ℕ) → Joint x c l → p < 32 → IsSome (used_by l p) → IsAfloat holds l.commit x l.homes left → m ≡ ended l p → IsAfloat holds m.commit x m.homes left
end_afloat l m p j lt some are is =
    let had = some_open (used_by l p) some in
    open_afloat l m p had.0 j lt had.1 (ap (λ (n : LogState). is_syncing n.commit) is ∙ ended_calm l p (open_quiet l p had.0 j lt had.1)) are

noted_calm : (l : LogState) (p b : ℕ) → is_syncing l.commit ≡ false → is_syncing (noted l p b).commit ≡ false
noted_calm l p b calm = by_home (is_among b l.homes)
  where
    by_home : (a : Bool) → is_syncing (cond a l (appended l p b)).commit ≡ false
    by_home true = calm
    by_home false = calm

pub room_afloat : {holds : Bool} {x : Image} {c : Buffers} {left : Image → Type 0} (l m : LogState) (p b : ℕ) → Joint x c l → p < 32 → HasRoom (used_by l p) → IsAfloat holds l.commit x l.homes left → m ≡ noted l p b → IsAfloat holds m.commit x m.homes left
room_afloat l m p b j lt room are is =
    let had = room_of (used_by l p) room in
    open_afloat l m p had.0 j lt had.1 (ap (λ (n : LogState). is_syncing n.commit) is ∙ noted_calm l p b (open_quiet l p had.0 j lt had.1)) are

-- a beginning leaves a commit that is under way alone
pub begin_afloat : {holds : Bool} (x : Image) (left : Image → Type 0) (l m : LogState) (p : ℕ) → IsAfloat holds l.commit x l.homes left → m ≡ after_begin l p → IsAfloat holds m.commit x m.homes left
begin_afloat {holds} x left l m p are is = subst (λ (n : LogState). IsAfloat holds n.commit x n.homes left) (sym is) (by_cause (begin_cause l))
  where
    by_cause : (o : Option Why) → IsAfloat holds (after_begin_by o l p).commit x (after_begin_by o l p).homes left
    by_cause None = are
    by_cause (Some cause) = are

-- a read adds nothing
pub read_afloat : {holds now : Bool} {x y : Image} {old new : Image → Type 0} (k : Commit) (hs : List ℕ) → IsAfloat holds k x hs old → y ≡ x → ((z : Image) → new z → old z) → now ≡ holds → IsAfloat now k y hs new
read_afloat {holds} {now} {x} {y} {old} {new} k hs are same fewer kind = record {
  each = subst (λ (w : Image). AreAfloat k w hs new) (sym same) (λ z left. are.each z (fewer z left));
  plain = λ free. are.plain (sym kind ∙ free);
}

pub buffer_here : {D : Type 0} (v w : VolumeState D) (i : ℕ) → v ≡ w → buffer v.buffers i ≡ buffer w.buffers i
buffer_here {D} v w i is = ap (λ (u : VolumeState D). buffer u.buffers i) is

-- a slot is acquired, or nothing changes: the current image stays
pub seen_acquired : {k : Commit} {x : Image} {l : LogState} (c d : Buffers) (pid b : ℕ) → JointAt k x c l → d ≡ after_acquire c pid b → seen x d ≡ seen x c
seen_acquired {k} {x} {l} c d pid b j is = ap (seen x) is ∙ by_found (found c b)
  where
    by_lock : (i : ℕ) (o : Option ℕ) → seen x (after_lock o c pid i) ≡ seen x c
    by_lock i None = current_kept x c i (record (buffer c i) { holder = Some pid }) refl refl refl
    by_lock i (Some q) = refl

    by_take : (o : Option ℕ) → victim c ≡ o → seen x (after_take o c pid b) ≡ seen x c
    by_take None e = refl
    by_take (Some i) e =
        let free = victim_free c i j.cache e in
        current_hidden x c i (record (buffer c i) { block = Some b; valid = false; holder = Some pid }) j.cache free.0 refl (λ a here. clean_shows c i a j (omega (arith, free.1)) here)

    by_found : (o : Option ℕ) → seen x (after_acquire_by o c pid b) ≡ seen x c
    by_found None = by_take (victim c) refl
    by_found (Some i) = by_lock i (buffer c i).holder

-- a slot is changed, after it was logged: it still has its block's bytes
pub put_holds : {x : Image} (c e d : Buffers) (l m : LogState) (p i : ℕ) (bytes : List ℕ) → Joint x d m → IsCache c → i < 40 → (buffer c i).holder ≡ Some p → IsSome (buffer c i).block → (buffer c i).valid ≡ true
    → e ≡ noted_cache l c i (block_or_zero (buffer c i).block) → d ≡ changed e i bytes → Holds (seen x d) d p (block_or_zero (buffer c i).block) i
put_holds {x} c e d l m p i bytes j is lt holder some valid are new =
    let b = block_or_zero (buffer c i).block in
    let all : buffer d i ≡ buffer (changed (noted_cache l c i b) i bytes) i = ap (λ (f : Buffers). buffer f i) new ∙ ap (λ (f : Buffers). buffer (changed f i bytes) i) are in
    let kept = changed_lock l c i b bytes (omega (arith, lt, is.size)) in
    holds_now d p b i j lt (ap (λ (s : Buffer). s.holder) all ∙ kept.holder ∙ holder) (ap (λ (s : Buffer). s.block) all ∙ kept.block ∙ some_block (buffer c i).block some) (ap (λ (s : Buffer). s.valid) all ∙ kept.valid ∙ valid)

-- the block of a slot lies inside the image
pub block_inside : {x : Image} {l : LogState} (c : Buffers) (i b : ℕ) → Joint x c l → (buffer c i).block ≡ Some b → block_or_zero (buffer c i).block < length x
block_inside {x} {l} c i b j block =
    omega (arith, (ap block_or_zero block), (j.behind i b (ap (is_number_in b) block ∙ eq-eqb b b refl)).1, j.size)

pub inside_here : {x : Image} {l : LogState} (c : Buffers) (i b : ℕ) → Joint x c l → (buffer c i).block ≡ Some b → b < length x
inside_here {x} {l} c i b j block = subst (λ (n : ℕ). n < length x) (ap block_or_zero block) (block_inside c i b j block)

-- a slot is filled: the current image stays
pub joint_got : {x y : Image} {l : LogState} (c d : Buffers) (i b : ℕ) → Joint x c l → i < 40 → (buffer c i).block ≡ Some b → (buffer c i).valid ≡ false → d ≡ filled c i (block_at x b) → y ≡ x
    → Joint y d l × (seen y d ≡ seen x c)
joint_got {x} {y} {l} c d i b j lt block hidden is same = (
  subst (λ (z : Image). Joint z d l) (sym same) (joint_filled c d i b j lt block hidden is),
  ap (λ (z : Image). seen z d) same ∙ ap (seen x) is ∙ current_filled x c i b j.cache lt block hidden,
)

-- so it is where the read failed
pub seen_unfilled : {x y : Image} (c d : Buffers) (i : ℕ) → (buffer c i).valid ≡ false → EndsUnfilled c i d → y ≡ x → seen y d ≡ seen x c
seen_unfilled {x} {y} c d i hidden left same = ap (λ (z : Image). seen z d) same ∙ ap (seen x) left.1 ∙ current_unfilled x c i left.0 hidden

-- what was filled is held
pub filled_holds : {x y : Image} {l : LogState} (c d : Buffers) (pid b i : ℕ) (r : Get) → Joint x c l → IsAcquired c pid b i false → UnlessFault r (r ≡ get.Got i) → UnlessFault r (d ≡ filled c i (block_at x b)) → y ≡ x
    → OnGot r (λ n. Holds (seen y d) d pid b n)
filled_holds {x} {y} {l} c d pid b i (get.Got n) j has answer is same =
    let now : buffer d i ≡ record (buffer c i) { valid = true; bytes = block_at x b } = ap (λ (e : Buffers). buffer e i) is ∙ buffer_same c i (record (buffer c i) { valid = true; bytes = block_at x b }) (omega (arith, has.slot, j.cache.size)) in
    let this : i ≡ n = cc answer in
    subst (λ (m : ℕ). Holds (seen y d) d pid b m) this
    (holds_now d pid b i (joint_got c d i b j has.slot has.block has.valid is same).0 has.slot (ap (λ (s : Buffer). s.holder) now ∙ has.holder) (ap (λ (s : Buffer). s.block) now ∙ has.block) (ap (λ (s : Buffer). s.valid) now))
filled_holds c d pid b i (get.Sleeping why) j has answer is same = tt
filled_holds c d pid b i (get.Fault fault) j has answer is same = tt

-- outside the log the current image stays
stepped_current : (holds : Bool) (h : List ℕ) (x : Image) (c : Buffers) (l : LogState) (y : Image) (d : Buffers) (m : LogState) (left : Image → Type 0) → Joint x c l → Stepped holds h x c l y d m left → IsSameOutsideLog (seen x c) (seen y d)
stepped_current holds h x c l y d m left j step =
    subst (λ (e : Buffers). IsSameOutsideLog (seen x c) (seen y e)) (sym step.cache)
    (subst (IsSameOutsideLog (seen x c)) (sym (unpinned_current l.commit l.homes y c))
    (subst (λ (z : Image). IsSameOutsideLog (seen x c) (seen z c)) (sym step.image) (write_current x c l h j)))

faulted_current : (h : List ℕ) (x : Image) (c : Buffers) (l : LogState) (y : Image) (d : Buffers) (m : LogState) → Joint x c l → Faulted h x c l y d m → IsSameOutsideLog (seen x c) (seen y d)
faulted_current h x c l y d m j step = subst (λ (e : Buffers). IsSameOutsideLog (seen x c) (seen y e)) (sym step.cache) (⊎_elim
    (λ old. subst (λ (z : Image). IsSameOutsideLog (seen x c) (seen z c)) (sym old) (record { size = refl; agree = λ a out. refl }))
    (λ new. subst (λ (z : Image). IsSameOutsideLog (seen x c) (seen z c)) (sym new) (write_current x c l h j))
    step.image)

-- the same disk and the same buffers
synced_current : (x : Image) (c : Buffers) (y : Image) (d : Buffers) → y ≡ x → d ≡ c → IsSameOutsideLog (seen x c) (seen y d)
synced_current x c y d same cache = subst (λ (e : Buffers). IsSameOutsideLog (seen x c) (seen y e)) (sym cache) (subst (λ (z : Image). IsSameOutsideLog (seen x c) (seen z c)) (sym same) (record { size = refl; agree = λ a out. refl }))

-- what a step makes of the buffers, whether it is a write or a sync
module _ {D N : Type 0} (disk : Ghosts D N) (d : D) (c : Buffers) (l : LogState) (r : Committed) (e : D) (f : Buffers) (m : LogState) where
  write_current_at : Joint (disk.image d) c l → CommitWrites disk d c l r e f m → IsSameOutsideLog (seen (disk.image d) c) (seen (disk.image e) f)
  write_current_at j w = by_answer r w.step
    where
      holds : Bool
      holds = disk.holding (disk.name d)

      by_answer : (r : Committed) → CommitsTo (answer_at holds l.commit l.opened) r (Stepped holds (header_block l.homes) (disk.image d) c l (disk.image e) f m (disk.leaves e (disk.moment e))) (Faulted (header_block l.homes) (disk.image d) c l (disk.image e) f m)
          → IsSameOutsideLog (seen (disk.image d) c) (seen (disk.image e) f)
      by_answer Committed.More step = stepped_current holds _ _ c l _ f m _ j step.1
      by_answer (Committed.Durable n) step = stepped_current holds _ _ c l _ f m _ j step.1
      by_answer Committed.Done step = stepped_current holds _ _ c l _ f m _ j step.1
      by_answer (Committed.Fault fault) step = faulted_current _ _ c l _ f m j step

  sync_current_at : (p : Part) → CommitSyncs disk p d c l r e f m → IsSameOutsideLog (seen (disk.image d) c) (seen (disk.image e) f)
  sync_current_at p w = synced_current (disk.image d) c (disk.image e) f w.image (by_answer r w.step)
    where
      by_answer : (r : Committed) → CommitsTo (answer_synced p l.opened) r (Synced p c l (disk.image e) f m (disk.leaves e (disk.moment e))) (Unsynced c l f m) → f ≡ c
      by_answer Committed.More step = step.1.cache
      by_answer (Committed.Durable n) step = step.1.cache
      by_answer Committed.Done step = step.1.cache
      by_answer (Committed.Fault fault) step = step.cache

  pub step_current : Joint (disk.image d) c l → CommitSteps disk d c l r e f m → IsSameOutsideLog (seen (disk.image d) c) (seen (disk.image e) f)
  step_current j step = by_phase l.commit step
    where
      by_phase : (k : Commit) → CommitStepsAt disk k d c l r e f m → IsSameOutsideLog (seen (disk.image d) c) (seen (disk.image e) f)
      by_phase Commit.Quiet w = absurd w
      by_phase (Commit.Logging n) w = write_current_at j w
      by_phase Commit.Heading w = write_current_at j w
      by_phase (Commit.Homing n) w = write_current_at j w
      by_phase Commit.Clearing w = write_current_at j w
      by_phase (Commit.Syncing p) w = sync_current_at p w
