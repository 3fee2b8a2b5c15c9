-- One step of a commit, from what its parts do.
use Rattle.std.proofs.Common.{◌≡◌, ◌≢◌, ℕ, Bool, true, false, List, set, refl, sym, ◌∙◌, ap, subst}
use Rattle.wal.specs.Common.{answer_at, answer_synced, Buffers, bytes_at, Commit, CommitsTo, Committed, DeviceFault, Faulted, held_at, Image, is_lawful_log, is_writing, IsFault, IsHeader, IsOldOrNew, IsSettled, Joint, JointAt, LeavesOldOrNew, LogState, Part, place_at, seen, source_at, Stepped, stepped_at, Synced, synced_at, written_at, written_cache}
use Rattle.wal.specs.Kept.{KeepsCommitted}
use Rattle.wal.specs.Floats.{AreAfloat, Floats}
use Rattle.wal.proofs.CommitLemmas.{wrote_next}
use Rattle.wal.proofs.RecoveredLemmas.{kept_write}
use Rattle.wal.proofs.CommitBytesLemmas.{source_current}
use Rattle.wal.proofs.PartLemmas.{passes, steps_on}
use Rattle.wal.proofs.FloatLemmas.{Lands, floats_here, lands}
use Rattle.wal.proofs.StepLemmas.{joint_lawful}

pub stepped : (holds : Bool) (h : List ℕ) (x : Image) (c : Buffers) (l : LogState) (y : Image) (d : Buffers) (m : LogState) (old left : Image → Type 0) → Joint x c l → is_writing l.commit ≡ true → IsHeader h l.homes
    → AreAfloat l.commit x l.homes old → LeavesOldOrNew (place_at l.commit l.homes) (source_at l.commit l.homes h c) old left → (holds ≡ false → IsSettled y left)
    → y ≡ set x (place_at l.commit l.homes) (source_at l.commit l.homes h c) → d ≡ written_cache l.commit l.homes c → m ≡ stepped_at holds l.commit l → Stepped holds h x c l y d m left
stepped holds h x c l y d m old left j writing head floats crash plain image cache log =
    let at = place_at l.commit l.homes in
    let next : Image = set x at (bytes_at l.commit l.homes h (seen x c)) in
    let written : y ≡ next = image ∙ ap (set x at) (source_current x c l h j) in
    let both : Joint next (written_cache l.commit l.homes c) (stepped_at holds l.commit l) = steps_on next (written_cache l.commit l.homes c) holds l.commit l j.log (wrote_next x c l h j writing head) writing in
    record {
      image = written;
      cache = cache;
      log = log;
      joint = subst (λ (z : Image). Joint z d m) (sym written) (subst (λ (e : Buffers). Joint next e m) (sym cache) (subst (λ (n : LogState). Joint next (written_cache l.commit l.homes c) n) (sym log) both));
      keeps = subst (λ (z : Image). KeepsCommitted l.commit x (seen x c) z) (sym written) (kept_write x c l h j writing head);
      floats = subst (λ (n : LogState). AreAfloat n.commit y n.homes left) (sym log)
          (by_kind holds plain (subst (λ (w : Image). is_lawful_log w ≡ true) (sym written) (joint_lawful next (written_cache l.commit l.homes c) (written_at l.commit l) (wrote_next x c l h j writing head)))
          (λ z now. subst (λ (w : Image). Floats (held_at l.commit l).commit w l.homes z) (sym written) (land z now).floats));
    }
  where
    land : (z : Image) → left z → Lands l.commit l h x c z
    land z now = let before = crash z now in lands x c l h before.0 z j writing head (floats before.0 before.1) (subst (λ (b : List ℕ). IsOldOrNew before.0 (place_at l.commit l.homes) b z) (source_current x c l h j) before.2)

    held : (k : Commit) → is_writing k ≡ true → AreAfloat (held_at k l).commit y l.homes left → AreAfloat (stepped_at true k l).commit y (stepped_at true k l).homes left
    held Commit.Quiet writes are = are
    held (Commit.Logging n) writes are = are
    held Commit.Heading writes are = are
    held (Commit.Homing n) writes are = are
    held Commit.Clearing writes are = are
    held (Commit.Syncing p) writes are = absurd (cc writes)

    by_kind : (b : Bool) → (b ≡ false → IsSettled y left) → is_lawful_log y ≡ true → AreAfloat (held_at l.commit l).commit y l.homes left → AreAfloat (stepped_at b l.commit l).commit y (stepped_at b l.commit l).homes left
    by_kind true plain lawful are = held l.commit writing are
    by_kind false plain lawful are = λ z now. floats_here (stepped_at false l.commit l).commit y z (stepped_at false l.commit l).homes lawful (plain refl z now)

pub faulted : (h : List ℕ) (x : Image) (c : Buffers) (l : LogState) (y : Image) → Joint x c l → IsOldOrNew x (place_at l.commit l.homes) (source_at l.commit l.homes h c) y → Faulted h x c l y c l
faulted h x c l y j left = record {
  image = subst (λ (b : List ℕ). IsOldOrNew x (place_at l.commit l.homes) b y) (source_current x c l h j) left;
  cache = refl;
  log = refl;
}

-- no step of a commit answers a fault where its call succeeded
pub commits_to : (answer r : Committed) (made failed : Type 0) → ((fault : DeviceFault) → answer ≢ Committed.Fault fault) → r ≡ answer → made → CommitsTo answer r made failed
commits_to answer r made failed none is done = by_answer r is
  where
    by_answer : (a : Committed) → a ≡ answer → CommitsTo answer a made failed
    by_answer Committed.More e = (sym e, done)
    by_answer (Committed.Durable g) e = (sym e, done)
    by_answer Committed.Done e = (sym e, done)
    by_answer (Committed.Fault fault) e = absurd (none fault (sym e))

-- what holds where it succeeded
pub made_counts : (answer r : Committed) (P : DeviceFault → Type 0) (failed made : Type 0) → ((fault : DeviceFault) → answer ≢ Committed.Fault fault) → r ≡ answer → made → IsFault r P failed made
made_counts answer r P failed made none is done = by_answer r is
  where
    by_answer : (a : Committed) → a ≡ answer → IsFault a P failed made
    by_answer Committed.More e = done
    by_answer (Committed.Durable g) e = done
    by_answer Committed.Done e = done
    by_answer (Committed.Fault fault) e = absurd (none fault (sym e))

pub no_sync_fault : (p : Part) (g : ℕ) (fault : DeviceFault) → answer_synced p g ≢ Committed.Fault fault
no_sync_fault Part.Log g fault = λ e. cc e
no_sync_fault Part.Header g fault = λ e. cc e
no_sync_fault Part.Homes g fault = λ e. cc e
no_sync_fault Part.Clear g fault = λ e. cc e

pub no_fault : (holds : Bool) (k : Commit) (g : ℕ) (fault : DeviceFault) → answer_at holds k g ≢ Committed.Fault fault
no_fault holds Commit.Quiet g fault = λ e. cc e
no_fault holds (Commit.Logging n) g fault = λ e. cc e
no_fault true Commit.Heading g fault = λ e. cc e
no_fault false Commit.Heading g fault = λ e. cc e
no_fault holds (Commit.Homing n) g fault = λ e. cc e
no_fault true Commit.Clearing g fault = λ e. cc e
no_fault false Commit.Clearing g fault = λ e. cc e
no_fault holds (Commit.Syncing p) g fault = no_sync_fault p g fault

-- the log's next phase begins with what reads give alone
pub synced : (p : Part) (x : Image) (c : Buffers) (l : LogState) (y : Image) (m : LogState) (left : Image → Type 0) → l.commit ≡ Commit.Syncing p → Joint x c l → y ≡ x → m ≡ synced_at p l → IsSettled y left
    → Synced p c l y c m left
synced p x c l y m left at j same log settled =
    let now : Joint y c m = subst (λ (z : Image). Joint z c m) (sym same) (subst (λ (n : LogState). Joint x c n) (sym log) (passes x c p l (subst (λ (k : Commit). JointAt k x c l) at j))) in
    record { cache = refl; log = log; joint = now; floats = λ z left_now. floats_here m.commit y z m.homes (joint_lawful y c m now) (settled z left_now); settled = settled }

pub crash_step : (h : List ℕ) (x : Image) (c : Buffers) (l : LogState) (old new : Image → Type 0) → Joint x c l → LeavesOldOrNew (place_at l.commit l.homes) (source_at l.commit l.homes h c) old new
    → LeavesOldOrNew (place_at l.commit l.homes) (bytes_at l.commit l.homes h (seen x c)) old new
crash_step h x c l old new j crash = subst (λ (b : List ℕ). LeavesOldOrNew (place_at l.commit l.homes) b old new) (source_current x c l h j) crash

-- what a crash leaves
pub crash_lands : (h : List ℕ) (x : Image) (c : Buffers) (l : LogState) (old new : Image → Type 0) → Joint x c l → is_writing l.commit ≡ true → IsHeader h l.homes → AreAfloat l.commit x l.homes old
    → LeavesOldOrNew (place_at l.commit l.homes) (source_at l.commit l.homes h c) old new → (z : Image) → new z → Lands l.commit l h x c z
crash_lands h x c l old new j writing head floats crash z left =
    let before = crash_step h x c l old new j crash z left in
    lands x c l h before.0 z j writing head (floats before.0 before.1) before.2
