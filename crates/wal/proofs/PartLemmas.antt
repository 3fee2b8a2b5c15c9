-- A part of a commit waits for its sync, and goes on after it.
use Rattle.std.proofs.Common.{◌≡◌, ℕ, ◌+◌, ◌==◌, Bool, true, false, cond, List, [], length, refl, sym, ◌∙◌, ap, arith}
use Rattle.std.proofs.Math.Seq.{drop-length}
use Rattle.wal.specs.Common.{buffer, Buffers, Commit, held_at, Image, is_among, is_writing, IsLogAt, Joint, JointAt, live_at, LogState, Part, Phase, pins_of, seen, stepped_at, synced_at, written_at}
use Rattle.wal.proofs.CommitLemmas.{in_phase}
use Rattle.wal.proofs.LogLemmas.{no_homes}

module _ (x : Image) (c : Buffers) where
  -- in another phase, with the same disk and buffers
  moved : (k n : Commit) (l m : LogState) → JointAt k x c l → m.size ≡ l.size → IsLogAt n m → live_at n m.homes ≡ live_at k l.homes → Phase n x (seen x c) m.homes → JointAt n x c m
  moved k n l m j size is live phase = record {
    size = j.size ∙ sym size;
    cache = j.cache;
    log = is;
    behind = λ i b e. let old = j.behind i b e in (old.0, omega (arith, old.1, size));
    pins = λ i. j.pins i ∙ ap (λ (hs : List ℕ). pins_of hs (buffer c i).block) (sym live);
    held = j.held;
    cached = λ h among. j.cached h (ap (is_among h) (sym live) ∙ among);
    clean = λ b out. j.clean b (ap (is_among b) (sym live) ∙ out);
    phase = phase;
  }

  -- THE SYNC OF A PART
  pub passes : (p : Part) (l : LogState) → JointAt (Commit.Syncing p) x c l → Joint x c (synced_at p l)
  passes Part.Log l j = moved (Commit.Syncing Part.Log) Commit.Heading l (record l { commit = Commit.Heading }) j refl
      (in_phase (Commit.Syncing Part.Log) Commit.Heading l l.homes l.committed j.log j.log.idle.0 j.log.idle j.log.places (omega arith) j.log.counts) refl j.phase
  passes Part.Header l j = moved (Commit.Syncing Part.Header) (Commit.Homing 0) l (record l { commit = Commit.Homing 0; committed = l.opened }) j refl
      (in_phase (Commit.Syncing Part.Header) (Commit.Homing 0) l l.homes l.opened j.log j.log.idle.0 j.log.idle j.log.places (omega arith) refl) refl j.phase
  passes Part.Homes l j = moved (Commit.Syncing Part.Homes) Commit.Clearing l (record l { commit = Commit.Clearing }) j refl
      (in_phase (Commit.Syncing Part.Homes) Commit.Clearing l l.homes l.committed j.log j.log.idle.0 j.log.idle j.log.places (omega arith) j.log.counts) refl j.phase
  passes Part.Clear l j = moved (Commit.Syncing Part.Clear) Commit.Quiet l (record l { commit = Commit.Quiet; homes = [] }) j refl
      (in_phase (Commit.Syncing Part.Clear) Commit.Quiet l [] l.committed j.log j.log.idle.0 (λ over. refl) (no_homes l.size) (omega arith) (omega (arith, j.log.counts, j.log.idle.0))) (sym (drop-length l.homes)) j.phase

  -- a write after which a disk that holds writes back waits
  pub waits : (k : Commit) (l : LogState) → IsLogAt k l → Joint x c (written_at k l) → is_writing k ≡ true → Joint x c (held_at k l)
  waits Commit.Quiet l is j writing = absurd (cc writing)
  waits (Commit.Syncing p) l is j writing = absurd (cc writing)
  waits (Commit.Logging n) l is j writing = by_last (n + 1 == length l.homes) j
    where
      by_last : (b : Bool) → Joint x c (record l { commit = cond b Commit.Heading (Commit.Logging (n + 1)) }) → Joint x c (record l { commit = cond b (Commit.Syncing Part.Log) (Commit.Logging (n + 1)) })
      by_last true j = moved Commit.Heading (Commit.Syncing Part.Log) (record l { commit = Commit.Heading }) (record l { commit = Commit.Syncing Part.Log }) j refl
          (in_phase Commit.Heading (Commit.Syncing Part.Log) (record l { commit = Commit.Heading }) l.homes l.committed j.log j.log.idle.0 j.log.idle j.log.places (omega arith) j.log.counts) refl j.phase
      by_last false j = j
  waits Commit.Heading l is j writing = moved (Commit.Homing 0) (Commit.Syncing Part.Header) (record l { commit = Commit.Homing 0; committed = l.opened }) (record l { commit = Commit.Syncing Part.Header }) j refl
      (in_phase Commit.Heading (Commit.Syncing Part.Header) l l.homes l.committed is is.idle.0 is.idle is.places (omega arith) is.counts) refl j.phase
  waits (Commit.Homing n) l is j writing = by_last (n + 1 == length l.homes) j
    where
      by_last : (b : Bool) → Joint x c (record l { commit = cond b Commit.Clearing (Commit.Homing (n + 1)) }) → Joint x c (record l { commit = cond b (Commit.Syncing Part.Homes) (Commit.Homing (n + 1)) })
      by_last true j = moved Commit.Clearing (Commit.Syncing Part.Homes) (record l { commit = Commit.Clearing }) (record l { commit = Commit.Syncing Part.Homes }) j refl
          (in_phase Commit.Clearing (Commit.Syncing Part.Homes) (record l { commit = Commit.Clearing }) l.homes l.committed j.log j.log.idle.0 j.log.idle j.log.places (omega arith) j.log.counts) refl j.phase
      by_last false j = j
  waits Commit.Clearing l is j writing = moved Commit.Quiet (Commit.Syncing Part.Clear) (record l { commit = Commit.Quiet; homes = [] }) (record l { commit = Commit.Syncing Part.Clear }) j refl
      (in_phase Commit.Clearing (Commit.Syncing Part.Clear) l l.homes l.committed is is.idle.0 is.idle is.places (omega arith) is.counts) (drop-length l.homes) j.phase

  -- over either kind of disk
  pub steps_on : (holds : Bool) (k : Commit) (l : LogState) → IsLogAt k l → Joint x c (written_at k l) → is_writing k ≡ true → Joint x c (stepped_at holds k l)
  steps_on holds Commit.Quiet l is j writing = absurd (cc writing)
  steps_on holds (Commit.Syncing p) l is j writing = absurd (cc writing)
  steps_on true (Commit.Logging n) l is j writing = waits (Commit.Logging n) l is j writing
  steps_on true Commit.Heading l is j writing = waits Commit.Heading l is j writing
  steps_on true (Commit.Homing n) l is j writing = waits (Commit.Homing n) l is j writing
  steps_on true Commit.Clearing l is j writing = waits Commit.Clearing l is j writing
  steps_on false (Commit.Logging n) l is j writing = j
  steps_on false Commit.Heading l is j writing = j
  steps_on false (Commit.Homing n) l is j writing = j
  steps_on false Commit.Clearing l is j writing = j
