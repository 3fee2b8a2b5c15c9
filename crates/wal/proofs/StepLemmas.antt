-- What the layers above cite: one lemma for each thing that a step does.
use Rattle.std.proofs.Common.{◌≡◌, ℕ, ◌+◌, ◌<◌, ◌≤◌, Bool, true, false, cond, List, length, get_or, set, refl, sym, ◌∙◌, ap, subst, arith, Option, Some, None}
use Rattle.std.specs.Prelude.{IsSome}
use Rattle.wal.specs.Common.{after_acquire, after_acquire_by, after_begin, after_begin_by, after_lock, after_take, appended, begin_cause, begun, block_is, block_or_zero, Buffer, buffer, buffer_same, Buffers, changed, Commit, ended, eq-eqb, found, HasRoom, Image, is_among, is_lawful_log, is_number_in, Joint, JointAt, locked, LogState, noted, noted_cache, overwritten, Part, pinned, seen, shows, some_found, taken, used_by, victim, victim_free, Why}
use Rattle.wal.proofs.LawfulLogs.{header_lawful}
use Rattle.wal.specs.Lemmas.Commits.{empty_lawful}
use Rattle.wal.specs.Lemmas.Log.{few_homes, some_open, is_open, quiet_of}
use Rattle.wal.proofs.CacheCallLemmas.{joint_locked, joint_taken, joint_changed}
use Rattle.wal.proofs.LogCallLemmas.{joint_noted, joint_begun, joint_ended}
use Rattle.wal.proofs.LogLemmas.{room_of}

-- between any two calls the disk's log is lawful
pub joint_lawful : (x : Image) (c : Buffers) (l : LogState) → Joint x c l → is_lawful_log x ≡ true
joint_lawful x c l j = by_phase l.commit j
  where
    by_phase : (k : Commit) → JointAt k x c l → is_lawful_log x ≡ true
    by_phase Commit.Quiet j = empty_lawful x j.phase
    by_phase (Commit.Logging n) j = empty_lawful x j.phase.0
    by_phase Commit.Heading j = empty_lawful x j.phase.0
    by_phase (Commit.Homing n) j = header_lawful x l.size l.homes j.size (few_homes j.log) j.log.places j.phase.0
    by_phase Commit.Clearing j = header_lawful x l.size l.homes j.size (few_homes j.log) j.log.places j.phase.0
    by_phase (Commit.Syncing Part.Log) j = empty_lawful x j.phase.0
    by_phase (Commit.Syncing Part.Header) j = header_lawful x l.size l.homes j.size (few_homes j.log) j.log.places j.phase.0
    by_phase (Commit.Syncing Part.Homes) j = header_lawful x l.size l.homes j.size (few_homes j.log) j.log.places j.phase.0
    by_phase (Commit.Syncing Part.Clear) j = empty_lawful x j.phase

-- a block is logged, and then its bytes are changed: the current image changes in that block alone
pub joint_used : {x : Image} (c e d : Buffers) (l m : LogState) (p i b : ℕ) (bytes : List ℕ) → Joint x c l → p < 32 → HasRoom (get_or l.used p None) → i < 40 → (buffer c i).block ≡ Some b → (buffer c i).valid ≡ true
    → m ≡ noted l p b → e ≡ noted_cache l c i b → d ≡ changed e i bytes → Joint x d m × (seen x d ≡ set (seen x c) b bytes)
joint_used {x} c e d l m p i b bytes j lt room slot block valid is are new =
    let open_now = room_of (get_or l.used p None) room in
    let quiet : l.commit ≡ Commit.Quiet = quiet_of l.commit l j.log (is_open l l.commit p open_now.0 j.log lt open_now.1) in
    let here : shows b (buffer c i) ≡ true = shows_now (buffer c i) b valid block in
    let noted_now = joint_noted c e l m p i b (subst (λ (k : Commit). JointAt k x c l) quiet j) quiet lt room slot here is are in
    let stays : m.commit ≡ Commit.Quiet = ap (λ (n : LogState). n.commit) is ∙ kept_commit (is_among b l.homes) ∙ quiet in
    let still : shows b (buffer e i) ≡ true = ap (λ (f : Buffers). shows b (buffer f i)) are ∙ kept_shows (is_among b l.homes) ∙ here in
    let done = joint_changed e d i b bytes (subst (λ (k : Commit). JointAt k x e m) stays noted_now.0) slot still noted_now.1 new in
    (subst (λ (k : Commit). JointAt k x d m) (sym stays) done.0, done.1 ∙ ap (λ (z : Image). set z b bytes) noted_now.2)
  where
    shows_now : (s : Buffer) (b : ℕ) → s.valid ≡ true → s.block ≡ Some b → shows b s ≡ true
    shows_now s b valid block = grind (arith, valid, block)

    kept_commit : (t : Bool) → (cond t l (appended l p b)).commit ≡ l.commit
    kept_commit true = refl
    kept_commit false = refl

    kept_shows : (t : Bool) → shows b (buffer (cond t c (pinned c i)) i) ≡ shows b (buffer c i)
    kept_shows true = refl
    kept_shows false = ap (shows b) (buffer_same c i (record (buffer c i) { pins = (buffer c i).pins + 1 }) (omega (arith, slot, j.cache.size)))

-- a slot is acquired, or nothing changes: the current image stays
pub joint_acquired : {x : Image} {k : Commit} {l : LogState} (c d : Buffers) (p b : ℕ) → JointAt k x c l → 33 ≤ b → b < l.size → d ≡ after_acquire c p b → JointAt k x d l
joint_acquired {x} {k} {l} c d p b j low high is = subst (λ (e : Buffers). JointAt k x e l) (sym is) (by_found (found c b) refl)
  where
    by_lock : (i : ℕ) (o : Option ℕ) → i < 40 → (buffer c i).block ≡ Some b → JointAt k x (after_lock o c p i) l
    by_lock i None lt block = joint_locked c (locked c p i) p b i j lt block refl
    by_lock i (Some q) lt block = j

    by_take : (o : Option ℕ) → victim c ≡ o → found c b ≡ None → JointAt k x (after_take o c p b) l
    by_take None e none = j
    by_take (Some i) e none =
        let free = victim_free c i j.cache e in
        joint_taken c (taken c p b i) p b i j free.0 none (omega (arith, free.1)) low high refl

    by_found : (o : Option ℕ) → found c b ≡ o → JointAt k x (after_acquire_by o c p b) l
    by_found None e = by_take (victim c) refl e
    by_found (Some i) e = let f = some_found c b i e in by_lock i (buffer c i).holder (omega (arith, f.0, j.cache.size)) (block_is b (buffer c i).block f.1)

pub some_block : (o : Option ℕ) → IsSome o → o ≡ Some (block_or_zero o)
some_block None some = cc
some_block (Some b) some = refl

-- a slot's block is one of the file system
pub block_behind : {k : Commit} {x : Image} {l : LogState} (c : Buffers) (i : ℕ) → JointAt k x c l → IsSome (buffer c i).block → (33 ≤ block_or_zero (buffer c i).block) × (block_or_zero (buffer c i).block < l.size)
block_behind {k} {x} {l} c i j some = j.behind i (block_or_zero (buffer c i).block) (ap (is_number_in (block_or_zero (buffer c i).block)) (some_block (buffer c i).block some) ∙ eq-eqb (block_or_zero (buffer c i).block) (block_or_zero (buffer c i).block) refl)

-- a slot is logged: its bytes stay
pub noted_bytes : (l : LogState) (c : Buffers) (i b : ℕ) → i < length c.slots → (buffer (noted_cache l c i b) i).bytes ≡ (buffer c i).bytes
noted_bytes l c i b lt = by_home (is_among b l.homes)
  where
    by_home : (t : Bool) → (buffer (cond t c (pinned c i)) i).bytes ≡ (buffer c i).bytes
    by_home true = refl
    by_home false = ap (λ (s : Buffer). s.bytes) (buffer_same c i (record (buffer c i) { pins = (buffer c i).pins + 1 }) lt)

-- the same, from what `log_write` and `put` ensure
pub joint_put : {x : Image} (c e d : Buffers) (l m : LogState) (p i n : ℕ) (bytes : List ℕ) → Joint x c l → p < 32 → HasRoom (get_or l.used p None) → i < 40 → IsSome (buffer c i).block → (buffer c i).valid ≡ true
    → m ≡ noted l p (block_or_zero (buffer c i).block) → e ≡ noted_cache l c i (block_or_zero (buffer c i).block) → d ≡ changed e i (overwritten (buffer e i).bytes n bytes)
    → Joint x d m × (seen x d ≡ set (seen x c) (block_or_zero (buffer c i).block) (overwritten (buffer c i).bytes n bytes))
joint_put {x} c e d l m p i n bytes j lt room slot some valid is are new =
    let b = block_or_zero (buffer c i).block in
    let used = joint_used c e d l m p i b (overwritten (buffer e i).bytes n bytes) j lt room slot (some_block (buffer c i).block some) valid is are new in
    let same : (buffer e i).bytes ≡ (buffer c i).bytes = ap (λ (f : Buffers). (buffer f i).bytes) are ∙ noted_bytes l c i b (omega (arith, slot, j.cache.size)) in
    (used.0, used.1 ∙ ap (λ (v : List ℕ). set (seen x c) b (overwritten v n bytes)) same)

-- a beginning that is let in, or sleeps
pub joint_after_begin : {x : Image} {c : Buffers} (l m : LogState) (p : ℕ) → Joint x c l → p < 32 → used_by l p ≡ None → m ≡ after_begin l p → Joint x c m
joint_after_begin {x} {c} l m p j lt none is = subst (λ (n : LogState). Joint x c n) (sym is) (by_cause (begin_cause l) refl)
  where
    by_cause : (cause : Option Why) → begin_cause l ≡ cause → Joint x c (after_begin_by cause l p)
    by_cause None free = joint_begun l (begun l p) p j free lt none refl
    by_cause (Some why) free = j

-- the end of an operation that is open
pub joint_after_end : {x : Image} {c : Buffers} (l m : LogState) (p : ℕ) → Joint x c l → p < 32 → IsSome (used_by l p) → m ≡ ended l p → Joint x c m
joint_after_end {x} {c} l m p j lt held is =
    let had = some_open (used_by l p) held in
    let quiet : l.commit ≡ Commit.Quiet = quiet_of l.commit l j.log (is_open l l.commit p had.0 j.log lt had.1) in
    joint_ended l m p (subst (λ (k : Commit). JointAt k x c l) quiet j) quiet lt held is
