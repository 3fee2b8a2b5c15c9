-- What a write of a commit keeps of disk, buffers and log together.
use Rattle.std.proofs.Common.{◌≡◌, ◌≢◌, inl, inr, ℕ, zero, suc, ◌+◌, ◌*◌, ◌-◌, ◌<◌, ◌≤◌, ◌==◌, ◌||◌, Bool, true, false, cond, List, [], ◌∷◌, length, get_or, set, take, drop, length-drop, refl, sym, ◌∙◌, ap, subst, arith, Option, Some, None, length-set, add-one}
use Rattle.std.specs.Prelude.{slice_index}
use Rattle.std.proofs.Math.Seq.{drop-cons, drop-length}
use Rattle.wal.specs.Common.{and_parts, AreHomes, block_at, block_is, both_ways, Buffer, buffer, Buffers, bytes_at, cache_kept, cases_eq, Commit, cond-false, cond-true, Counts, current_kept, current_same_write, current_write, each_buffer, eq-eqb, eqb-true, false_from_ne_true, found, get_or-drop, get_or-set_other, get_or-set_same, get_or-take, get_or_default, HasHeader, homes_in, homes_of, Idle, Image, is_among, is_number_in, is_of, is_writing, IsHeader, IsLogAt, IsSameOutsideLog, IsWithin, Joint, JointAt, length-current, length-take-le, list_any_at, list_any_none, live_at, logged_count, logged_in, Logs, LogState, ne_eqb, none_found, or_from, or_parts, or_right, Part, Phase, pins_of, place_at, seen, shows, some_found, u32_at, unpinned, unpinned_found, written_at, written_cache, zero_block, zero_header}
use Rattle.wal.proofs.LawfulLogs.{home_facts}
use Rattle.wal.proofs.LogLemmas.{no_homes, none_added}
use Rattle.wal.specs.Lemmas.Commits.{logged-same, outside_log}
use Rattle.wal.specs.Lemmas.Volume.{none_low}

pub homes-same : (x y : Image) → block_at y 2 ≡ block_at x 2 → homes_of y ≡ homes_of x
homes-same x y same = ap homes_in same

pub none_logged : (x : Image) → block_at x 2 ≡ zero_block → logged_count x ≡ 0
none_logged x is = ap (λ bytes. u32_at bytes 0) is ∙ zero_header

pub among_drop : (b k : ℕ) (hs : List ℕ) → is_among b hs ≡ false → is_among b (drop k hs) ≡ false
among_drop b zero hs out = out
among_drop b (suc k) [] out = refl
among_drop b (suc k) (h ∷ hs) out = let parts = or_parts (h == b) (is_among b hs) out in among_drop b k hs parts.1

-- a home is at 33 at least
pub home_far : (size : ℕ) (hs : List ℕ) (j : ℕ) → AreHomes size hs → j < length hs → 33 ≤ slice_index hs j
home_far size hs j are lt = (home_facts are).behind j lt

logs_low : (size m b : ℕ) (x cur : Image) (hs v : List ℕ) → AreHomes size hs → m ≤ length hs → b < 33 → ((j : ℕ) → j < m → 3 + j ≢ b) → Logs m x cur hs → Logs m (set x b v) (set cur b v) hs
logs_low size m b x cur hs v are few low apart logs j lt =
    let far = home_far size hs j are (omega (arith, lt, few)) in
    get_or-set_other x b (3 + j) v [] (apart j lt) ∙ logs j lt ∙ sym (get_or-set_other cur b (slice_index hs j) v [] (λ same. omega (arith, far, same)))

-- a write to a low block, after which the log stands in another phase
pub wrote_low : {k : Commit} {x : Image} {l : LogState} (c : Buffers) (n : Commit) (m : LogState) (b : ℕ) (v : List ℕ) → JointAt k x c l → b < 33
    → m.size ≡ l.size → IsLogAt n m → live_at n m.homes ≡ live_at k l.homes → Phase n (set x b v) (set (seen x c) b v) m.homes → JointAt n (set x b v) c m
wrote_low {k} {x} {l} c n m b v j low size is live phase = record {
  size = length-set x b v ∙ j.size ∙ sym size;
  cache = j.cache;
  log = is;
  behind = λ i a e. let old = j.behind i a e in (old.0, omega (arith, old.1, size));
  pins = λ i. j.pins i ∙ ap (λ (hs : List ℕ). pins_of hs (buffer c i).block) (sym live);
  cached = λ h among. j.cached h (ap (is_among h) (sym live) ∙ among);
  held = j.held;
  clean = λ a out. ap (λ (z : Image). block_at z a) cur ∙ elim (cases_eq a b) [
    | inl same ↦
        let inside : b < length x = omega (arith, low, j.size, j.log.big) in
        ap (block_at (set (seen x c) b v)) same ∙ get_or-set_same (seen x c) b v [] (omega (arith, length-current x c)) ∙ sym (ap (block_at (set x b v)) same ∙ get_or-set_same x b v [] inside)
    | inr other ↦ get_or-set_other (seen x c) b a v [] other ∙ j.clean a (ap (is_among a) (sym live) ∙ out) ∙ sym (get_or-set_other x b a v [] other)
  ];
  phase = subst (λ (z : Image). Phase n (set x b v) z m.homes) (sym cur) phase;
}
  where
    cur : seen (set x b v) c ≡ set (seen x c) b v
    cur = current_write x c b v (none_low c b j low)

-- the log in another phase
pub in_phase : (k n : Commit) (l : LogState) (hs : List ℕ) (done : ℕ) → IsLogAt k l → l.outstanding ≡ 0 → Idle n (record l { commit = n; homes = hs; committed = done }) → AreHomes l.size hs → length hs ≤ length l.homes → Counts n (record l { commit = n; homes = hs; committed = done }) → IsLogAt n (record l { commit = n; homes = hs; committed = done })
in_phase k n l hs done is none idle are few counts = record {
  big = is.big;
  small = is.small;
  places = are;
  pids = is.pids;
  open_ones = is.open_ones;
  each = is.each;
  added = omega (arith, none_added l.used (sym is.open_ones ∙ ap (λ (m : ℕ). 10 * m) none));
  room = omega (arith, is.room, few);
  idle = idle;
  counts = counts;
}

-- one log block more
logs_more : (size n : ℕ) (x cur : Image) (hs : List ℕ) → AreHomes size hs → n < length hs → n < 30 → 33 ≤ length x → Logs n x cur hs
    → Logs (n + 1) (set x (3 + n) (block_at cur (slice_index hs n))) (set cur (3 + n) (block_at cur (slice_index hs n))) hs
logs_more size n x cur hs are lt few big logs j le =
    let v = block_at cur (slice_index hs n) in
    elim (cases_eq j n) [
      | inl same ↦
          let far = home_far size hs j are (omega (arith, same, lt)) in
          ap (λ (i : ℕ). block_at (set x (3 + n) v) (3 + i)) same ∙ get_or-set_same x (3 + n) v [] (omega (arith, big, few)) ∙ ap (λ (i : ℕ). block_at cur (slice_index hs i)) (sym same)
          ∙ sym (get_or-set_other cur (3 + n) (slice_index hs j) v [] (λ e. omega (arith, far, e, few)))
      | inr other ↦
          let far = home_far size hs j are (omega (arith, le, lt)) in
          get_or-set_other x (3 + n) (3 + j) v [] (λ e. other (omega (arith, e))) ∙ logs j (omega (arith, le, other))
          ∙ sym (get_or-set_other cur (3 + n) (slice_index hs j) v [] (λ e. omega (arith, far, e, few)))
    ]

-- the log block of a home is written
pub wrote_log : (x : Image) (c : Buffers) (l : LogState) (n : ℕ) → JointAt (Commit.Logging n) x c l
    → Joint (set x (3 + n) (block_at (seen x c) (slice_index l.homes n))) c (written_at (Commit.Logging n) l)
wrote_log x c l n j = by_last (n + 1 == length l.homes) refl
  where
    v : List ℕ
    v = block_at (seen x c) (slice_index l.homes n)

    few : n < 30
    few = omega (arith, j.log.idle.1, j.log.room)

    none : logged_count (set x (3 + n) v) ≡ 0
    none = logged-same x (set x (3 + n) v) (get_or-set_other x (3 + n) 2 v [] (λ e. omega (arith, e))) ∙ j.phase.0

    logs : Logs (n + 1) (set x (3 + n) v) (set (seen x c) (3 + n) v) l.homes
    logs = logs_more l.size n x (seen x c) l.homes j.log.places j.log.idle.1 few (omega (arith, j.size, j.log.big)) j.phase.1

    by_last : (b : Bool) → (n + 1 == length l.homes) ≡ b → Joint (set x (3 + n) v) c (record l { commit = cond b Commit.Heading (Commit.Logging (n + 1)) })
    by_last true e =
        let all : n + 1 ≡ length l.homes = eqb-true _ _ e in
        wrote_low c Commit.Heading (record l { commit = Commit.Heading }) (3 + n) v j (omega (arith, few)) refl
        (in_phase (Commit.Logging n) Commit.Heading l l.homes l.committed j.log j.log.idle.0 (j.log.idle.0, omega (arith, j.log.idle.1)) j.log.places (omega arith) j.log.counts) refl
        (none, subst (λ (m : ℕ). Logs m (set x (3 + n) v) (set (seen x c) (3 + n) v) l.homes) all logs)
    by_last false e =
        let more : n + 1 < length l.homes = (let away : n + 1 ≢ length l.homes = λ same. both_ways _ e (eq-eqb _ _ same) in omega (arith, away, j.log.idle.1)) in
        wrote_low c (Commit.Logging (n + 1)) (record l { commit = Commit.Logging (n + 1) }) (3 + n) v j (omega (arith, few)) refl
        (in_phase (Commit.Logging n) (Commit.Logging (n + 1)) l l.homes l.committed j.log j.log.idle.0 (j.log.idle.0, more) j.log.places (omega arith) j.log.counts) refl
        (none, logs)

-- a header is read as its homes
pub header_read : (x : Image) (h hs : List ℕ) → block_at x 2 ≡ h → IsHeader h hs → HasHeader x hs
header_read x h hs is head = record { count = ap logged_in is ∙ head.count; each = ap homes_in is ∙ head.each }

-- the header with the homes is written
pub wrote_header : (x : Image) (c : Buffers) (l : LogState) (h : List ℕ) → JointAt Commit.Heading x c l → IsHeader h l.homes → Joint (set x 2 h) c (written_at Commit.Heading l)
wrote_header x c l h j head =
    wrote_low c (Commit.Homing 0) (record l { commit = Commit.Homing 0; committed = l.opened }) 2 h j (omega arith) refl
    (in_phase Commit.Heading (Commit.Homing 0) l l.homes l.opened j.log j.log.idle.0 (j.log.idle.0, j.log.idle.1) j.log.places (omega arith) refl) refl (
      header_read (set x 2 h) h l.homes (get_or-set_same x 2 h [] (omega (arith, j.size, j.log.big))) head,
      logs_low l.size (length l.homes) 2 x (seen x c) l.homes h j.log.places (omega arith) (omega arith) (λ i lt e. omega (arith, e)) j.phase.1,
    )

-- the empty header is written
pub wrote_empty : (x : Image) (c : Buffers) (l : LogState) → JointAt Commit.Clearing x c l → Joint (set x 2 zero_block) c (written_at Commit.Clearing l)
wrote_empty x c l j =
    wrote_low c Commit.Quiet (record l { commit = Commit.Quiet; homes = [] }) 2 zero_block j (omega arith) refl
    (in_phase Commit.Clearing Commit.Quiet l [] l.committed j.log j.log.idle.0 (λ over. refl) (no_homes l.size) (omega arith) (omega (arith, j.log.counts, j.log.idle.0))) (sym (drop-length l.homes))
    (none_logged (set x 2 zero_block) (get_or-set_same x 2 zero_block [] (omega (arith, j.size, j.log.big))))

-- a home is not among those behind it
home_once : (size : ℕ) (hs : List ℕ) (n : ℕ) → AreHomes size hs → n < length hs → is_among (slice_index hs n) (drop (n + 1) hs) ≡ false
home_once size hs n are lt = list_any_none (λ h. h == slice_index hs n) (drop (n + 1) hs) (λ i d inside.
    ne_eqb (get_or (drop (n + 1) hs) i d) (slice_index hs n) (λ same.
    let m = n + 1 + i in
    let far : m < length hs = grind (arith, length-drop (n + 1) hs, inside) in
    let apart : is_among (get_or hs m 0) (take m hs) ≡ false = (home_facts are).once m far in
    let equal : get_or (take m hs) n 0 ≡ get_or hs m 0 = get_or-take m hs n 0 (omega arith) ∙ sym same ∙ (get_or-drop (n + 1) hs i d ∙ get_or_default hs m d 0 far) in
    both_ways _ apart (list_any_at (λ h. h == get_or hs m 0) (take m hs) n 0 (omega (arith, length-take-le m hs (omega (arith, far)))) (eq-eqb _ _ equal))))

-- the pins of a slot of another block
pins_other : (o : Option ℕ) (h : ℕ) (ds : List ℕ) → is_number_in h o ≡ false → pins_of (h ∷ ds) o ≡ pins_of ds o
pins_other None h ds away = refl
pins_other (Some b) h ds away =
    ap (λ (t : Bool). cond (t || is_among b ds) 1 0) away

-- a home is written, and its buffer unpinned
pub wrote_home : (x : Image) (c : Buffers) (l : LogState) (n : ℕ) → JointAt (Commit.Homing n) x c l
    → Joint (set x (slice_index l.homes n) (block_at (seen x c) (slice_index l.homes n))) (written_cache (Commit.Homing n) l.homes c) (written_at (Commit.Homing n) l)
wrote_home x c l n j = by_found (found c h) refl
  where
    hs : List ℕ
    hs = l.homes

    h : ℕ
    h = slice_index hs n

    lt : n < length hs
    lt = j.log.idle.1

    rest : List ℕ
    rest = drop (n + 1) hs

    split : drop n hs ≡ h ∷ rest
    split = drop-cons hs n 0 lt ∙ ap (λ (m : ℕ). h ∷ drop m hs) (sym (add-one n))

    v : List ℕ
    v = block_at (seen x c) h

    y : Image
    y = set x h v

    among : is_among h (drop n hs) ≡ true
    among = ap (is_among h) split ∙ ap (λ (t : Bool). t || is_among h rest) (eq-eqb h h refl)

    inside : h < length x
    inside = omega (arith, (home_facts j.log.places).within n lt, j.size)

    kept : (b : ℕ) → is_among b rest ≡ true → is_among b (drop n hs) ≡ true
    kept b e = ap (is_among b) split ∙ or_right (h == b) (is_among b rest) e

    by_found : (o : Option ℕ) → found c h ≡ o → Joint y (unpinned_found c o) (written_at (Commit.Homing n) l)
    by_found None e = absurd (let at = j.cached h among in both_ways (is_of h (buffer c at.0)) (none_found c h e at.0) (and_parts (buffer c at.0).valid (is_of h (buffer c at.0)) at.2).1)
    by_found (Some i) e = by_last (n + 1 == length hs) refl
      where
        is : (i < length c.slots) × (is_of h (buffer c i) ≡ true)
        is = some_found c h i e

        shown_here : shows h (buffer c i) ≡ true
        shown_here =
            let at = j.cached h among in
            let same : at.0 ≡ i = j.cache.once.same at.0 i h (and_parts (buffer c at.0).valid (is_of h (buffer c at.0)) at.2).1 is.1 in
            ap (λ (m : ℕ). shows h (buffer c m)) (sym same) ∙ at.2

        t : Buffer
        t = record (buffer c i) { pins = (buffer c i).pins - 1 }

        d : Buffers
        d = unpinned c i

        block : (buffer c i).block ≡ Some h
        block = block_is h (buffer c i).block is.1

        cur : seen y d ≡ seen x c
        cur = current_kept y c i t refl refl refl ∙ current_same_write x c i h v j.cache.once shown_here

        one : (buffer c i).pins ≡ 1
        one = j.pins i ∙ ap (pins_of (drop n hs)) block ∙ cond-true (is_among h (drop n hs)) 1 0 among

        pins : (m : ℕ) → (buffer d m).pins ≡ pins_of rest (buffer d m).block
        pins = each_buffer c i t (λ m s. s.pins ≡ pins_of rest s.block) is.0
            (omega (arith, one) ∙ sym (ap (pins_of rest) block ∙ cond-false (is_among h rest) 1 0 (home_once l.size hs n j.log.places lt)))
            (λ m other. j.pins m ∙ ap (λ (ds : List ℕ). pins_of ds (buffer c m).block) split ∙ pins_other (buffer c m).block h rest (false_from_ne_true (is_of h (buffer c m)) (λ there. other (j.cache.once.same m i h there is.1))))

        cached : (b : ℕ) → is_among b rest ≡ true → (m : ℕ) × (m < 40) × (shows b (buffer d m) ≡ true)
        cached b e = let at = j.cached b (kept b e) in (at.0, at.1, each_buffer c i t (λ m s. shows b (buffer c m) ≡ true → shows b s ≡ true) is.0 (λ p. p) (λ m other p. p) at.0 at.2)

        clean : (b : ℕ) → is_among b rest ≡ false → block_at (seen y d) b ≡ block_at y b
        clean b out = ap (λ (z : Image). block_at z b) cur ∙ elim (cases_eq b h) [
          | inl same ↦ ap (block_at (seen x c)) same ∙ sym (ap (block_at y) same ∙ get_or-set_same x h v [] inside)
          | inr other ↦
              j.clean b (ap (is_among b) split ∙ or_from (h == b) (is_among b rest) (ne_eqb h b (λ e. other (sym e))) out)
              ∙ sym (get_or-set_other x h b v [] other)
        ]

        far : 33 ≤ h
        far = (home_facts j.log.places).behind n lt

        header : HasHeader y hs
        header = record {
          count = logged-same x y (get_or-set_other x h 2 v [] (λ same. omega (arith, far, same))) ∙ j.phase.0.count;
          each = homes-same x y (get_or-set_other x h 2 v [] (λ same. omega (arith, far, same))) ∙ j.phase.0.each;
        }

        logs : Logs (length hs) y (seen y d) hs
        logs m le =
            get_or-set_other x h (3 + m) v [] (λ same. omega (arith, far, same, le, j.log.room)) ∙ j.phase.1 m le
            ∙ ap (λ (z : Image). block_at z (slice_index hs m)) (sym cur)

        whole : (k : Commit) → IsLogAt k (record l { commit = k }) → live_at k hs ≡ rest → Phase k y (seen y d) hs → JointAt k y d (record l { commit = k })
        whole k log live phase = record {
          size = length-set x h v ∙ j.size;
          cache = cache_kept c i t j.cache (omega (arith, is.0, j.cache.size)) refl;
          log = log;
          behind = each_buffer c i t (λ m s. (a : ℕ) → is_of a s ≡ true → (33 ≤ a) × (a < l.size)) is.0 (j.behind i) (λ m other. j.behind m);
          pins = λ m. pins m ∙ ap (λ (ds : List ℕ). pins_of ds (buffer d m).block) (sym live);
          cached = λ b e. cached b (ap (is_among b) (sym live) ∙ e);
          held = each_buffer c i t (λ m s. s.block ≡ None → s.holder ≡ None) is.0 (j.held i) (λ m other. j.held m);
          clean = λ b e. clean b (ap (is_among b) (sym live) ∙ e);
          phase = phase;
        }

        by_last : (b : Bool) → (n + 1 == length hs) ≡ b → Joint y d (record l { commit = cond b Commit.Clearing (Commit.Homing (n + 1)) })
        by_last true last =
            let all : n + 1 ≡ length hs = eqb-true _ _ last in
            whole Commit.Clearing (in_phase (Commit.Homing n) Commit.Clearing l hs l.committed j.log j.log.idle.0 (j.log.idle.0, omega (arith, lt)) j.log.places (omega arith) j.log.counts) (ap (λ (m : ℕ). drop m hs) (sym all)) (header, logs)
        by_last false last =
            let more : n + 1 < length hs = (let away : n + 1 ≢ length hs = λ same. both_ways _ last (eq-eqb _ _ same) in omega (arith, away, lt)) in
            whole (Commit.Homing (n + 1)) (in_phase (Commit.Homing n) (Commit.Homing (n + 1)) l hs l.committed j.log j.log.idle.0 (j.log.idle.0, more) j.log.places (omega arith) j.log.counts) refl (header, logs)

-- any write of a commit
pub wrote_next : (x : Image) (c : Buffers) (l : LogState) (h : List ℕ) → Joint x c l → is_writing l.commit ≡ true → IsHeader h l.homes
    → Joint (set x (place_at l.commit l.homes) (bytes_at l.commit l.homes h (seen x c))) (written_cache l.commit l.homes c) (written_at l.commit l)
wrote_next x c l h j busy head = by_phase l.commit j busy
  where
    by_phase : (k : Commit) → JointAt k x c l → is_writing k ≡ true → Joint (set x (place_at k l.homes) (bytes_at k l.homes h (seen x c))) (written_cache k l.homes c) (written_at k l)
    by_phase Commit.Quiet j busy = absurd (cc busy)
    by_phase (Commit.Logging n) j busy = wrote_log x c l n j
    by_phase Commit.Heading j busy = wrote_header x c l h j head
    by_phase (Commit.Homing n) j busy = wrote_home x c l n j
    by_phase Commit.Clearing j busy = wrote_empty x c l j
    by_phase (Commit.Syncing part) j busy = absurd (cc busy)

same_low : (x : Image) (c : Buffers) (k : Commit) (l : LogState) (b : ℕ) (v : List ℕ) → JointAt k x c l → 2 ≤ b → b < 33 → IsSameOutsideLog (seen x c) (seen (set x b v) c)
same_low x c k l b v j far low =
    let cur = current_write x c b v (none_low c b j low) in
    record {
      size = ap length cur ∙ length-set (seen x c) b v;
      agree = λ a out. ap (λ (z : Image). block_at z a) cur ∙ get_or-set_other (seen x c) b a v [] (outside_log a b out far low);
    }

-- a write of a commit changes nothing of the current image outside the log
pub write_current : (x : Image) (c : Buffers) (l : LogState) (h : List ℕ) → Joint x c l → IsSameOutsideLog (seen x c) (seen (set x (place_at l.commit l.homes) (bytes_at l.commit l.homes h (seen x c))) c)
write_current x c l h j = by_phase l.commit j
  where
    by_phase : (k : Commit) → JointAt k x c l → IsSameOutsideLog (seen x c) (seen (set x (place_at k l.homes) (bytes_at k l.homes h (seen x c))) c)
    by_phase Commit.Quiet j = same_low x c Commit.Quiet l 2 zero_block j (omega arith) (omega arith)
    by_phase (Commit.Logging n) j = same_low x c (Commit.Logging n) l (3 + n) (block_at (seen x c) (slice_index l.homes n)) j (omega arith) (omega (arith, j.log.idle.1, j.log.room))
    by_phase Commit.Heading j = same_low x c Commit.Heading l 2 h j (omega arith) (omega arith)
    by_phase Commit.Clearing j = same_low x c Commit.Clearing l 2 zero_block j (omega arith) (omega arith)
    by_phase (Commit.Syncing part) j = same_low x c (Commit.Syncing part) l 2 zero_block j (omega arith) (omega arith)
    by_phase (Commit.Homing n) j =
        let g : ℕ = slice_index l.homes n in
        let at = j.cached g (ap (is_among g) (drop-cons l.homes n 0 j.log.idle.1) ∙ ap (λ (t : Bool). t || is_among g (drop (suc n) l.homes)) (eq-eqb g g refl)) in
        let cur : seen (set x g (block_at (seen x c) g)) c ≡ seen x c = current_same_write x c at.0 g (block_at (seen x c) g) j.cache.once at.2 in
        record { size = ap length cur; agree = λ a out. ap (λ (z : Image). block_at z a) cur }

-- nor does what it unpins
pub unpinned_current : (k : Commit) (hs : List ℕ) (y : Image) (c : Buffers) → seen y (written_cache k hs c) ≡ seen y c
unpinned_current Commit.Quiet hs y c = refl
unpinned_current (Commit.Logging n) hs y c = refl
unpinned_current Commit.Heading hs y c = refl
unpinned_current Commit.Clearing hs y c = refl
unpinned_current (Commit.Syncing part) hs y c = refl
unpinned_current (Commit.Homing n) hs y c = by_found (found c (slice_index hs n))
  where
    by_found : (o : Option ℕ) → seen y (unpinned_found c o) ≡ seen y c
    by_found None = refl
    by_found (Some i) = current_kept y c i (record (buffer c i) { pins = (buffer c i).pins - 1 }) refl refl refl

pub log_cleared : (l : LogState) (hs : List ℕ) → IsLogAt l.commit l → l.commit ≡ Commit.Clearing → hs ≡ [] → IsLogAt Commit.Quiet (record l { commit = Commit.Quiet; homes = hs })
log_cleared l hs is at none =
    let was : IsLogAt Commit.Clearing l = subst (λ (m : Commit). IsLogAt m l) at is in
    subst (λ (gs : List ℕ). IsLogAt Commit.Quiet (record l { commit = Commit.Quiet; homes = gs })) (sym none)
    (in_phase Commit.Clearing Commit.Quiet l [] l.committed was was.idle.0 (λ over. refl) (no_homes l.size) (omega arith) (omega (arith, was.counts, was.idle.0)))

pub log_cleared_synced : (l : LogState) (hs : List ℕ) → IsLogAt l.commit l → l.commit ≡ Commit.Syncing Part.Clear → hs ≡ [] → IsLogAt Commit.Quiet (record l { commit = Commit.Quiet; homes = hs })
log_cleared_synced l hs is at none =
    let was : IsLogAt (Commit.Syncing Part.Clear) l = subst (λ (m : Commit). IsLogAt m l) at is in
    subst (λ (gs : List ℕ). IsLogAt Commit.Quiet (record l { commit = Commit.Quiet; homes = gs })) (sym none)
    (in_phase (Commit.Syncing Part.Clear) Commit.Quiet l [] l.committed was was.idle.0 (λ over. refl) (no_homes l.size) (omega arith) (omega (arith, was.counts, was.idle.0)))

pub is_within : (k : Commit) (l : LogState) → IsLogAt k l → IsWithin k l.homes
is_within Commit.Quiet l is = tt
is_within (Commit.Logging n) l is = is.idle.1
is_within Commit.Heading l is = tt
is_within (Commit.Homing n) l is = is.idle.1
is_within Commit.Clearing l is = tt
is_within (Commit.Syncing part) l is = tt
