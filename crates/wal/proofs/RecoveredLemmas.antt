-- What recovery gives in each phase of a commit.
use Rattle.std.proofs.Common.{◌≡◌, ◌≢◌, ⊎_elim, inl, inr, ℕ, zero, suc, ◌+◌, ◌<◌, ◌≤◌, ltb, true, false, List, [], ◌∷◌, length, set, refl, sym, ◌∙◌, ap, subst, arith, length-set, Option, Some, None}
use Rattle.std.specs.Prelude.{slice_index}
use Rattle.std.proofs.Math.Seq.{drop-length}
use Rattle.wal.specs.Common.{AreHomes, block_at, block_from_log, Buffers, bytes_at, cases_eq, cases_lt, Commit, get_or-set_other, get_or-set_same, HasHeader, Image, is_among, is_writing, IsHeader, Joint, JointAt, length-current, length-recovered, logged_count, Logs, LogState, ltb-true, no_place, none_cleared, or_cases, Part, place_among, place_at, place_below, recovered, recovered_at, recovered_block-header, recovered_empty, SameButLog, seen, set-set, zero_block}
use Rattle.wal.proofs.LawfulLogs.{home_facts}
use Rattle.wal.specs.Kept.{Committed, KeepsCommitted}
use Rattle.wal.proofs.CopyLemmas.{not_header, home_of_place}
use Rattle.wal.specs.Lemmas.Commits.{outside_log, logged-same}
use Rattle.wal.proofs.CommitLemmas.{home_far, header_read, homes-same, among_drop}

pub but_log_same : (x y : Image) → x ≡ y → SameButLog x y
but_log_same x y is = subst (SameButLog x) is (record { outside = record { size = refl; agree = λ b out. refl }; header = refl })

pub but_log_back : (x y : Image) → SameButLog x y → SameButLog y x
but_log_back x y s = record { outside = record { size = sym s.outside.size; agree = λ b out. sym (s.outside.agree b out) }; header = sym s.header }

pub but_log_then : (x y z : Image) → SameButLog x y → SameButLog y z → SameButLog x z
but_log_then x y z s t = record { outside = record { size = t.outside.size ∙ s.outside.size; agree = λ b out. t.outside.agree b out ∙ s.outside.agree b out }; header = t.header ∙ s.header }

-- the blocks below 3, and those from 33 on
same_but_log : (x y : Image) → length y ≡ length x → ((b : ℕ) → b < 3 → block_at y b ≡ block_at x b) → ((b : ℕ) → 33 ≤ b → block_at y b ≡ block_at x b) → SameButLog x y
same_but_log x y size low high = record {
  outside = record {
    size = size;
    agree = λ b out. ⊎_elim
        (λ first. let lt : b < 2 = ltb-true b 2 first in low b (omega (arith, lt)))
        (λ last. let lt : 32 < b = ltb-true 32 b last in high b (omega (arith, lt)))
        (or_cases (ltb b 2) (ltb 32 b) out);
  };
  header = low 2 (omega arith);
}

past_end : (x : Image) (b : ℕ) → length x ≤ b → block_at x b ≡ []
past_end [] b le = refl
past_end (v ∷ x) zero le = absurd (omega arith)
past_end (v ∷ x) (suc b) le = past_end x b (omega arith)

-- with the logged blocks at their homes a block is the current one
from_log_current : (x cur : Image) (hs : List ℕ) (b : ℕ) (p : Option ℕ) → ((j : ℕ) → p ≡ Some j → block_at x (3 + j) ≡ block_at cur b) → (p ≡ None → block_at x b ≡ block_at cur b) → block_from_log x b p ≡ block_at cur b
from_log_current x cur hs b (Some j) some none = some j refl
from_log_current x cur hs b None some none = none refl

-- what recovery gives once the header is written
pub after_header : (size : ℕ) (x cur : Image) (hs : List ℕ) → length x ≡ size → 33 ≤ size → AreHomes size hs → 0 < length hs → HasHeader x hs → Logs (length hs) x cur hs → length cur ≡ length x
    → ((b : ℕ) → is_among b hs ≡ false → block_at cur b ≡ block_at x b) → SameButLog (set cur 2 zero_block) (recovered x)
after_header size x cur hs len big are some head logs same clean = same_but_log (set cur 2 zero_block) (recovered x) (length-recovered x ∙ sym same ∙ sym (length-set cur 2 zero_block))
    (λ b lt. elim (cases_eq b 2) [
      | inl two ↦
          ap (block_at (recovered x)) two ∙ recovered_at x 2 there (omega (arith, len, big)) ∙ recovered_block-header x
          ∙ sym (ap (block_at (set cur 2 zero_block)) two ∙ get_or-set_same cur 2 zero_block [] (omega (arith, same, len, big)))
      | inr other ↦ at b other (omega (arith, lt, len, big))
    ])
    (λ b le. elim (cases_lt b (length x)) [
      | inl lt ↦ at b (λ two. omega (arith, two, le)) lt
      | inr out ↦
          past_end (recovered x) b (omega (arith, length-recovered x, out)) ∙ sym (past_end (set cur 2 zero_block) b (omega (arith, length-set cur 2 zero_block, same, out)))
    ])
  where
    there : logged_count x ≢ 0
    there none = omega (arith, none, head.count, some)

    logged_now : (b j : ℕ) → place_among hs b ≡ Some j → block_at x (3 + j) ≡ block_at cur b
    logged_now b j e = logs j (let below = place_below hs 0 b j e in omega arith) ∙ ap (block_at cur) (home_of_place hs 0 b j (e ∙ ap Some (omega arith)))

    from_log : (b : ℕ) → block_from_log x b (place_among hs b) ≡ block_at cur b
    from_log b = from_log_current x cur hs b (place_among hs b) (logged_now b) (λ e. sym (clean b (no_place hs 0 b e)))

    at : (b : ℕ) → b ≢ 2 → b < length x → block_at (recovered x) b ≡ block_at (set cur 2 zero_block) b
    at b other lt =
        recovered_at x b there lt ∙ sym (not_header x b other) ∙ ap (λ (l : List ℕ). block_from_log x b (place_among l b)) head.each ∙ from_log b
        ∙ sym (get_or-set_other cur 2 b zero_block [] other)

-- what recovery gives in each phase
pub committed_at : (k : Commit) (x : Image) (c : Buffers) (l : LogState) → JointAt k x c l → Committed k x (seen x c)
committed_at Commit.Quiet x c l j = recovered_empty x j.phase
committed_at (Commit.Logging n) x c l j = recovered_empty x j.phase.0
committed_at Commit.Heading x c l j = recovered_empty x j.phase.0
committed_at (Commit.Homing n) x c l j = after_header l.size x (seen x c) l.homes j.size j.log.big j.log.places (omega (arith, j.log.idle.1)) j.phase.0 j.phase.1 (length-current x c) (λ b out. j.clean b (among_drop b n l.homes out))
committed_at Commit.Clearing x c l j = after_header l.size x (seen x c) l.homes j.size j.log.big j.log.places j.log.idle.1 j.phase.0 j.phase.1 (length-current x c) (λ b out. j.clean b (among_drop b (length l.homes) l.homes out))
committed_at (Commit.Syncing Part.Log) x c l j = recovered_empty x j.phase.0
committed_at (Commit.Syncing Part.Header) x c l j = after_header l.size x (seen x c) l.homes j.size j.log.big j.log.places j.log.idle.1 j.phase.0 j.phase.1 (length-current x c) (λ b out. j.clean b out)
committed_at (Commit.Syncing Part.Homes) x c l j = after_header l.size x (seen x c) l.homes j.size j.log.big j.log.places j.log.idle.1 j.phase.0 j.phase.1 (length-current x c) (λ b out. j.clean b (among_drop b (length l.homes) l.homes out))
committed_at (Commit.Syncing Part.Clear) x c l j = recovered_empty x j.phase

-- a write to a log block
pub but_log_write : (x : Image) (n : ℕ) (v : List ℕ) → n < 30 → SameButLog x (set x (3 + n) v)
but_log_write x n v few = same_but_log x (set x (3 + n) v) (length-set x (3 + n) v)
    (λ b lt. get_or-set_other x (3 + n) b v [] (λ e. omega (arith, e, lt)))
    (λ b le. get_or-set_other x (3 + n) b v [] (λ e. omega (arith, e, le, few)))

-- images that are the same but for a block in the log area stay so with the same block 2
but_log_two : (x y : Image) (v : List ℕ) → SameButLog x y → 2 < length x → SameButLog (set x 2 v) (set y 2 v)
but_log_two x y v s big = record {
  outside = record {
    size = length-set y 2 v ∙ s.outside.size ∙ sym (length-set x 2 v);
    agree = λ b out.
        let other : b ≢ 2 = outside_log b 2 out (omega arith) (omega arith) in
        get_or-set_other y 2 b v [] other ∙ s.outside.agree b out ∙ sym (get_or-set_other x 2 b v [] other);
  };
  header = get_or-set_same y 2 v [] (omega (arith, s.outside.size, big)) ∙ sym (get_or-set_same x 2 v [] big);
}

-- A write of a commit: outside the log blocks recovery gives the same, but for the header, and then the current image with an empty header.
pub kept_write : (x : Image) (c : Buffers) (l : LogState) (h : List ℕ) → Joint x c l → is_writing l.commit ≡ true → IsHeader h l.homes
    → KeepsCommitted l.commit x (seen x c) (set x (place_at l.commit l.homes) (bytes_at l.commit l.homes h (seen x c)))
kept_write x c l h joint busy head = by_phase l.commit joint busy
  where
    cur : Image
    cur = seen x c

    by_phase : (k : Commit) → JointAt k x c l → is_writing k ≡ true → KeepsCommitted k x cur (set x (place_at k l.homes) (bytes_at k l.homes h cur))
    by_phase Commit.Quiet j busy = absurd (cc busy)
    by_phase (Commit.Syncing part) j busy = absurd (cc busy)
    by_phase (Commit.Logging n) j busy =
        let v = block_at cur (slice_index l.homes n) in
        let y = set x (3 + n) v in
        let none : logged_count y ≡ 0 = logged-same x y (get_or-set_other x (3 + n) 2 v [] (λ e. omega (arith, e))) ∙ j.phase.0 in
        but_log_then (recovered x) x (recovered y) (but_log_same (recovered x) x (recovered_empty x j.phase.0))
        (but_log_then x y (recovered y) (but_log_write x n v (omega (arith, j.log.idle.1, j.log.room))) (but_log_same y (recovered y) (sym (recovered_empty y none))))
    by_phase Commit.Heading j busy =
        let y = set x 2 h in
        let big : 2 < length x = omega (arith, j.size, j.log.big) in
        let far = λ (i : ℕ) (lt : i < length l.homes). home_far l.size l.homes i j.log.places lt in
        let whole = after_header l.size y (set cur 2 h) l.homes (length-set x 2 h ∙ j.size) j.log.big j.log.places j.log.idle.1
        (header_read y h l.homes (get_or-set_same x 2 h [] big) head)
        (λ i lt. get_or-set_other x 2 (3 + i) h [] (λ e. omega (arith, e)) ∙ j.phase.1 i lt ∙ sym (get_or-set_other cur 2 (slice_index l.homes i) h [] (λ e. omega (arith, e, far i lt))))
        (length-set cur 2 h ∙ length-current x c ∙ sym (length-set x 2 h))
        (λ b out. elim (cases_eq b 2) [
          | inl two ↦ ap (block_at (set cur 2 h)) two ∙ get_or-set_same cur 2 h [] (omega (arith, length-current x c, big)) ∙ sym (ap (block_at y) two ∙ get_or-set_same x 2 h [] big)
          | inr other ↦ get_or-set_other cur 2 b h [] other ∙ j.clean b out ∙ sym (get_or-set_other x 2 b h [] other)
        ]) in
        but_log_then (set cur 2 zero_block) (set (set cur 2 h) 2 zero_block) (recovered y) (but_log_same _ _ (sym (set-set cur 2 h zero_block))) whole
    by_phase (Commit.Homing n) j busy =
        let g = slice_index l.homes n in
        let v = block_at cur g in
        let y = set x g v in
        let lt : n < length l.homes = j.log.idle.1 in
        let far : 33 ≤ g = (home_facts j.log.places).behind n lt in
        let two : block_at y 2 ≡ block_at x 2 = get_or-set_other x g 2 v [] (λ e. omega (arith, e, far)) in
        let whole = after_header l.size y cur l.homes (length-set x g v ∙ j.size) j.log.big j.log.places (omega (arith, lt))
        (record { count = logged-same x y two ∙ j.phase.0.count; each = homes-same x y two ∙ j.phase.0.each })
        (λ i le. get_or-set_other x g (3 + i) v [] (λ e. omega (arith, e, far, le, j.log.room)) ∙ j.phase.1 i le)
        (length-current x c ∙ sym (length-set x g v))
        (λ b out. elim (cases_eq b g) [
          | inl same ↦ ap (block_at cur) same ∙ sym (ap (block_at y) same ∙ get_or-set_same x g v [] (omega (arith, (home_facts j.log.places).within n lt, j.size)))
          | inr other ↦ j.clean b (among_drop b n l.homes out) ∙ sym (get_or-set_other x g b v [] other)
        ]) in
        but_log_then (recovered x) (set cur 2 zero_block) (recovered y) (but_log_back _ _ (committed_at (Commit.Homing n) x c l j)) whole
    by_phase Commit.Clearing j busy =
        let y = set x 2 zero_block in
        let big : 2 < length x = omega (arith, j.size, j.log.big) in
        let same : (b : ℕ) → block_at x b ≡ block_at cur b = λ b. sym (j.clean b (ap (is_among b) (drop-length l.homes))) in
        let both : SameButLog cur x = record { outside = record { size = sym (length-current x c); agree = λ b out. same b }; header = same 2 } in
        but_log_then (recovered x) (set cur 2 zero_block) (recovered y) (but_log_back _ _ (committed_at Commit.Clearing x c l j))
        (but_log_then (set cur 2 zero_block) y (recovered y) (but_log_two cur x zero_block both (omega (arith, length-current x c, big))) (but_log_same y (recovered y) (sym (recovered_empty y (none_cleared x big)))))
