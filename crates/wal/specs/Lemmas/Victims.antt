-- There is always a buffer for who needs one, where nobody holds a buffer but such processes as
-- have an operation open in the log, and each of these two.
use Rattle.std.proofs.Common.{◌≡◌, ◌≢◌, ℕ, zero, suc, ◌+◌, ◌*◌, ◌<◌, ◌≤◌, Bool, true, false, List, [], ◌∷◌, ◌++◌, length, map, get_or, length-drop, length-append, refl, ◌∙◌, ap, arith, Option, Some, None, inl, inr, ◌⊎◌}
use Rattle.std.specs.List.{sum_by}
use Rattle.wal.specs.Common.{added_by, answer_by, block_is, block_or_zero, buffer, Buffers, cases_eq, cause_of_get, cause_to_get, Commit, eq-eqb, found, found_at, get_answer_by, HasLock, holder_count, Image, is_among, is_number_in, IsCache, JointAt, length-map, live_at, lock_answer, LogState, ne_eqb, Part, pins_of, references_of, some_found, sum_by-cons, take_answer, ten, unused, used_by, victim, victim_none_in_use}
use Rattle.model.specs.Soundness.{count_of}
use Rattle.model.specs.Lemmas.Counts.{count_of-append}
use Rattle.bcache.specs.Lemmas.Order.{counted_below}

-- ---- the slots of the open operations

slots_of : (ℕ → List ℕ) → List (Option ℕ) → ℕ → List ℕ
slots_of keeps [] k = []
slots_of keeps (None ∷ us) k = slots_of keeps us (suc k)
slots_of keeps (Some u ∷ us) k = keeps k ++ slots_of keeps us (suc k)

few_slots : (keeps : ℕ → List ℕ) → ((p : ℕ) → length (keeps p) ≤ 2) → (us : List (Option ℕ)) (k : ℕ) → 5 * length (slots_of keeps us k) ≤ sum_by ten us
unfolding slots_of
few_slots keeps few [] k = omega arith
few_slots keeps few (None ∷ us) k = let rest = few_slots keeps few us (suc k) in omega (arith, rest, sum_by-cons ten None us)
few_slots keeps few (Some u ∷ us) k =
    omega (arith, (few_slots keeps few us (suc k)), (length-append (keeps k) (slots_of keeps us (suc k))), (few k), sum_by-cons ten (Some u) us)

slot_among : (keeps : ℕ → List ℕ) (us : List (Option ℕ)) (k p j i u : ℕ) → j ≡ k + p → get_or us p None ≡ Some u → count_of i (keeps j) ≢ 0 → count_of i (slots_of keeps us k) ≢ 0
unfolding slots_of
slot_among keeps [] k p j i u is has some = absurd (cc has)
slot_among keeps (None ∷ us) k zero j i u is has some = absurd (cc has)
slot_among keeps (None ∷ us) k (suc p) j i u is has some = slot_among keeps us (suc k) p j i u (omega (arith, is)) has some
slot_among keeps (Some v ∷ us) k zero j i u is has some =
    let same : count_of i (keeps k) ≡ count_of i (keeps j) = let e : k ≡ j = omega (arith, is) in ap (λ (n : ℕ). count_of i (keeps n)) e in
    let all = count_of-append i (keeps k) (slots_of keeps us (suc k)) in
    λ (e : count_of i (keeps k ++ slots_of keeps us (suc k)) ≡ 0). some (omega (arith, e, all, same))
slot_among keeps (Some v ∷ us) k (suc p) j i u is has some =
    let rest = slot_among keeps us (suc k) p j i u (omega (arith, is)) has some in
    let all = count_of-append i (keeps k) (slots_of keeps us (suc k)) in
    λ (e : count_of i (keeps k ++ slots_of keeps us (suc k)) ≡ 0). rest (omega (arith, e, all))

tens : (us : List (Option ℕ)) → sum_by ten us ≤ sum_by added_by us + sum_by unused us
tens [] = omega arith
tens (None ∷ us) =
    omega (arith, (tens us), sum_by-cons ten None us, sum_by-cons added_by None us, sum_by-cons unused None us)
tens (Some u ∷ us) =
    omega (arith, (tens us), sum_by-cons ten (Some u) us, sum_by-cons added_by (Some u) us, sum_by-cons unused (Some u) us)

-- ---- the slots of the homes

home_among : (f : ℕ → ℕ) (b i : ℕ) (hs : List ℕ) → is_among b hs ≡ true → f b ≡ i → count_of i (map f hs) ≢ 0
home_among f b i [] among is = absurd (cc among)
home_among f b i (h ∷ hs) among is = elim (cases_eq h b) [
  | inl same ↦ λ (e : count_of i (map f (h ∷ hs)) ≡ 0).
      let one : count_of i (map f (h ∷ hs)) ≡ 1 + count_of i (map f hs) = rw (eq-eqb (f h) i (ap f same ∙ is)) refl in
      omega (arith, e, one)
  | inr other ↦ λ (e : count_of i (map f (h ∷ hs)) ≡ 0).
      let rest : is_among b hs ≡ true = rw (ne_eqb h b other) at among in
      home_among f b i hs rest is (omega (arith, e))
]

few_live : (k : Commit) (hs : List ℕ) → length (live_at k hs) ≤ length hs
few_live Commit.Quiet hs = omega arith
few_live (Commit.Logging k) hs = omega arith
few_live Commit.Heading hs = omega arith
few_live (Commit.Homing k) hs = let e = length-drop k hs in omega (arith, e)
few_live Commit.Clearing hs = let e = length-drop (length hs) hs in omega (arith, e)
few_live (Commit.Syncing Part.Log) hs = omega arith
few_live (Commit.Syncing Part.Header) hs = omega arith
few_live (Commit.Syncing Part.Homes) hs = let e = length-drop (length hs) hs in omega (arith, e)
few_live (Commit.Syncing Part.Clear) hs = let e = length-drop (length hs) hs in omega (arith, e)

-- what a pinned slot is for
pinned_home : (hs : List ℕ) (o : Option ℕ) → pins_of hs o ≢ 0 → (b : ℕ) × (o ≡ Some b) × (is_among b hs ≡ true)
pinned_home hs None some = absurd (some refl)
pinned_home hs (Some b) some = by (is_among b hs) refl
  where
    by : (t : Bool) → is_among b hs ≡ t → (a : ℕ) × (Some b ≡ Some a) × (is_among a hs ≡ true)
    by true is = (b, refl, is)
    by false is = absurd (some (rw is refl))

-- who has a buffer's lock has an operation open, and no other buffers than those
pub record HoldsFew (c : Buffers) (l : LogState) (keeps : ℕ → List ℕ) (p i : ℕ) : Type 0 where
  pub slot : count_of i (keeps p) ≢ 0
  pub used : ℕ
  pub has : used_by l p ≡ Some used

module _ (k : Commit) (x : Image) (c : Buffers) (l : LogState) (j : JointAt k x c l) (keeps : ℕ → List ℕ) (most : (p : ℕ) → length (keeps p) ≤ 2)
    (each : (p i : ℕ) → (buffer c i).holder ≡ Some p → HoldsFew c l keeps p i) where
  abbrev live : List ℕ
  live = live_at k l.homes

  abbrev place_of : ℕ → ℕ
  place_of b = block_or_zero (found c b)

  abbrev in_use : List ℕ
  in_use = map place_of live ++ slots_of keeps l.used 0

  stands_somewhere : (i : ℕ) → references_of (buffer c i) ≢ 0 → (o : Option ℕ) → (buffer c i).holder ≡ o →
      (count_of i (map place_of live) ≢ 0) ⊎ (count_of i (slots_of keeps l.used 0) ≢ 0)
  stands_somewhere i some None free =
      let pins : pins_of (live_at k l.homes) (buffer c i).block ≢ 0 =
      λ (e : pins_of (live_at k l.homes) (buffer c i).block ≡ 0). some (ap (λ (o : Option ℕ). (buffer c i).pins + holder_count o) free ∙ ap (λ (n : ℕ). n + 0) (j.pins i ∙ e)) in
      let home = pinned_home (live_at k l.homes) (buffer c i).block pins in
      let at : found c home.0 ≡ Some i = found_at c home.0 i j.cache (ap (is_number_in home.0) home.1 ∙ eq-eqb home.0 home.0 refl) in
      inl (home_among (λ (b : ℕ). block_or_zero (found c b)) home.0 i (live_at k l.homes) home.2 (ap block_or_zero at))
  stands_somewhere i some (Some p) held =
      let one = each p i held in
      inr (slot_among keeps l.used 0 p p i one.used (omega arith) one.has one.slot)

  stands_there : (i : ℕ) → references_of (buffer c i) ≢ 0 → count_of i in_use ≢ 0
  stands_there i some none =
      let all = count_of-append i (map place_of live) (slots_of keeps l.used 0) in
      elim (stands_somewhere i some (buffer c i).holder refl) [
        | inl here ↦ here (omega (arith, none, all))
        | inr here ↦ here (omega (arith, none, all))
      ]

  few_in_use : length in_use ≤ 36
  few_in_use =
      let homes = length-map (live_at k l.homes) place_of in
      let slots = few_slots keeps most l.used 0 in
      let added = j.log.added in
      omega (arith, (length-append (map place_of (live_at k l.homes)) (slots_of keeps l.used 0)), homes, (few_live k l.homes), slots, (tens l.used), j.log.room, added)

  -- a buffer is left
  pub some_victim : victim c ≢ None
  some_victim none =
      let few = few_in_use in
      omega (arith, (counted_below 40 in_use (λ (i : ℕ) (lt : i < 40). stands_there i (victim_none_in_use c j.cache none i lt))), few)

-- ---- a block is got that nobody holds

pub gets_now : (c : Buffers) (b : ℕ) → IsCache c → ((q i : ℕ) → HasLock c q b i → ⊥) → victim c ≢ None → cause_to_get c (Some b) ≡ None
gets_now c b is free left = by (found c b) refl
  where
    by_holder : (i : ℕ) (valid : Bool) → found c b ≡ Some i → (o : Option ℕ) → (buffer c i).holder ≡ o → cause_of_get (get_answer_by (lock_answer o i valid)) ≡ None
    by_holder i valid at None e = refl
    by_holder i valid at (Some q) e = absurd (free q i (record { holder = e; block = block_is b (buffer c i).block (some_found c b i at).1 }))

    by_victim : (o : Option ℕ) → victim c ≡ o → cause_of_get (get_answer_by (take_answer o)) ≡ None
    by_victim None e = absurd (left e)
    by_victim (Some i) e = refl

    by : (o : Option ℕ) → found c b ≡ o → cause_of_get (get_answer_by (answer_by (found c b) c)) ≡ None
    by None at = rw at (by_victim (victim c) refl)
    by (Some i) at = rw at (by_holder i (buffer c i).valid at (buffer c i).holder refl)
