-- Whatever a process does with the table of inodes, it agrees with what all have of it.
use Rattle.std.proofs.Common.{◌≡◌, ◌≢◌, ℕ, zero, suc, ◌+◌, ◌-◌, ◌<◌, ◌≤◌, Bool, true, false, cond, eqb, ltb, inl, inr, ◌⊎◌, ⊎_elim, List, [], ◌∷◌, length, length-set, get_or, set, replicate, refl, sym, ◌∙◌, ap, subst, zero-add, arith, Option, Some, None}
use Rattle.std.specs.Prelude.{IsTrue, position, is_none, IsSome}
use Rattle.inodes.specs.Common.{AreCounted, cases_eq, cases_lt, copy_at, copy_in, count_of, Dinode, entry_at, eq-eqb, eqb-true, get_or-replicate, get_or-set_other, get_or-set_same, get_or_past, Grip, grip, HasNumber, HasPlaceFor, HasPlaceForEach, holder_at, holder_in, HolderIsAnother, Image, InMemory, is_number, is_of, IsCopy, IsTable, IsTableAtOpening, KeepsTable, KeptByImage, KeptByLeave, KeptByLock, KeptByRefer, KeptByRenew, length-replicate, locked_grip, LocksExclude, ltb-false, ltb-true, named, ne_eqb, none_passes, or_else, place_for, position-Some, references_at, references_in, set-get_or, Stays, TableIs, TableState, unlocked_grip, with_copy, with_holder, with_reference, without_reference}
use Rattle.model.specs.Layout.{inode_of}
use Rattle.inodes.specs.Lemmas.Table.{has_place}

-- the references of a place that one process has
abbrev names : ℕ → Option Grip → ℕ
names k None = 0
names k (Some g) = cond (eqb g.place k) 1 0

names_own : (k : ℕ) (g : Grip) → g.place ≡ k → names k (Some g) ≡ 1
names_own k g same = rw (eq-eqb g.place k same) refl

-- what one has elsewhere is not counted
names_elsewhere : (j k : ℕ) (o : Option Grip) → ((g : Grip) → o ≡ Some g → g.place ≡ k) → j ≢ k → names j o ≡ 0
names_elsewhere j k None at apart = refl
names_elsewhere j k (Some g) at apart = rw (ne_eqb g.place j (λ e. apart (sym e ∙ at g refl))) refl

count_of-named : (k : ℕ) (o : Option Grip) (gs : List (Option Grip)) → count_of k (named (o ∷ gs)) ≡ names k o + count_of k (named gs)
count_of-named k None gs = sym (zero-add (count_of k (named gs)))
count_of-named k (Some g) gs = refl

-- one process's grip is another one
named_set : (gs : List (Option Grip)) (p k : ℕ) (o : Option Grip) → p < length gs → count_of k (named (set gs p o)) + names k (grip gs p) ≡ count_of k (named gs) + names k o
named_set [] p k o lt = absurd (omega arith)
named_set (x ∷ gs) zero k o lt = let new = count_of-named k o gs in let old = count_of-named k x gs in omega (arith, new, old)
named_set (x ∷ gs) (suc p) k o lt =
    let old = count_of-named k x gs in omega (arith, (named_set gs p k o (omega arith)), (count_of-named k x (set gs p o)), old)

length-named : (gs : List (Option Grip)) → length (named gs) ≤ length gs
length-named [] = omega arith
length-named (None ∷ gs) = let rest = length-named gs in omega (arith, rest)
length-named (Some g ∷ gs) = let rest = length-named gs in omega (arith, rest)

count_of-few : (k : ℕ) (gs : List (Option Grip)) → count_of k (named gs) ≤ length gs
count_of-few k [] = omega arith
count_of-few k (x ∷ gs) =
    let one = at_most_one x in omega (arith, (count_of-few k gs), (count_of-named k x gs), one)
  where
    by_test : (b : Bool) → cond b 1 0 ≤ 1
    by_test true = omega arith
    by_test false = omega arith

    at_most_one : (o : Option Grip) → names k o ≤ 1
    at_most_one None = omega arith
    at_most_one (Some g) = by_test (eqb g.place k)

inside : (gs : List (Option Grip)) (p : ℕ) (g : Grip) → grip gs p ≡ Some g → p < length gs
inside gs p g has = elim (cases_lt p (length gs)) [
  | inl lt ↦ lt
  | inr past ↦ let none = get_or_past gs p None past in absurd (cc (sym none ∙ has))
]

-- a place to which somebody refers is counted
counted_grip : (gs : List (Option Grip)) (p k : ℕ) (g : Grip) → grip gs p ≡ Some g → g.place ≡ k → count_of k (named gs) ≢ 0
counted_grip gs p k g has at none =
    let one : names k (grip gs p) ≡ 1 = ap (names k) has ∙ names_own k g at in omega (arith, (named_set gs p k None (inside gs p g has)), one, none)

-- what is true of the new element and of the others that stay, is true of all
by_set : {X : Type 0} (Q : ℕ → X → Type 0) (xs : List X) (i : ℕ) (y d : X) → i < length xs → Q i y → ((j : ℕ) → j ≢ i → Q j (get_or xs j d)) → (j : ℕ) → Q j (get_or (set xs i y) j d)
by_set Q xs i y d lt new stays j = ⊎_elim
    (λ (same : j ≡ i). subst (λ (l : ℕ). Q l (get_or (set xs i y) l d)) (sym same) (subst (Q i) (sym (get_or-set_same xs i y d lt)) new))
    (λ (apart : j ≢ i). subst (Q j) (sym (get_or-set_other xs i j y d apart)) (stays j apart))
    (cases_eq j i)

same_number : (i j : ℕ) (o : Option InMemory) → is_of i o ≡ true → is_of j o ≡ true → j ≡ i
same_number i j None one other = absurd (cc one)
same_number i j (Some x) one other = sym (eqb-true x.number j other) ∙ eqb-true x.number i one

module _ (ps : List (Option InMemory)) (n : ℕ) (gs : List (Option Grip)) (cur : Image) where
  -- Place k, which was o, is e now, and process p, which refers to no other place, has grip g.
  record Changes (p k : ℕ) (o e : Option InMemory) (g : Option Grip) : Type 0 where
    pub is : IsTable ps n gs cur
    pub within : k < 50
    pub process : p < length gs
    pub was : entry_at ps k ≡ o
    pub before : (h : Grip) → grip gs p ≡ Some h → h.place ≡ k
    pub after : (h : Grip) → g ≡ Some h → (h.place ≡ k) × (is_of h.number e ≡ true)
    pub count : references_in e + names k (grip gs p) ≡ references_in o + names k g
    pub used : IsSome e → references_in e ≢ 0
    pub numbers : (i : ℕ) → is_of i e ≡ true → IsTrue (is_number n i) × ((j : ℕ) → HasNumber ps j i → j ≡ k)
    pub keeps : (q : ℕ) (h : Grip) → q ≢ p → grip gs q ≡ Some h → h.place ≡ k → is_of h.number e ≡ true
    pub locks : (i : ℕ) → g ≡ Some (locked_grip k i) → holder_in e ≡ Some p
    pub holders : (q : ℕ) → holder_in e ≡ Some q → ((q ≡ p) × ((i : ℕ) × (g ≡ Some (locked_grip k i)))) ⊎ ((q ≢ p) × (holder_in o ≡ Some q))
    pub copies : (i : ℕ) (d : Dinode) → is_of i e ≡ true → copy_in e ≡ Some d → (inode_of cur i ≡ d) × (d.kind ≢ 0)
    pub stays : (q i : ℕ) → q ≢ p → grip gs q ≡ Some (locked_grip k i) → Stays o e

  module _ (p k : ℕ) (o e : Option InMemory) (g : Option Grip) (c : Changes p k o e g) where
    abbrev now : List (Option InMemory)
    now = set ps k e

    abbrev grips : List (Option Grip)
    grips = set gs p g

    place_inside : k < length ps
    place_inside = let size = c.is.size in let lt = c.within in omega (arith, size, lt)

    at_places : (Q : ℕ → Option InMemory → Type 0) → Q k e → ((j : ℕ) → j ≢ k → Q j (entry_at ps j)) → (j : ℕ) → Q j (entry_at now j)
    at_places Q = by_set Q ps k e None place_inside

    at_grips : (Q : ℕ → Option Grip → Type 0) → Q p g → ((q : ℕ) → q ≢ p → Q q (grip gs q)) → (q : ℕ) → Q q (grip grips q)
    at_grips Q = by_set Q gs p g None c.process

    -- what the place itself is now
    here : entry_at now k ≡ e
    here = get_or-set_same ps k e None place_inside

    there : (j : ℕ) → j ≢ k → entry_at now j ≡ entry_at ps j
    there j apart = get_or-set_other ps k j e None apart

    counts : (j : ℕ) → j < length now → references_at now j ≡ count_of j (named grips)
    counts j lt = at_places (λ l x. l < length ps → references_in x ≡ count_of l (named grips))
        (λ under. let change = named_set gs p k g c.process in
        let each = c.is.counted.each k place_inside in
        let count = c.count in omega (arith, change, each, (ap references_in c.was), count))
        (λ l apart under. let change = named_set gs p l g c.process in
        let each = c.is.counted.each l under in
        let before = names_elsewhere l k (grip gs p) c.before apart in
        let after = names_elsewhere l k g (λ h has. (c.after h has).0) apart in omega (arith, change, each, before, after))
        j (subst (λ m. j < m) (length-set ps k e) lt)

    counted_now : AreCounted now (named grips)
    counted_now = record {
      each = counts;
      used = at_places (λ l x. IsSome x → references_in x ≢ 0) c.used (λ l apart. c.is.counted.used l);
    }

    places_now : (q : ℕ) (h : Grip) → grip grips q ≡ Some h → (h.place < 50) × HasNumber now h.place h.number
    places_now = at_grips (λ q x. (h : Grip) → x ≡ Some h → (h.place < 50) × HasNumber now h.place h.number)
        (λ h has. let at = c.after h has in (
          subst (λ j. j < 50) (sym at.0) c.within,
          ap (λ j. is_of h.number (entry_at now j)) at.0 ∙ ap (is_of h.number) here ∙ at.1,
        ))
        (λ q apart h has. let at = c.is.places q h has in (
          at.0,
          ⊎_elim
              (λ (same : h.place ≡ k). ap (λ j. is_of h.number (entry_at now j)) same ∙ ap (is_of h.number) here ∙ c.keeps q h apart has same)
              (λ (other : h.place ≡ k → ⊥). ap (is_of h.number) (there h.place other) ∙ at.1)
              (cases_eq h.place k),
        ))

    once_now : (i j l : ℕ) → HasNumber now j i → HasNumber now l i → j ≡ l
    once_now i j = at_places (λ m x. (l : ℕ) → is_of i x ≡ true → HasNumber now l i → m ≡ l)
        (λ l is_new has. at_places (λ m x. is_of i x ≡ true → k ≡ m) (λ _. refl) (λ m apart old. sym ((c.numbers i is_new).1 m old)) l has)
        (λ m apart l old has. at_places (λ y x. is_of i x ≡ true → m ≡ y) (λ is_new. (c.numbers i is_new).1 m old) (λ y other is_old. c.is.once i m y old is_old) l has)
        j

    locks_now : (q l i : ℕ) → grip grips q ≡ Some (locked_grip l i) → holder_at now l ≡ Some q
    locks_now = at_grips (λ q x. (l i : ℕ) → x ≡ Some (locked_grip l i) → holder_at now l ≡ Some q)
        (λ l i has. let at = (c.after (locked_grip l i) has).0 in
        ap (holder_at now) at ∙ ap holder_in here ∙ c.locks i (subst (λ j. g ≡ Some (locked_grip j i)) at has))
        (λ q apart l i has. ⊎_elim
        (λ (same : l ≡ k). let mine = subst (λ j. grip gs q ≡ Some (locked_grip j i)) same has in
        ap (holder_at now) same ∙ ap holder_in here ∙ (c.stays q i apart mine).holder ∙ ap holder_in (sym c.was) ∙ c.is.locks q k i mine)
        (λ (other : l ≡ k → ⊥). ap holder_in (there l other) ∙ c.is.locks q l i has)
        (cases_eq l k))

    mine_now : grip grips p ≡ g
    mine_now = get_or-set_same gs p g None c.process

    theirs_now : (q : ℕ) → q ≢ p → grip grips q ≡ grip gs q
    theirs_now q apart = get_or-set_other gs p q g None apart

    -- who holds another place's lock is another process
    apart_elsewhere : (q l i : ℕ) → l ≢ k → grip gs q ≡ Some (locked_grip l i) → q ≢ p
    apart_elsewhere q l i other has same = other (c.before (locked_grip l i) (subst (λ r. grip gs r ≡ Some (locked_grip l i)) same has))

    holders_now : (q l : ℕ) → holder_at now l ≡ Some q → (i : ℕ) × (grip grips q ≡ Some (locked_grip l i))
    holders_now q = at_places (λ l x. holder_in x ≡ Some q → (i : ℕ) × (grip grips q ≡ Some (locked_grip l i)))
        (λ holds. elim (c.holders q holds) [
          | inl mine ↦ (mine.1.0, ap (grip grips) mine.0 ∙ mine_now ∙ mine.1.1)
          | inr theirs ↦ let has = c.is.holders q k (ap holder_in c.was ∙ theirs.1) in (has.0, theirs_now q theirs.0 ∙ has.1)
        ])
        (λ l other holds. let has = c.is.holders q l holds in (has.0, theirs_now q (apart_elsewhere q l has.0 other has.1) ∙ has.1))

    table_now : IsTable now n grips cur
    table_now = record {
      size = length-set ps k e ∙ c.is.size;
      few = subst (λ m. m ≤ 32) (sym (length-set gs p g)) c.is.few;
      counted = counted_now;
      places = places_now;
      once = once_now;
      numbers = λ i. at_places (λ l x. is_of i x ≡ true → IsTrue (is_number n i)) (λ is_new. (c.numbers i is_new).0) (λ l apart. c.is.numbers i l);
      locks = locks_now;
      holders = holders_now;
      copies = λ i l d. at_places (λ j x. is_of i x ≡ true → copy_in x ≡ Some d → (inode_of cur i ≡ d) × (d.kind ≢ 0)) (c.copies i d) (λ j apart. c.is.copies i j d) l;
    }

    others_now : (q l i : ℕ) → q ≢ p → grip gs q ≡ Some (locked_grip l i) → Stays (entry_at ps l) (entry_at now l)
    others_now q l i apart = at_places (λ j x. grip gs q ≡ Some (locked_grip j i) → Stays (entry_at ps j) x)
        (λ has. subst (λ x. Stays x e) (sym c.was) (c.stays q i apart has))
        (λ j other has. record { number = λ m. refl; holder = refl; copy = refl })
        l

-- no number stands where only one that stood there does
kept_numbers : (ps : List (Option InMemory)) (n : ℕ) (gs : List (Option Grip)) (cur : Image) (k : ℕ) (o : Option InMemory) → IsTable ps n gs cur → entry_at ps k ≡ o → (i : ℕ) → is_of i o ≡ true → IsTrue (is_number n i) × ((j : ℕ) → HasNumber ps j i → j ≡ k)
kept_numbers ps n gs cur k o is was i has = let old = ap (is_of i) was ∙ has in (is.numbers i k old, λ j other. is.once i j k other old)

-- who refers to the place, refers to the number that stands there
kept_grips : (ps : List (Option InMemory)) (n : ℕ) (gs : List (Option Grip)) (cur : Image) (k q : ℕ) (o : Option InMemory) (h : Grip) → IsTable ps n gs cur → entry_at ps k ≡ o → grip gs q ≡ Some h → h.place ≡ k → is_of h.number o ≡ true
kept_grips ps n gs cur k q o h is was has at = ap (is_of h.number) (sym was) ∙ ap (λ j. is_of h.number (entry_at ps j)) (sym at) ∙ (is.places q h has).1

-- a place has one holder
one_holder : (ps : List (Option InMemory)) (n : ℕ) (gs : List (Option Grip)) (cur : Image) (p q k i j : ℕ) → IsTable ps n gs cur → grip gs p ≡ Some (locked_grip k i) → grip gs q ≡ Some (locked_grip k j) → q ≡ p
one_holder ps n gs cur p q k i j is mine theirs = let both = sym (is.locks q k j theirs) ∙ is.locks p k i mine in cc both

-- whose grip is known refers to no other place
only_grip : (gs : List (Option Grip)) (p : ℕ) (g h : Grip) → grip gs p ≡ Some g → grip gs p ≡ Some h → h ≡ g
only_grip gs p g h is other = let both = sym other ∙ is in cc both

-- a grip that was just given
given : (e : Option InMemory) (g h : Grip) → is_of g.number e ≡ true → Some g ≡ Some h → (h.place ≡ g.place) × (is_of h.number e ≡ true)
given e g h has is = let same : g ≡ h = cc is in (ap (λ (f : Grip). f.place) (sym same), subst (λ (f : Grip). is_of f.number e ≡ true) same has)

not_locked : (j k i l : ℕ) → Some (unlocked_grip j i) ≡ Some (locked_grip k l) → ⊥
not_locked j k i l is = let same : unlocked_grip j i ≡ locked_grip k l = cc is in absurd (cc (ap (λ (f : Grip). f.is_locked) same))

-- where a number's reference goes, the number stands, or else nothing, and it stands nowhere
place_for_is : (ps : List (Option InMemory)) (i k : ℕ) → place_for ps i ≡ Some k → (k < length ps) × (HasNumber ps k i ⊎ ((entry_at ps k ≡ None) × ((j : ℕ) → is_of i (entry_at ps j) ≡ false)))
place_for_is ps i k = by (position (is_of i) ps) (position (λ e. is_none e) ps) refl refl
  where
    nothing : (o : Option InMemory) → is_none o ≡ true → o ≡ None
    nothing None free = refl
    nothing (Some x) free = absurd (cc free)

    nowhere : position (is_of i) ps ≡ None → (j : ℕ) → is_of i (entry_at ps j) ≡ false
    nowhere none j = elim (cases_lt j (length ps)) [
      | inl lt ↦ none_passes (is_of i) ps j None none lt
      | inr past ↦ ap (is_of i) (get_or_past ps j None past)
    ]

    by : (known free : Option ℕ) → position (is_of i) ps ≡ known → position (λ e. is_none e) ps ≡ free → or_else known free ≡ Some k → (k < length ps) × (HasNumber ps k i ⊎ ((entry_at ps k ≡ None) × ((j : ℕ) → is_of i (entry_at ps j) ≡ false)))
    by (Some j) free was was_free is = let at = position-Some (is_of i) ps k None (was ∙ is) in (at.0, inl at.1)
    by None free was was_free is = let at = position-Some (λ e. is_none e) ps k None (was_free ∙ is) in (at.0, inr (nothing (entry_at ps k) at.1, nowhere was))

module _ (t : TableState) (gs : List (Option Grip)) (cur : Image) (p k i : ℕ) (is : TableIs t gs cur) where
  abbrev ps : List (Option InMemory)
  ps = t.places

  abbrev n : ℕ
  n = t.inode_count

  abbrev Changed : Option InMemory → Option InMemory → Option Grip → Type 0
  Changed o e g = Changes ps n gs cur p k o e g

  -- what they were, is kept
  kept_so : (o e : Option InMemory) (g : Option Grip) → Changed o e g → KeepsTable t (record t { places = set ps k e }) p gs (set gs p g) cur
  kept_so o e g c = record { table = table_now ps n gs cur p k o e g c; others = others_now ps n gs cur p k o e g c }

  -- a copy that stays
  kept_copies : (o : Option InMemory) → entry_at ps k ≡ o → (j : ℕ) (d : Dinode) → is_of j o ≡ true → copy_in o ≡ Some d → (inode_of cur j ≡ d) × (d.kind ≢ 0)
  kept_copies o was j d has copy = is.copies j k d (ap (is_of j) was ∙ has) (ap copy_in was ∙ copy)

  -- a reference more, where the number stands
  refers_known : (x : InMemory) → k < 50 → p < length gs → grip gs p ≡ None → entry_at ps k ≡ Some x → is_of i (Some x) ≡ true → Changed (Some x) (Some (with_reference (Some x) i)) (Some (unlocked_grip k i))
  refers_known x within process none was has = record {
    is = is;
    within = within;
    process = process;
    was = was;
    before = λ h other. absurd (cc (sym none ∙ other));
    after = λ h given_it. given (Some (with_reference (Some x) i)) (unlocked_grip k i) h has given_it;
    count = let old : names k (grip gs p) ≡ 0 = ap (names k) none in let new = names_own k (unlocked_grip k i) refl in omega (arith, old, new);
    used = λ some none. omega (arith, none);
    numbers = kept_numbers ps n gs cur k (Some x) is was;
    keeps = λ q h apart theirs at. kept_grips ps n gs cur k q (Some x) h is was theirs at;
    locks = λ j locked. absurd (not_locked k k i j locked);
    holders = λ q holds. inr (λ same. let own = is.holders q k (ap holder_in was ∙ holds) in absurd (cc (sym none ∙ ap (grip gs) (sym same) ∙ own.1)), holds);
    copies = kept_copies (Some x) was;
    stays = λ q j apart theirs. record { number = λ m. refl; holder = refl; copy = refl };
  }

  -- the first one
  refers_first : k < 50 → p < length gs → grip gs p ≡ None → entry_at ps k ≡ None → ((j : ℕ) → is_of i (entry_at ps j) ≡ false) → IsTrue (is_number n i) → Changed None (Some (with_reference None i)) (Some (unlocked_grip k i))
  refers_first within process none was nowhere number = record {
    is = is;
    within = within;
    process = process;
    was = was;
    before = λ h other. absurd (cc (sym none ∙ other));
    after = λ h given_it. given (Some (with_reference None i)) (unlocked_grip k i) h (eq-eqb i i refl) given_it;
    count = let old : names k (grip gs p) ≡ 0 = ap (names k) none in let new = names_own k (unlocked_grip k i) refl in omega (arith, old, new);
    used = λ some none. omega (arith, none);
    numbers = λ j has. let same : i ≡ j = eqb-true i j has in
        (subst (λ m. IsTrue (is_number n m)) same number, λ l stands. absurd (cc (sym (nowhere l) ∙ ap (λ m. is_of m (entry_at ps l)) same ∙ stands)));
    keeps = λ q h apart theirs at. absurd (cc (kept_grips ps n gs cur k q None h is was theirs at));
    locks = λ j locked. absurd (not_locked k k i j locked);
    holders = λ q holds. absurd (cc holds);
    copies = λ j d has copy. absurd (cc copy);
    stays = λ q j apart theirs. absurd (cc (kept_grips ps n gs cur k q None (locked_grip k j) is was theirs refl));
  }

  refers : p < length gs → grip gs p ≡ None → IsTrue (is_number n i) → place_for ps i ≡ Some k → KeepsTable t (record t { places = set ps k (Some (with_reference (entry_at ps k) i)) }) p gs (set gs p (Some (unlocked_grip k i))) cur
  refers process none number found = let at = place_for_is ps i k found in by (let size = is.size in let lt = at.0 in omega (arith, size, lt)) (entry_at ps k) refl at.1
    where
      by : k < 50 → (o : Option InMemory) → entry_at ps k ≡ o → (is_of i o ≡ true) ⊎ ((o ≡ None) × ((j : ℕ) → is_of i (entry_at ps j) ≡ false)) → KeepsTable t (record t { places = set ps k (Some (with_reference o i)) }) p gs (set gs p (Some (unlocked_grip k i))) cur
      by within None was (inl has) = absurd (cc has)
      by within (Some x) was (inl has) = kept_so (Some x) (Some (with_reference (Some x) i)) (Some (unlocked_grip k i)) (refers_known x within process none was has)
      by within None was (inr free) = kept_so None (Some (with_reference None i)) (Some (unlocked_grip k i)) (refers_first within process none was free.1 number)
      by within (Some x) was (inr free) = absurd (cc free.0)

  -- a lock that nobody had
  takes_lock : (x : InMemory) → x.holder ≡ None → entry_at ps k ≡ Some x → grip gs p ≡ Some (unlocked_grip k i) → Changed (Some x) (with_holder (Some x) p) (Some (locked_grip k i))
  takes_lock x free was has = let at = is.places p (unlocked_grip k i) has in record {
    is = is;
    within = at.0;
    process = inside gs p (unlocked_grip k i) has;
    was = was;
    before = λ h other. ap (λ (f : Grip). f.place) (only_grip gs p (unlocked_grip k i) h has other);
    after = λ h given_it. given (with_holder (Some x) p) (locked_grip k i) h (ap (is_of i) (sym was) ∙ at.1) given_it;
    count = let old : names k (grip gs p) ≡ 1 = ap (names k) has ∙ names_own k (unlocked_grip k i) refl in let new = names_own k (locked_grip k i) refl in omega (arith, old, new);
    used = λ some. subst (λ o. IsSome o → references_in o ≢ 0) was (is.counted.used k) some;
    numbers = kept_numbers ps n gs cur k (Some x) is was;
    keeps = λ q h apart theirs there. kept_grips ps n gs cur k q (Some x) h is was theirs there;
    locks = λ j locked. refl;
    holders = λ q holds. let same : p ≡ q = cc holds in inl (sym same, (i, refl));
    copies = kept_copies (Some x) was;
    stays = λ q j apart theirs. absurd (cc (sym free ∙ ap holder_in (sym was) ∙ is.locks q k j theirs));
  }

  locks_it : grip gs p ≡ Some (unlocked_grip k i) → holder_at ps k ≡ None → KeepsTable t (record t { places = set ps k (with_holder (entry_at ps k) p) }) p gs (set gs p (Some (locked_grip k i))) cur
  locks_it has free = by (entry_at ps k) refl
    where
      by : (o : Option InMemory) → entry_at ps k ≡ o → KeepsTable t (record t { places = set ps k (with_holder o p) }) p gs (set gs p (Some (locked_grip k i))) cur
      by None was = absurd (cc (kept_grips ps n gs cur k p None (unlocked_grip k i) is was has refl))
      by (Some x) was = kept_so (Some x) (with_holder (Some x) p) (Some (locked_grip k i)) (takes_lock x (ap holder_in (sym was) ∙ free) was has)

  -- nobody else has the lock of this place
  no_other : grip gs p ≡ Some (locked_grip k i) → (q j : ℕ) → q ≢ p → grip gs q ≡ Some (locked_grip k j) → ⊥
  no_other has q j apart theirs = apart (one_holder ps n gs cur p q k i j is has theirs)

  -- another copy, or none
  keeps_copy : (x : InMemory) (c : Option Dinode) → IsCopy cur i c → entry_at ps k ≡ Some x → grip gs p ≡ Some (locked_grip k i) → Changed (Some x) (with_copy (Some x) c) (Some (locked_grip k i))
  keeps_copy x c is_copy was has = let at = is.places p (locked_grip k i) has in let number = ap (is_of i) (sym was) ∙ at.1 in record {
    is = is;
    within = at.0;
    process = inside gs p (locked_grip k i) has;
    was = was;
    before = λ h other. ap (λ (f : Grip). f.place) (only_grip gs p (locked_grip k i) h has other);
    after = λ h given_it. given (with_copy (Some x) c) (locked_grip k i) h number given_it;
    count = ap (λ (o : Option Grip). x.references + names k o) has;
    used = λ some. subst (λ o. IsSome o → references_in o ≢ 0) was (is.counted.used k) some;
    numbers = kept_numbers ps n gs cur k (Some x) is was;
    keeps = λ q h apart theirs there. kept_grips ps n gs cur k q (Some x) h is was theirs there;
    locks = λ j locked. ap holder_in (sym was) ∙ is.locks p k i has;
    holders = λ q holds. let both = sym holds ∙ ap holder_in (sym was) ∙ is.locks p k i has in let same : q ≡ p = cc both in inl (same, (i, refl));
    copies = λ j d other copy. let one = same_number i j (Some x) number other in let read = is_copy d copy in (ap (inode_of cur) one ∙ read.0, read.1);
    stays = λ q j apart theirs. absurd (no_other has q j apart theirs);
  }

  keeps_it : (c : Option Dinode) → grip gs p ≡ Some (locked_grip k i) → IsCopy cur i c → KeepsTable t (record t { places = set ps k (with_copy (entry_at ps k) c) }) p gs gs cur
  keeps_it c has is_copy = by (entry_at ps k) refl
    where
      by : (o : Option InMemory) → entry_at ps k ≡ o → KeepsTable t (record t { places = set ps k (with_copy o c) }) p gs gs cur
      by None was = absurd (cc (kept_grips ps n gs cur k p None (locked_grip k i) is was has refl))
      by (Some x) was = subst (λ hs. KeepsTable t (record t { places = set ps k (with_copy (Some x) c) }) p gs hs cur)
          (ap (set gs p) (sym has) ∙ set-get_or gs p None)
          (kept_so (Some x) (with_copy (Some x) c) (Some (locked_grip k i)) (keeps_copy x c is_copy was has))

  -- a place that others still refer to
  leaves_others : (x : InMemory) → 1 < x.references → entry_at ps k ≡ Some x → grip gs p ≡ Some (locked_grip k i) → Changed (Some x) (Some (record x { references = x.references - 1; holder = None })) None
  leaves_others x more was has = let at = is.places p (locked_grip k i) has in record {
    is = is;
    within = at.0;
    process = inside gs p (locked_grip k i) has;
    was = was;
    before = λ h other. ap (λ (f : Grip). f.place) (only_grip gs p (locked_grip k i) h has other);
    after = λ h none. absurd (cc none);
    count = let old : names k (grip gs p) ≡ 1 = ap (names k) has ∙ names_own k (locked_grip k i) refl in omega (arith, old, more);
    used = λ some none. omega (arith, none, more);
    numbers = kept_numbers ps n gs cur k (Some x) is was;
    keeps = λ q h apart theirs there. kept_grips ps n gs cur k q (Some x) h is was theirs there;
    locks = λ j none. absurd (cc none);
    holders = λ q none. absurd (cc none);
    copies = kept_copies (Some x) was;
    stays = λ q j apart theirs. absurd (no_other has q j apart theirs);
  }

  -- the last one
  leaves_last : (x : InMemory) → x.references ≤ 1 → entry_at ps k ≡ Some x → grip gs p ≡ Some (locked_grip k i) → Changed (Some x) None None
  leaves_last x one was has = let at = is.places p (locked_grip k i) has in record {
    is = is;
    within = at.0;
    process = process;
    was = was;
    before = λ h other. ap (λ (f : Grip). f.place) (only_grip gs p (locked_grip k i) h has other);
    after = λ h none. absurd (cc none);
    count = let old = named_p in omega (arith, old, single);
    used = λ none. absurd (cc none);
    numbers = λ j none. absurd (cc none);
    keeps = λ q h apart theirs there. absurd (counted_grip (set gs p None) q k h (get_or-set_other gs p q None None apart ∙ theirs) there nobody);
    locks = λ j none. absurd (cc none);
    holders = λ q none. absurd (cc none);
    copies = λ j d none. absurd (cc none);
    stays = λ q j apart theirs. absurd (no_other has q j apart theirs);
  }
    where
      process : p < length gs
      process = inside gs p (locked_grip k i) has

      named_p : names k (grip gs p) ≡ 1
      named_p = ap (names k) has ∙ names_own k (locked_grip k i) refl

      counted : x.references ≡ count_of k (named gs)
      counted = ap references_in (sym was) ∙ is.counted.each k (let size = is.size in let lt = (is.places p (locked_grip k i) has).0 in omega (arith, size, lt))

      nobody : count_of k (named (set gs p None)) ≡ 0
      nobody = let change = named_set gs p k None process in let old = named_p in let count = counted in omega (arith, change, old, count, one)

      single : x.references ≡ 1
      single = let change = named_set gs p k None process in let old = named_p in let count = counted in let none = nobody in omega (arith, change, old, count, none)

  leaves : grip gs p ≡ Some (locked_grip k i) → KeepsTable t (record t { places = set ps k (without_reference (entry_at ps k)) }) p gs (set gs p None) cur
  leaves has = by (entry_at ps k) refl
    where
      by_count : (x : InMemory) → entry_at ps k ≡ Some x → (b : Bool) → ltb 1 x.references ≡ b → KeepsTable t (record t { places = set ps k (cond b (Some (record x { references = x.references - 1; holder = None })) None) }) p gs (set gs p None) cur
      by_count x was true more = kept_so (Some x) (Some (record x { references = x.references - 1; holder = None })) None (leaves_others x (ltb-true 1 x.references more) was has)
      by_count x was false last = kept_so (Some x) None None (leaves_last x (ltb-false 1 x.references last) was has)

      by : (o : Option InMemory) → entry_at ps k ≡ o → KeepsTable t (record t { places = set ps k (without_reference o) }) p gs (set gs p None) cur
      by None was = absurd (cc (kept_grips ps n gs cur k p None (locked_grip k i) is was has refl))
      by (Some x) was = by_count x was (ltb 1 x.references) refl

pub kept_by_refer : KeptByRefer
kept_by_refer t gs cur p i k is process none number found = refers t gs cur p k i is process none number found

pub kept_by_lock : KeptByLock
kept_by_lock t gs cur p k i is has free = locks_it t gs cur p k i is has free

pub kept_by_leave : KeptByLeave
kept_by_leave t gs cur p k i is has = leaves t gs cur p k i is has

-- the current image changes, but no inode of which there is a copy
other_image : (l : List (Option InMemory)) (n : ℕ) (gs : List (Option Grip)) (old new : Image) → IsTable l n gs old → ((i k : ℕ) (d : Dinode) → HasNumber l k i → copy_at l k ≡ Some d → inode_of new i ≡ inode_of old i) → IsTable l n gs new
other_image l n gs old new is same = record {
  size = is.size;
  few = is.few;
  counted = is.counted;
  places = is.places;
  once = is.once;
  numbers = is.numbers;
  locks = is.locks;
  holders = is.holders;
  copies = λ i k d has copy. let at = is.copies i k d has copy in (same i k d has copy ∙ at.0, at.1);
}

-- a copy's inode is used in the current image
used_copy : (l : List (Option InMemory)) (n : ℕ) (gs : List (Option Grip)) (cur : Image) (i k : ℕ) (d : Dinode) → IsTable l n gs cur → HasNumber l k i → copy_at l k ≡ Some d → (inode_of cur i).kind ≢ 0
used_copy l n gs cur i k d is has copy free = let at = is.copies i k d has copy in at.1 (ap (λ (c : Dinode). c.kind) (sym at.0) ∙ free)

-- number 0 is none that operations may name
named_number : (n i : ℕ) → IsTrue (is_number n i) → i ≢ 0
named_number n i may none = absurd (cc (subst (λ (j : ℕ). IsTrue (is_number n j)) none may))

pub kept_by_image : KeptByImage
kept_by_image t gs old new is same = other_image t.places t.inode_count gs old new is
    (λ i k d has copy. same i (is.numbers i k has) (named_number t.inode_count i (is.numbers i k has)) (used_copy t.places t.inode_count gs old i k d is has copy))

-- a place is written twice
set_twice : {X : Type 0} (xs : List X) (k : ℕ) (x y : X) → set (set xs k x) k y ≡ set xs k y
set_twice [] k x y = refl
set_twice (z ∷ xs) zero x y = refl
set_twice (z ∷ xs) (suc k) x y = ap (λ l. z ∷ l) (set_twice xs k x y)

with_copy_twice : (o : Option InMemory) (b c : Option Dinode) → with_copy (with_copy o b) c ≡ with_copy o c
with_copy_twice None b c = refl
with_copy_twice (Some x) b c = refl

copy_of_with : (o : Option InMemory) (c : Option Dinode) (d : Dinode) → copy_in (with_copy o c) ≡ Some d → c ≡ Some d
copy_of_with None c d copy = absurd (cc copy)
copy_of_with (Some x) c d copy = copy

stays_twice : (o e f : Option InMemory) → Stays o e → Stays e f → Stays o f
stays_twice o e f one two = record {
  number = λ i. two.number i ∙ one.number i;
  holder = two.holder ∙ one.holder;
  copy = two.copy ∙ one.copy;
}

-- the places where place k forgets its copy, and where it has another one then
abbrev forgotten : List (Option InMemory) → ℕ → List (Option InMemory)
forgotten ps k = set ps k (with_copy (entry_at ps k) None)

abbrev twice : List (Option InMemory) → ℕ → Option Dinode → List (Option InMemory)
twice ps k c = set (forgotten ps k) k (with_copy (entry_at (forgotten ps k) k) c)

-- first the copy is forgotten, then the image changes, then there is the new copy
pub kept_by_renew : KeptByRenew
kept_by_renew t gs old new p k i c is has same copy = record {
  table = subst (λ ps. IsTable ps t.inode_count gs new) places again.table;
  others = λ q l j apart theirs. subst (λ ps. Stays (entry_at t.places l) (entry_at ps l)) places
      (stays_twice (entry_at t.places l) (entry_at (forgotten t.places k) l) (entry_at (twice t.places k c) l) (first.others q l j apart theirs) (again.others q l j apart theirs));
}
  where
    at : (k < 50) × HasNumber t.places k i
    at = is.places p (locked_grip k i) has

    here : entry_at (forgotten t.places k) k ≡ with_copy (entry_at t.places k) None
    here = get_or-set_same t.places k (with_copy (entry_at t.places k) None) None (let size = is.size in let lt = at.0 in omega (arith, size, lt))

    first : KeepsTable t (record t { places = forgotten t.places k }) p gs gs old
    first = keeps_it t gs old p k i is None has (λ d none. absurd (cc none))

    -- the number's only place has no copy now
    another : (j l : ℕ) (d : Dinode) → HasNumber (forgotten t.places k) l j → copy_at (forgotten t.places k) l ≡ Some d → j ≢ i
    another j l d stands with same_number_there =
        let place : l ≡ k = first.table.once i l k (subst (HasNumber (forgotten t.places k) l) same_number_there stands) (first.table.places p (locked_grip k i) has).1 in
        absurd (cc (copy_of_with (entry_at t.places k) None d (ap copy_in (sym here) ∙ ap (copy_at (forgotten t.places k)) (sym place) ∙ with)))

    between : IsTable (forgotten t.places k) t.inode_count gs new
    between = other_image (forgotten t.places k) t.inode_count gs old new first.table
        (λ j l d stands there. same j (first.table.numbers j l stands) (another j l d stands there) (used_copy (forgotten t.places k) t.inode_count gs old j l d first.table stands there))

    again : KeepsTable (record t { places = forgotten t.places k }) (record t { places = twice t.places k c }) p gs gs new
    again = keeps_it (record t { places = forgotten t.places k }) gs new p k i between c has copy

    places : twice t.places k c ≡ set t.places k (with_copy (entry_at t.places k) c)
    places = ap (λ o. set (forgotten t.places k) k (with_copy o c)) here ∙ ap (set (forgotten t.places k) k) (with_copy_twice (entry_at t.places k) None c)
        ∙ set_twice t.places k (with_copy (entry_at t.places k) None) (with_copy (entry_at t.places k) c)

-- a table without inodes, of processes without grips
empty_table : (ps : List (Option InMemory)) (n : ℕ) (gs : List (Option Grip)) (cur : Image) → length ps ≡ 50 → length gs ≤ 32 → ((k : ℕ) → entry_at ps k ≡ None) → ((p : ℕ) → grip gs p ≡ None) → named gs ≡ [] → IsTable ps n gs cur
empty_table ps n gs cur size few free none nobody = record {
  size = size;
  few = few;
  counted = record {
    each = λ k lt. ap references_in (free k) ∙ ap (count_of k) (sym nobody);
    used = λ k some. absurd (cc (subst (λ o. IsSome o) (free k) some));
  };
  places = λ p g has. absurd (cc (sym (none p) ∙ has));
  once = λ i j k has. absurd (no_number i j has);
  numbers = λ i k has. absurd (no_number i k has);
  locks = λ p k i has. absurd (cc (sym (none p) ∙ has));
  holders = λ p k has. absurd (cc (ap holder_in (sym (free k)) ∙ has));
  copies = λ i k d has. absurd (no_number i k has);
}
  where
    no_number : (i k : ℕ) → HasNumber ps k i → ⊥
    no_number i k has = absurd (cc (ap (is_of i) (sym (free k)) ∙ has))

same_in : {X : Type 0} (m : ℕ) (d : X) (k : ℕ) → get_or (replicate m d) k d ≡ d
same_in m d k = elim (cases_lt k m) [
  | inl lt ↦ get_or-replicate m k d d lt
  | inr past ↦ get_or_past (replicate m d) k d (let long = length-replicate m d in omega (arith, long, past))
]

named_none : (m : ℕ) → named (replicate m None) ≡ []
named_none zero = refl
named_none (suc m) = named_none m

pub is_table_at_opening : IsTableAtOpening
is_table_at_opening f n m cur few = empty_table (replicate 50 None) n (replicate m None) cur (length-replicate {A = Option InMemory} 50 None) (subst (λ l. l ≤ 32) (sym (length-replicate {A = Option Grip} m None)) few) (same_in 50 None) (same_in m None) (named_none m)

pub has_place_for_each : HasPlaceForEach
has_place_for_each t gs cur i is = by (place_for t.places i) refl (has_place t.places (named gs) i is.counted (let long = length-named gs in let few = is.few in let size = is.size in omega (arith, long, few, size)))
  where
    by : (o : Option ℕ) → place_for t.places i ≡ o → IsSome o → HasPlaceFor t i
    by None none some = absurd (cc some)
    by (Some k) found some =
        (k, found, omega (arith, (is.counted.each k (place_for_is t.places i k found).0), (count_of-few k gs), is.few))

pub locks_exclude : LocksExclude
locks_exclude t gs cur p q i j k is mine theirs =
    let same : j ≡ k = is.once i j k (is.places p (locked_grip j i) mine).1 (is.places q (locked_grip k i) theirs).1 in
    one_holder t.places t.inode_count gs cur q p k i i is theirs (subst (λ l. grip gs p ≡ Some (locked_grip l i)) same mine)

pub holder_is_another : HolderIsAnother
holder_is_another t gs cur p q i k is mine holds =
    let theirs = is.holders q k holds in
    let one = same_number i theirs.0 (entry_at t.places k) (is.places p (unlocked_grip k i) mine).1 (is.places q (locked_grip k theirs.0) theirs.1).1 in (
      λ same. not_locked k k i theirs.0 (sym mine ∙ ap (grip gs) (sym same) ∙ theirs.1),
      subst (λ j. grip gs q ≡ Some (locked_grip k j)) one theirs.1,
    )
