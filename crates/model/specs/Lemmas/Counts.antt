-- How often a number stands in lists of lists, and what holds of each number there.
use Rattle.std.proofs.Common.{◌≡◌, ◌≢◌, ℕ, zero, suc, ◌+◌, ◌-◌, ◌<◌, ◌≤◌, true, false, cond, eqb, List, [], ◌∷◌, ◌++◌, length, get_or, refl, sym, ap, subst, ◌∙◌, ⊎_elim, zero-add, add_assoc, arith}
use Rattle.std.specs.Prelude.{All}
use Rattle.std.specs.List.{list_any, flat_map, range_with_len, AllByRecursion}
use Rattle.model.specs.Common.{cases_Bool, cases_eq, eq-eqb, get_or-range_with_len, length-range_with_len, ne_eqb, or_parts}
use Rattle.model.specs.Soundness.{count_of}

pub count_of-append : (b : ℕ) (front back : List ℕ) → count_of b (front ++ back) ≡ count_of b front + count_of b back
count_of-append b [] back = sym (zero-add (count_of b back))
count_of-append b (a ∷ front) back =
    let rest = count_of-append b front back in
    let one = cond (eqb a b) 1 0 in
    ap (λ r. one + r) rest ∙ sym (add_assoc one (count_of b front) (count_of b back))

-- a number that no test finds stands nowhere
pub count_of-absent : (b : ℕ) (places : List ℕ) → list_any (λ e. eqb e b) places ≡ false → count_of b places ≡ 0
count_of-absent b [] h = refl
count_of-absent b (a ∷ places) h =
    let parts = or_parts (eqb a b) (list_any (λ e. eqb e b) places) h in
    rw (parts.0, count_of-absent b places parts.1) refl

pub count_of-found : (b : ℕ) (places : List ℕ) → list_any (λ e. eqb e b) places ≡ true → 0 < count_of b places
count_of-found b [] h = absurd (cc h)
count_of-found b (a ∷ places) h =
    ⊎_elim (λ (e : a ≡ b). let one = eq-eqb a b e in rw one (omega arith))
    (λ (ne : a ≢ b). let no = ne_eqb a b ne in let r = count_of-found b places (rw no at h) in rw no (omega arith)) (cases_eq a b)

-- and the other way round
pub list_any-uncounted : (b : ℕ) (places : List ℕ) → count_of b places ≡ 0 → list_any (λ e. eqb e b) places ≡ false
list_any-uncounted b places none =
    ⊎_elim (λ (t : list_any (λ e. eqb e b) places ≡ true). absurd (let some = count_of-found b places t in omega arith))
    (λ (f : list_any (λ e. eqb e b) places ≡ false). f) (cases_Bool (list_any (λ e. eqb e b) places))

pub list_any-counted : (b : ℕ) (places : List ℕ) → count_of b places ≢ 0 → list_any (λ e. eqb e b) places ≡ true
list_any-counted b places some =
    ⊎_elim (λ (t : list_any (λ e. eqb e b) places ≡ true). t)
    (λ (f : list_any (λ e. eqb e b) places ≡ false). absurd (some (count_of-absent b places f))) (cases_Bool (list_any (λ e. eqb e b) places))

-- one that isn't there may be added
pub count_of-one : (b a : ℕ) (earlier : List ℕ) → list_any (λ e. eqb e a) earlier ≡ false → count_of b earlier ≤ 1 →
    count_of b (earlier ++ a ∷ []) ≤ 1
count_of-one b a earlier absent h =
    let sum = count_of-append b earlier (a ∷ []) in
    ⊎_elim (λ (e : a ≡ b).
    let none : count_of b earlier ≡ 0 = rw e at (count_of-absent a earlier absent) in
    let one : count_of b (a ∷ []) ≡ 1 = rw (e, eq-eqb b b refl) refl in omega arith)
    (λ (ne : a ≢ b). let none : count_of b (a ∷ []) ≡ 0 = rw (ne_eqb a b ne) refl in omega arith)
    (cases_eq a b)

-- what stands at a place is counted
pub count_of-get_or : (places : List ℕ) (k d : ℕ) → k < length places → 1 ≤ count_of (get_or places k d) places
count_of-get_or [] k d h = absurd (omega arith)
count_of-get_or (a ∷ places) zero d h = rw (eq-eqb a a refl) (omega arith)
count_of-get_or (a ∷ places) (suc k) d h =
    let r = count_of-get_or places k d (omega arith) in omega arith

-- what holds of a number that stands in the list
pub count_of-All : (P : ℕ → Type 0) (b : ℕ) (places : List ℕ) → AllByRecursion P places → count_of b places ≢ 0 → P b
count_of-All P b [] all some = absurd (some refl)
count_of-All P b (a ∷ places) all some =
    ⊎_elim (λ (e : a ≡ b). subst P e all.0)
    (λ (ne : a ≢ b). count_of-All P b places all.1 (λ z. some (rw (ne_eqb a b ne, z) refl))) (cases_eq a b)

pub AllByRecursion-append : {X : Type 0} (P : X → Type 0) (front back : List X) → AllByRecursion P front → AllByRecursion P back →
    AllByRecursion P (front ++ back)
AllByRecursion-append P [] back f b = b
AllByRecursion-append P (x ∷ front) back f b = (f.0, AllByRecursion-append P front back f.1 b)

pub AllByRecursion-parts : {X : Type 0} (P : X → Type 0) (front back : List X) → AllByRecursion P (front ++ back) →
    AllByRecursion P front × AllByRecursion P back
AllByRecursion-parts P [] back h = (tt, h)
AllByRecursion-parts P (x ∷ front) back h = let r = AllByRecursion-parts P front back h.1 in ((h.0, r.0), r.1)

-- what holds in all of the lists holds in each
pub AllByRecursion-flat : {X : Type 0} (P : X → Type 0) (f : ℕ → List X) (a n i : ℕ) → AllByRecursion P (flat_map f (range_with_len a n)) →
    a ≤ i → i < a + n → AllByRecursion P (f i)
AllByRecursion-flat P f a zero i all low high = absurd (omega arith)
AllByRecursion-flat P f a (suc n) i all low high =
    let parts = AllByRecursion-parts P (f a) (flat_map f (range_with_len (a + 1) n)) all in
    ⊎_elim (λ (e : a ≡ i). subst (λ (j : ℕ). AllByRecursion P (f j)) e parts.0)
    (λ (ne : a ≢ i). AllByRecursion-flat P f (a + 1) n i parts.1 (omega arith) (omega arith)) (cases_eq a i)

-- the same of lists that stand for the words of one
pub flat_at : (P : ℕ → Type 0) (f : ℕ → List ℕ) (ws : List ℕ) (j : ℕ) → AllByRecursion P (flat_map f ws) → j < length ws →
    AllByRecursion P (f (get_or ws j 0))
flat_at P f [] j h low = absurd (omega arith)
flat_at P f (w ∷ ws) zero h low = (AllByRecursion-parts P (f w) (flat_map f ws) h).0
flat_at P f (w ∷ ws) (suc j) h low = flat_at P f ws j (AllByRecursion-parts P (f w) (flat_map f ws) h).1 (omega arith)

-- what follows of each holds of all
pub all_weaker : (P Q : ℕ → Type 0) (xs : List ℕ) → ((a : ℕ) → P a → Q a) → AllByRecursion P xs → AllByRecursion Q xs
all_weaker P Q [] each h = tt
all_weaker P Q (a ∷ xs) each h = (each a h.0, all_weaker P Q xs each h.1)

-- a fact of each number is a fact of each of their list
pub All-range : (P : ℕ → Type 0) (a n : ℕ) → ((i : ℕ) → a ≤ i → i < a + n → P i) → All P (range_with_len a n)
All-range P a n each k d h =
    let below : k < n = omega (arith, length-range_with_len a n) in
    subst P (sym (get_or-range_with_len a n k d below)) (each (a + k) (omega arith) (omega arith))

pub All-range_at : (P : ℕ → Type 0) (a n i : ℕ) → All P (range_with_len a n) → a ≤ i → i < a + n → P i
All-range_at P a n i all low high =
    subst P (get_or-range_with_len a n (i - a) 0 (omega arith) ∙ (omega arith)) (all (i - a) 0 (omega (arith, length-range_with_len a n)))

-- fewer of the lists
pub count_front : (f : ℕ → List ℕ) (b a m n : ℕ) → m ≤ n → count_of b (flat_map f (range_with_len a m)) ≤ count_of b (flat_map f (range_with_len a n))
count_front f b a zero n h = omega arith
count_front f b a (suc m) zero h = absurd (omega arith)
count_front f b a (suc m) (suc n) h =
    let one = count_of-append b (f a) (flat_map f (range_with_len (a + 1) m)) in
    let two = count_of-append b (f a) (flat_map f (range_with_len (a + 1) n)) in
    let r = count_front f b (a + 1) m n (omega arith) in omega arith

-- one list of many
pub count_flat : (f : ℕ → List ℕ) (b a n i : ℕ) → a ≤ i → i < a + n → count_of b (f i) ≤ count_of b (flat_map f (range_with_len a n))
count_flat f b a zero i low high = absurd (omega arith)
count_flat f b a (suc n) i low high =
    let sum = count_of-append b (f a) (flat_map f (range_with_len (a + 1) n)) in
    ⊎_elim (λ (e : a ≡ i). rw (← e) (omega arith))
    (λ (ne : a ≢ i). let r = count_flat f b (a + 1) n i (omega arith) (omega arith) in omega arith) (cases_eq a i)

-- two different ones of them
pub count_two : (f : ℕ → List ℕ) (b a n i j : ℕ) → a ≤ i → i < a + n → a ≤ j → j < a + n → i ≢ j →
    count_of b (f i) + count_of b (f j) ≤ count_of b (flat_map f (range_with_len a n))
count_two f b a zero i j li hi lj hj ne = absurd (omega arith)
count_two f b a (suc n) i j li hi lj hj ne =
    let sum = count_of-append b (f a) (flat_map f (range_with_len (a + 1) n)) in
    ⊎_elim
    (λ (e : a ≡ i).
    let r = count_flat f b (a + 1) n j (omega arith) (omega arith) in
    let s : count_of b (f a) ≡ count_of b (f i) = ap (λ q. count_of b (f q)) e in omega arith)
    (λ (nei : a ≢ i).
    ⊎_elim
    (λ (e : a ≡ j).
    let r = count_flat f b (a + 1) n i (omega arith) (omega arith) in
    let s : count_of b (f a) ≡ count_of b (f j) = ap (λ q. count_of b (f q)) e in omega arith)
    (λ (nej : a ≢ j). let r = count_two f b (a + 1) n i j (omega arith) (omega arith) (omega arith) (omega arith) ne in omega arith)
    (cases_eq a j))
    (cases_eq a i)

pub count_flat_same : (f g : ℕ → List ℕ) (b a n : ℕ) → ((j : ℕ) → a ≤ j → j < a + n → count_of b (g j) ≡ count_of b (f j)) →
    count_of b (flat_map g (range_with_len a n)) ≡ count_of b (flat_map f (range_with_len a n))
count_flat_same f g b a zero same = refl
count_flat_same f g b a (suc n) same =
    let here = same a (omega arith) (omega arith) in
    let rest = count_flat_same f g b (a + 1) n (λ j low high. same j (omega arith) (omega arith)) in
    let one = count_of-append b (f a) (flat_map f (range_with_len (a + 1) n)) in
    let two = count_of-append b (g a) (flat_map g (range_with_len (a + 1) n)) in omega arith

-- one of the lists changed
pub count_flat_one : (f g : ℕ → List ℕ) (b a n i : ℕ) → a ≤ i → i < a + n →
    ((j : ℕ) → a ≤ j → j < a + n → j ≢ i → count_of b (g j) ≡ count_of b (f j)) →
    count_of b (flat_map g (range_with_len a n)) + count_of b (f i) ≡ count_of b (flat_map f (range_with_len a n)) + count_of b (g i)
count_flat_one f g b a zero i low high same = absurd (omega arith)
count_flat_one f g b a (suc n) i low high same =
    let one = count_of-append b (f a) (flat_map f (range_with_len (a + 1) n)) in
    let two = count_of-append b (g a) (flat_map g (range_with_len (a + 1) n)) in
    ⊎_elim
    (λ (e : a ≡ i).
    let rest = count_flat_same f g b (a + 1) n (λ j l h. same j (omega arith) (omega arith) (λ q. omega arith)) in
    let s : count_of b (f a) ≡ count_of b (f i) = ap (λ q. count_of b (f q)) e in
    let t : count_of b (g a) ≡ count_of b (g i) = ap (λ q. count_of b (g q)) e in omega arith)
    (λ (ne : a ≢ i).
    let here = same a (omega arith) (omega arith) ne in
    let rest = count_flat_one f g b (a + 1) n i (omega arith) (omega arith) (λ j l h. same j (omega arith) (omega arith)) in omega arith)
    (cases_eq a i)
