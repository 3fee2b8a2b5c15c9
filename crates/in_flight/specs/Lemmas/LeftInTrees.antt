-- Giving up a block at any depth takes it, and nothing else, from what is left.
use Rattle.std.proofs.Common.{◌≡◌, ◌≢◌, ◌⊎◌, ℕ, zero, suc, ◌+◌, ◌<◌, ◌≤◌, cond, eqb, List, [], ◌∷◌, ◌++◌, length, get_or, set, drop, replicate, refl, sym, ap, ◌∙◌, ⊎_elim, arith}
use Rattle.std.specs.List.{flat_map}
use Rattle.std.proofs.Math.ListN.{drop_of_length-le}
use Rattle.in_flight.specs.Common.{block_at, cases_eq, count_of, count_of-append, depths, Dinode, entry_of, form_of, get_or_past, Gives, Image, LeavesAlike, left_along, left_under, names_along, names_under, ne_eqb, words_of}

-- ---- lists

pub flat_drop : (f : ℕ → List ℕ) (ws : List ℕ) (e c : ℕ) → f 0 ≡ [] →
    count_of c (flat_map f (drop e ws)) ≡ count_of c (f (get_or ws e 0)) + count_of c (flat_map f (drop (suc e) ws))
flat_drop f [] zero c none = let n = ap (count_of c) none in omega (arith, n)
flat_drop f [] (suc e) c none = let n = ap (count_of c) none in omega (arith, n)
flat_drop f (w ∷ ws) zero c none = count_of-append c (f w) (flat_map f ws)
flat_drop f (w ∷ ws) (suc e) c none = flat_drop f ws e c none

pub under_none : (x : Image) (depth : ℕ) → names_under x depth 0 ≡ []
under_none x zero = refl
under_none x (suc depth) = refl

pub left_none : (x : Image) (depth : ℕ) (cursor : List ℕ) → left_under x depth cursor 0 ≡ []
left_none x zero cursor = refl
left_none x (suc depth) [] = refl
left_none x (suc depth) (e ∷ cursor) = refl

-- with an empty cursor all is left
pub left_all : (x : Image) (depth a : ℕ) → left_under x depth [] a ≡ names_under x depth a
left_all x zero a = refl
left_all x (suc depth) a = refl

-- ---- one block of addresses

pub left_parts : (x : Image) (depth e a c : ℕ) (cursor : List ℕ) → a ≢ 0 →
    count_of c (left_under x (suc depth) (e ∷ cursor) a)
    ≡ count_of c (a ∷ []) + (count_of c (left_under x depth cursor (entry_of x a e))
    + count_of c (flat_map (names_under x depth) (drop (suc e) (words_of (block_at x a)))))
left_parts x depth e a c cursor some =
    let sum = count_of-append c (left_under x depth cursor (entry_of x a e)) (flat_map (names_under x depth) (drop (suc e) (words_of (block_at x a)))) in
    rw (ne_eqb a 0 some) (omega (arith, sum))

-- the part of an entry is at an end, and the cursor stands at the next one
next_entry : (x : Image) (depth e a c : ℕ) (cursor : List ℕ) → a ≢ 0 →
    count_of c (left_under x (suc depth) (e ∷ cursor) a)
    ≡ count_of c (left_under x depth cursor (entry_of x a e)) + count_of c (left_under x (suc depth) (suc e ∷ []) a)
next_entry x depth e a c cursor some =
    let next = flat_drop (names_under x depth) (words_of (block_at x a)) (suc e) c (under_none x depth) in
    omega (arith, (left_parts x depth e a c cursor some), (left_parts x depth (suc e) a c [] some), (ap (count_of c) (left_all x depth (entry_of x a (suc e)))), next)

-- before the first entry all is left
begun : (x : Image) (depth a c : ℕ) → count_of c (left_under x depth (0 ∷ []) a) ≡ count_of c (names_under x depth a)
begun x zero a c = refl
begun x (suc depth) a c =
    ⊎_elim (λ (z : a ≡ 0). rw z refl)
    (λ (some : a ≢ 0).
    let under = ap (count_of c) (left_all x depth (entry_of x a 0)) in
    let whole : count_of c (names_under x (suc depth) a) ≡ count_of c (a ∷ []) + count_of c (flat_map (names_under x depth) (words_of (block_at x a)))
    = rw (ne_eqb a 0 some) (omega arith) in
    omega (arith, (left_parts x depth 0 a c [] some), under, (flat_drop (names_under x depth) (words_of (block_at x a)) 0 c (under_none x depth)), whole))
    (cases_eq a 0)

-- The cursor goes on and nothing is given up: the entries of a block of addresses begin, or an entry
-- is passed over under which nothing is left
abbrev pub MovesOn : Image → ℕ → List ℕ → ℕ → List ℕ → Type 0
MovesOn x zero cursor a new = ⊥
MovesOn x (suc depth) [] a new = new ≡ 0 ∷ []
MovesOn x (suc depth) (e ∷ cursor) a new =
    ((left_under x depth cursor (entry_of x a e) ≡ []) × (new ≡ suc e ∷ []))
    ⊎ ((t : List ℕ) × MovesOn x depth cursor (entry_of x a e) t × (new ≡ e ∷ t))

pub passed : (x : Image) (depth : ℕ) (cursor : List ℕ) (a : ℕ) (new : List ℕ) → MovesOn x depth cursor a new → (c : ℕ) →
    count_of c (left_under x depth cursor a) ≡ count_of c (left_under x depth new a)
passed x zero cursor a new p c = absurd p
passed x (suc depth) [] a new p c =
    omega (arith, (begun x (suc depth) a c), (ap (λ (l : List ℕ). count_of c (left_under x (suc depth) l a)) p))
passed x (suc depth) (e ∷ cursor) a new p c =
    ⊎_elim
    (λ (z : a ≡ 0). ap (λ b. count_of c (left_under x (suc depth) (e ∷ cursor) b)) z
    ∙ sym (ap (λ b. count_of c (left_under x (suc depth) new b)) z ∙ ap (count_of c) (left_none x (suc depth) new)))
    (λ (some : a ≢ 0).
    ⊎_elim
    (λ (last : (left_under x depth cursor (entry_of x a e) ≡ []) × (new ≡ suc e ∷ [])).
    omega (arith, (next_entry x depth e a c cursor some), (ap (count_of c) last.0), (ap (λ (l : List ℕ). count_of c (left_under x (suc depth) l a)) last.1)))
    (λ (deeper : (t : List ℕ) × MovesOn x depth cursor (entry_of x a e) t × (new ≡ e ∷ t)).
    let t = deeper.0 in
    let under = passed x depth cursor (entry_of x a e) t deeper.1 c in
    let old = left_parts x depth e a c cursor some in
    let new_parts = left_parts x depth e a c t some in
    omega (arith, under, (ap (λ (l : List ℕ). count_of c (left_under x (suc depth) l a)) deeper.2), old, new_parts))
    p)
    (cases_eq a 0)

-- behind the last entry the block itself is left alone
pub alone : (x : Image) (depth e a : ℕ) (cursor : List ℕ) → a ≢ 0 → length (words_of (block_at x a)) ≤ e →
    left_under x (suc depth) (e ∷ cursor) a ≡ a ∷ []
alone x depth e a cursor some past =
    let behind : length (words_of (block_at x a)) ≤ suc e = omega (arith, past) in
    rw ((ne_eqb a 0 some), (get_or_past (words_of (block_at x a)) e 0 past), left_none x depth cursor, (drop_of_length-le (words_of (block_at x a)) behind)) refl

-- what is given up at any depth goes from the list, and nothing else
pub given : (x : Image) (depth : ℕ) (cursor : List ℕ) (a b : ℕ) (new : List ℕ) → Gives x depth cursor a b new →
    (c : ℕ) → count_of c (left_under x depth cursor a) ≡ count_of c (b ∷ left_under x depth new a)
given x zero cursor a b new g c = absurd g
given x (suc depth) [] a b new g c = absurd g
given x (suc depth) (e ∷ cursor) a b new g c =
    let w = entry_of x a e in
    let sum : (l : List ℕ) → count_of c (b ∷ l) ≡ count_of c (b ∷ []) + count_of c l = λ l. count_of-append c (b ∷ []) l in
    let more = sum (left_under x (suc depth) new a) in
    ⊎_elim
    (λ (last : (left_under x depth cursor w ≡ b ∷ []) × (new ≡ suc e ∷ [])).
    omega (arith, (next_entry x depth e a c cursor g.0), more, (ap (count_of c) last.0), (ap (λ (l : List ℕ). count_of c (left_under x (suc depth) l a)) last.1)))
    (λ (deeper : (t : List ℕ) × Gives x depth cursor w b t × (new ≡ e ∷ t)).
    let t = deeper.0 in
    let under = given x depth cursor w b t deeper.1 c in
    let parts = left_parts x depth e a c t g.0 in
    let one = sum (left_under x depth t w) in
    omega (arith, (left_parts x depth e a c cursor g.0), more, under, (ap (λ (l : List ℕ). count_of c (left_under x (suc depth) l a)) deeper.2), parts, one))
    g.1

-- ---- along an inode's addresses

pub whole_along : (x : Image) (ds addresses : List ℕ) → left_along x [] ds addresses ≡ names_along x ds addresses
whole_along x [] addresses = refl
whole_along x (d ∷ ds) [] = refl
whole_along x (zero ∷ ds) (a ∷ addresses) = ap (λ l. cond (eqb a 0) [] (a ∷ []) ++ l) (whole_along x ds addresses)
whole_along x (suc d ∷ ds) (a ∷ addresses) =
    ⊎_elim (λ (z : a ≡ 0). rw z (whole_along x ds addresses))
    (λ (some : a ≢ 0). let no = ne_eqb a 0 some in rw no refl)
    (cases_eq a 0)

begun_along : (x : Image) (c : ℕ) (ds addresses : List ℕ) →
    count_of c (left_along x (0 ∷ []) ds addresses) ≡ count_of c (left_along x [] ds addresses)
begun_along x c [] addresses = refl
begun_along x c (d ∷ ds) [] = refl
begun_along x c (zero ∷ ds) (a ∷ addresses) =
    let here = cond (eqb a 0) [] (a ∷ []) in
    let rest = begun_along x c ds addresses in
    omega (arith, rest, count_of-append c here (left_along x (0 ∷ []) ds addresses), count_of-append c here (left_along x [] ds addresses))
begun_along x c (suc d ∷ ds) (a ∷ addresses) =
    ⊎_elim (λ (z : a ≡ 0). rw z (begun_along x c ds addresses))
    (λ (some : a ≢ 0).
    let one = begun x (suc d) a c in
    let p = count_of-append c (left_under x (suc d) (0 ∷ []) a) (names_along x ds addresses) in
    let q = count_of-append c (names_under x (suc d) a) (names_along x ds addresses) in
    let no = ne_eqb a 0 some in
    let now : count_of c (left_along x (0 ∷ []) (suc d ∷ ds) (a ∷ addresses)) ≡ count_of c (left_under x (suc d) (0 ∷ []) a ++ names_along x ds addresses)
    = rw no refl in
    let all : count_of c (left_along x [] (suc d ∷ ds) (a ∷ addresses)) ≡ count_of c (names_under x (suc d) a ++ names_along x ds addresses) = rw no refl in
    omega (arith, one, p, q, now, all))
    (cases_eq a 0)

-- a cursor before the first entry leaves all
pub begun_left : (x : Image) (d : Dinode) → LeavesAlike x d (0 ∷ []) []
begun_left x d c = begun_along x c (depths (form_of x)) d.addrs

-- the first block of addresses that is there has the cursor, and all behind it is whole
pub without_along : (x : Image) (cursor ds addresses : List ℕ) (slot c : ℕ) → get_or ds slot 0 ≢ 0 → get_or addresses slot 0 ≢ 0 →
    ((k : ℕ) → k < slot → get_or ds k 0 ≢ 0 → get_or addresses k 0 ≡ 0) →
    count_of c (left_along x cursor ds addresses)
    ≡ count_of c (left_under x (get_or ds slot 0) cursor (get_or addresses slot 0)) + count_of c (left_along x [] ds (set addresses slot 0))
without_along x cursor [] addresses slot c tree some before = absurd (tree refl)
without_along x cursor (d ∷ ds) [] slot c tree some before = absurd (some refl)
without_along x cursor (zero ∷ ds) (a ∷ addresses) zero c tree some before = absurd (tree refl)
without_along x cursor (zero ∷ ds) (a ∷ addresses) (suc slot) c tree some before =
    let here = cond (eqb a 0) [] (a ∷ []) in
    let p = count_of-append c here (left_along x cursor ds addresses) in
    let q = count_of-append c here (left_along x [] ds (set addresses slot 0)) in
    omega (arith, (without_along x cursor ds addresses slot c tree some (λ k low. before (suc k) (omega (arith, low)))), p, q)
without_along x cursor (suc d ∷ ds) (a ∷ addresses) zero c tree some before =
    rw (ne_eqb a 0 some) (omega (arith, (count_of-append c (left_under x (suc d) cursor a) (names_along x ds addresses)), (ap (count_of c) (whole_along x ds addresses))))
without_along x cursor (suc d ∷ ds) (a ∷ addresses) (suc slot) c tree some before =
    rw (before 0 (omega arith) (λ e. omega (arith, e))) (without_along x cursor ds addresses slot c tree some (λ k low. before (suc k) (omega (arith, low))))

-- a data block that the inode itself names
pub direct_along : (x : Image) (cursor ds addresses : List ℕ) (k c : ℕ) → k < length ds → get_or addresses k 0 ≢ 0 →
    ((j : ℕ) → j ≤ k → get_or ds j 0 ≡ 0) →
    count_of c (left_along x cursor ds addresses) ≡ count_of c (get_or addresses k 0 ∷ left_along x cursor ds (set addresses k 0))
direct_along x cursor [] addresses k c low some direct = absurd (omega (arith, low))
direct_along x cursor (d ∷ ds) [] k c low some direct = absurd (some refl)
direct_along x cursor (suc d ∷ ds) (a ∷ addresses) k c low some direct = let e = direct 0 (omega arith) in absurd (omega (arith, e))
direct_along x cursor (zero ∷ ds) (a ∷ addresses) zero c low some direct = rw (ne_eqb a 0 some) refl
direct_along x cursor (zero ∷ ds) (a ∷ addresses) (suc k) c low some direct =
    let here = cond (eqb a 0) [] (a ∷ []) in
    let b = get_or addresses k 0 in
    let p = count_of-append c here (left_along x cursor ds addresses) in
    let q = count_of-append c here (left_along x cursor ds (set addresses k 0)) in
    let r = count_of-append c (b ∷ []) (left_along x cursor ds (set addresses k 0)) in
    let s = count_of-append c (b ∷ []) (here ++ left_along x cursor ds (set addresses k 0)) in
    omega (arith, (direct_along x cursor ds addresses k c (omega (arith, low)) some (λ j few. direct (suc j) (omega (arith, few)))), p, q, r, s)

pub bare_along : (x : Image) (cursor ds : List ℕ) (n : ℕ) → left_along x cursor ds (replicate n 0) ≡ []
bare_along x cursor [] n = refl
bare_along x cursor (d ∷ ds) zero = refl
bare_along x cursor (zero ∷ ds) (suc n) = bare_along x cursor ds n
bare_along x cursor (suc d ∷ ds) (suc n) = bare_along x cursor ds n
