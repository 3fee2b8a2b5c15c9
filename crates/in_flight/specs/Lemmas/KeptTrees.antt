-- What an inode names, and what is left of it, in images that have the same blocks there.
use Rattle.std.proofs.Common.{◌≡◌, ◌≢◌, ℕ, zero, suc, ◌-◌, ◌/◌, ◌%◌, ◌<◌, ◌≤◌, cond, eqb, List, [], ◌∷◌, ◌++◌, length, get_or, drop, refl, sym, ap, ap₂, ◌∙◌, ⊎_elim, arith}
use Rattle.std.specs.List.{flat_map}
use Rattle.in_flight.specs.Common.{address_along, address_under, block_at, cases_eq, count_of, count_of-append, entry_of, eq-eqb, flat_map_range_same, Image, led_to, left_along, left_under, names_along, names_under, ne_eqb, reach, words_of}
use Rattle.in_flight.specs.Lemmas.Ways.{named_behind, flat_indexed, along_indexed, count_at, count_slot, led_named}

-- ---- where the blocks of addresses are the same

abbrev pub SameInside : Image → Image → ℕ → ℕ → Type 0
SameInside x y depth a = (way : List ℕ) (n : ℕ) → led_to x way a ≡ n → n ≢ 0 → length way < depth → block_at y n ≡ block_at x n

same_entry : (x y : Image) (depth e a : ℕ) → a ≢ 0 → SameInside x y (suc depth) a → SameInside x y depth (entry_of x a e)
same_entry x y depth e a some same way n led there short =
    same (e ∷ way) n (rw (ne_eqb a 0 some) led) there (omega (arith, short))

flat_each : (f g : ℕ → List ℕ) (ws : List ℕ) → ((e : ℕ) → e < length ws → g (get_or ws e 0) ≡ f (get_or ws e 0)) → flat_map g ws ≡ flat_map f ws
flat_each f g ws each =
    flat_indexed g ws
    ∙ flat_map_range_same (λ j. f (get_or ws j 0)) (λ j. g (get_or ws j 0)) 0 (length ws) (λ j from low. each j (omega (arith, low)))
    ∙ sym (flat_indexed f ws)

names_inside : (x y : Image) (depth a : ℕ) → SameInside x y depth a → names_under y depth a ≡ names_under x depth a
names_inside x y zero a same = refl
names_inside x y (suc depth) a same =
    ⊎_elim (λ (z : a ≡ 0). rw z refl)
    (λ (some : a ≢ 0).
    rw (ne_eqb a 0 some, (same [] a refl some (omega arith)))
    (ap (λ l. a ∷ l) (flat_each (names_under x depth) (names_under y depth) (words_of (block_at x a))
    (λ e low. names_inside x y depth (entry_of x a e) (same_entry x y depth e a some same)))))
    (cases_eq a 0)

address_inside : (x y : Image) (depth k a : ℕ) → SameInside x y depth a → address_under y depth k a ≡ address_under x depth k a
address_inside x y zero k a same = refl
address_inside x y (suc depth) k a same =
    ⊎_elim (λ (z : a ≡ 0). rw z refl)
    (λ (some : a ≢ 0).
    let e = k / reach depth in
    rw (ne_eqb a 0 some, (same [] a refl some (omega arith))) (address_inside x y depth (k % reach depth) (entry_of x a e) (same_entry x y depth e a some same)))
    (cases_eq a 0)

-- the same blocks of addresses behind each address of an inode
abbrev pub SameTrees : Image → Image → List ℕ → List ℕ → Type 0
SameTrees x y ds addresses = (slot : ℕ) → SameInside x y (get_or ds slot 0) (get_or addresses slot 0)

along_each : (x y : Image) (ds addresses : List ℕ) →
    ((slot : ℕ) → slot < length ds → named_behind y ds addresses slot ≡ named_behind x ds addresses slot) →
    names_along y ds addresses ≡ names_along x ds addresses
along_each x y ds addresses each =
    along_indexed y ds addresses
    ∙ flat_map_range_same (named_behind x ds addresses) (named_behind y ds addresses) 0 (length ds) (λ slot from low. each slot (omega (arith, low)))
    ∙ sym (along_indexed x ds addresses)

pub names_same_along : (x y : Image) (ds addresses : List ℕ) → SameTrees x y ds addresses → names_along y ds addresses ≡ names_along x ds addresses
names_same_along x y ds addresses same =
    along_each x y ds addresses (λ slot inside. names_inside x y (get_or ds slot 0) (get_or addresses slot 0) (same slot))

pub address_same_along : (x y : Image) (k : ℕ) (ds addresses : List ℕ) → SameTrees x y ds addresses →
    address_along y k ds addresses ≡ address_along x k ds addresses
address_same_along x y k [] addresses same = refl
address_same_along x y k (d ∷ ds) [] same = refl
address_same_along x y k (d ∷ ds) (a ∷ addresses) same =
    rw (address_inside x y d k a (same 0), address_same_along x y (k - reach d) ds addresses (λ slot. same (suc slot))) refl

-- ---- where all blocks are the same that are named

-- the same blocks at each number of a list
abbrev pub SameAt : Image → Image → List ℕ → Type 0
SameAt x y names = (b : ℕ) → 1 ≤ count_of b names → block_at y b ≡ block_at x b

same_front : (x y : Image) (front later : List ℕ) → SameAt x y (front ++ later) → SameAt x y front
same_front x y front later s b some = let sum = count_of-append b front later in s b (omega (arith, sum, some))

same_later : (x y : Image) (front later : List ℕ) → SameAt x y (front ++ later) → SameAt x y later
same_later x y front later s b some = let sum = count_of-append b front later in s b (omega (arith, sum, some))

pub names_kept : (x y : Image) (depth a : ℕ) → SameAt x y (names_under x depth a) → names_under y depth a ≡ names_under x depth a
names_kept x y depth a s =
    names_inside x y depth a (λ way n led some short. s n (led_named x depth way a n (omega (arith, short)) led some))

along_kept : (x y : Image) (ds addresses : List ℕ) → SameAt x y (names_along x ds addresses) → names_along y ds addresses ≡ names_along x ds addresses
along_kept x y ds addresses s =
    along_each x y ds addresses (λ slot inside. names_kept x y (get_or ds slot 0) (get_or addresses slot 0)
    (λ b some. s b (let few = count_slot x ds addresses slot b inside in omega (arith, few, some))))

left_kept : (x y : Image) (depth : ℕ) (cursor : List ℕ) (a : ℕ) → SameAt x y (left_under x depth cursor a) →
    left_under y depth cursor a ≡ left_under x depth cursor a
left_kept x y zero cursor a s = refl
left_kept x y (suc depth) [] a s = names_kept x y (suc depth) a s
left_kept x y (suc depth) (e ∷ cursor) a s =
    ⊎_elim (λ (z : a ≡ 0). rw z refl)
    (λ (some : a ≢ 0).
    let no = ne_eqb a 0 some in
    let ws = drop (suc e) (words_of (block_at x a)) in
    let rest = flat_map (names_under x depth) ws in
    let under = left_under x depth cursor (entry_of x a e) in
    let t : SameAt x y (a ∷ (under ++ rest)) = rw no at s in
    let u = same_later x y (a ∷ []) (under ++ rest) t in
    let v = same_later x y under rest u in
    let first = left_kept x y depth cursor (entry_of x a e) (same_front x y under rest u) in
    let others = flat_each (names_under x depth) (names_under y depth) ws
    (λ j low. names_kept x y depth (get_or ws j 0) (λ b there. v b (let few = count_at (names_under x depth) ws j b low in omega (arith, few, there)))) in
    rw (no, (t a (rw (eq-eqb a a refl) (omega arith)))) (ap₂ (λ (l m : List ℕ). a ∷ (l ++ m)) first others))
    (cases_eq a 0)

pub left_along_kept : (x y : Image) (cursor depths addresses : List ℕ) → SameAt x y (left_along x cursor depths addresses) →
    left_along y cursor depths addresses ≡ left_along x cursor depths addresses
left_along_kept x y cursor [] addresses s = refl
left_along_kept x y cursor (depth ∷ depths) [] s = refl
left_along_kept x y cursor (zero ∷ depths) (a ∷ addresses) s =
    let here = cond (eqb a 0) [] (a ∷ []) in
    ap (λ l. here ++ l) (left_along_kept x y cursor depths addresses (same_later x y here (left_along x cursor depths addresses) s))
left_along_kept x y cursor (suc depth ∷ depths) (a ∷ addresses) s =
    ⊎_elim (λ (z : a ≡ 0). rw z (left_along_kept x y cursor depths addresses (rw z at s)))
    (λ (some : a ≢ 0).
    let no = ne_eqb a 0 some in
    let t : SameAt x y (left_under x (suc depth) cursor a ++ names_along x depths addresses) = rw no at s in
    let rest = along_kept x y depths addresses (same_later x y (left_under x (suc depth) cursor a) (names_along x depths addresses) t) in
    rw (no, (left_kept x y (suc depth) cursor a (same_front x y (left_under x (suc depth) cursor a) (names_along x depths addresses) t)), rest) refl)
    (cases_eq a 0)
