-- The ways to the blocks that an inode names: what two of them lead to, and the file's places.
use Rattle.std.proofs.Common.{◌≡◌, ◌≢◌, ◌⊎◌, ℕ, zero, suc, ◌+◌, ◌-◌, ◌*◌, ◌/◌, ◌%◌, ◌^◌, ◌<◌, ◌≤◌, cond, eqb, List, [], ◌∷◌, ◌++◌, length, get_or, set, drop, refl, sym, ap, ap₂, subst, ◌∙◌, ⊎_elim, arith}
use Rattle.std.specs.List.{flat_map, range_with_len, AllByRecursion}
use Rattle.std.proofs.Math.Nat.{pow-suc, mod-lt}
use Rattle.in_flight.specs.Common.{address_along, address_under, block_at, cases_eq, cases_lt, count_flat, count_of, count_two, div-add-mod', div-mul-add, div_below, entry_of, eq-eqb, get_or_past, Image, le-ltb, led_to, left_under, lt-ltb, mod-mul-add, names_along, names_under, ne_eqb, place_along, place_under, reach, reach_pos, under_zero, way_to, words_of}
use Rattle.in_flight.specs.Lemmas.LeftInTrees.{left_parts, under_none}
use Rattle.in_flight.specs.Lemmas.Wholes.{inside_reach}

-- ---- lists

-- lists that stand one behind the other, by the index of each
flat_shift : (f : ℕ → List ℕ) (a n : ℕ) → flat_map f (range_with_len (a + 1) n) ≡ flat_map (λ j. f (suc j)) (range_with_len a n)
flat_shift f a zero = refl
flat_shift f a (suc n) =
    let next : a + 1 ≡ suc a = omega arith in
    ap₂ (λ (l m : List ℕ). l ++ m) (ap f next) (flat_shift f (a + 1) n)

pub flat_indexed : (f : ℕ → List ℕ) (ws : List ℕ) → flat_map f ws ≡ flat_map (λ j. f (get_or ws j 0)) (range_with_len 0 (length ws))
flat_indexed f [] = refl
flat_indexed f (w ∷ ws) = ap (λ l. f w ++ l) (flat_indexed f ws ∙ sym (flat_shift (λ j. f (get_or (w ∷ ws) j 0)) 0 (length ws)))

-- what is named behind an address of those
abbrev pub named_behind : Image → List ℕ → List ℕ → ℕ → List ℕ
named_behind x ds addresses slot = names_under x (get_or ds slot 0) (get_or addresses slot 0)

none_behind : (x : Image) (ds : List ℕ) (a n : ℕ) → flat_map (named_behind x ds []) (range_with_len a n) ≡ []
none_behind x ds a zero = refl
none_behind x ds a (suc n) = rw (under_none x (get_or ds a 0)) (none_behind x ds (a + 1) n)

pub along_indexed : (x : Image) (ds addresses : List ℕ) →
    names_along x ds addresses ≡ flat_map (named_behind x ds addresses) (range_with_len 0 (length ds))
along_indexed x [] addresses = refl
along_indexed x (d ∷ ds) [] = sym (none_behind x (d ∷ ds) 0 (length (d ∷ ds)))
along_indexed x (d ∷ ds) (a ∷ addresses) =
    ap (λ l. names_under x d a ++ l)
    (along_indexed x ds addresses ∙ sym (flat_shift (named_behind x (d ∷ ds) (a ∷ addresses)) 0 (length ds)))

-- what one of them has, or two
pub count_at : (f : ℕ → List ℕ) (ws : List ℕ) (e c : ℕ) → e < length ws → count_of c (f (get_or ws e 0)) ≤ count_of c (flat_map f ws)
count_at f ws e c low =
    omega (arith, (ap (count_of c) (flat_indexed f ws)), (count_flat (λ j. f (get_or ws j 0)) c 0 (length ws) e (omega arith) (omega (arith, low))))

count_both : (f : ℕ → List ℕ) (ws : List ℕ) (j k c : ℕ) → j ≢ k → j < length ws → k < length ws →
    count_of c (f (get_or ws j 0)) + count_of c (f (get_or ws k 0)) ≤ count_of c (flat_map f ws)
count_both f ws j k c apart low high =
    let few = count_two (λ i. f (get_or ws i 0)) c 0 (length ws) j k (omega arith) (omega (arith, low)) (omega arith) (omega (arith, high)) apart in
    omega (arith, (ap (count_of c) (flat_indexed f ws)), few)

count_behind : (f : ℕ → List ℕ) (ws : List ℕ) (first e c : ℕ) → first ≤ e → e < length ws →
    count_of c (f (get_or ws e 0)) ≤ count_of c (flat_map f (drop first ws))
count_behind f [] first e c from low = absurd (omega (arith, low))
count_behind f (w ∷ ws) zero e c from low = count_at f (w ∷ ws) e c low
count_behind f (w ∷ ws) (suc first) zero c from low = absurd (omega (arith, from))
count_behind f (w ∷ ws) (suc first) (suc e) c from low = count_behind f ws first e c (omega (arith, from)) (omega (arith, low))

pub count_slot : (x : Image) (ds addresses : List ℕ) (slot c : ℕ) → slot < length ds →
    count_of c (named_behind x ds addresses slot) ≤ count_of c (names_along x ds addresses)
count_slot x ds addresses slot c inside =
    omega (arith, (ap (count_of c) (along_indexed x ds addresses)), (count_flat (named_behind x ds addresses) c 0 (length ds) slot (omega arith) (omega (arith, inside))))

count_slots : (x : Image) (ds addresses : List ℕ) (j k c : ℕ) → j ≢ k → j < length ds → k < length ds →
    count_of c (named_behind x ds addresses j) + count_of c (named_behind x ds addresses k) ≤ count_of c (names_along x ds addresses)
count_slots x ds addresses j k c apart low high =
    let few = count_two (named_behind x ds addresses) c 0 (length ds) j k (omega arith) (omega (arith, low)) (omega arith) (omega (arith, high)) apart in
    omega (arith, (ap (count_of c) (along_indexed x ds addresses)), few)

-- ---- what a way leads to is named

pub led_none : (x : Image) (way : List ℕ) → led_to x way 0 ≡ 0
led_none x [] = refl
led_none x (e ∷ way) = refl

-- the first step of a way that leads to a block
pub led_step : (x : Image) (e : ℕ) (way : List ℕ) (a n : ℕ) → led_to x (e ∷ way) a ≡ n → n ≢ 0 →
    (a ≢ 0) × (led_to x way (entry_of x a e) ≡ n) × (e < length (words_of (block_at x a)))
led_step x e way a n led some =
    ⊎_elim (λ (z : a ≡ 0). absurd (some (sym led ∙ rw z refl)))
    (λ (there : a ≢ 0).
    let ws = words_of (block_at x a) in
    let on : led_to x way (entry_of x a e) ≡ n = rw (ne_eqb a 0 there) at led in (
      there,
      on,
      ⊎_elim (λ (low : e < length ws). low)
          (λ (past : length ws ≤ e). absurd (some (sym on ∙ ap (led_to x way) (get_or_past ws e 0 past) ∙ led_none x way)))
          (cases_lt e (length ws)),
    ))
    (cases_eq a 0)

named_itself : (x : Image) (depth a n : ℕ) → a ≡ n → n ≢ 0 → 1 ≤ count_of n (names_under x depth a)
named_itself x zero a n led some = rw (ne_eqb a 0 (λ z. some (sym led ∙ z)), eq-eqb a n led) (omega arith)
named_itself x (suc depth) a n led some = rw (ne_eqb a 0 (λ z. some (sym led ∙ z)), eq-eqb a n led) (omega arith)

pub led_named : (x : Image) (depth : ℕ) (way : List ℕ) (a n : ℕ) → length way ≤ depth → led_to x way a ≡ n → n ≢ 0 →
    1 ≤ count_of n (names_under x depth a)
led_named x depth [] a n short led some = named_itself x depth a n led some
led_named x zero (e ∷ way) a n short led some = absurd (omega (arith, short))
led_named x (suc depth) (e ∷ way) a n short led some =
    let step = led_step x e way a n led some in
    let few = count_at (names_under x depth) (words_of (block_at x a)) e n step.2 in
    rw (ne_eqb a 0 step.0) (omega (arith, (led_named x depth way (entry_of x a e) n (omega (arith, short)) step.1 some), few))

pub led_along : (x : Image) (ds addresses : List ℕ) (slot : ℕ) (way : List ℕ) (n : ℕ) → slot < length ds → length way ≤ get_or ds slot 0 →
    led_to x way (get_or addresses slot 0) ≡ n → n ≢ 0 → 1 ≤ count_of n (names_along x ds addresses)
led_along x ds addresses slot way n inside short led some =
    omega (arith, (led_named x (get_or ds slot 0) way (get_or addresses slot 0) n short led some), (count_slot x ds addresses slot n inside))

-- a way to what a cursor leaves
abbrev pub IsAhead : List ℕ → List ℕ → Type 0
IsAhead [] way = Unit {0}
IsAhead (e ∷ cursor) [] = Unit {0}
IsAhead (e ∷ cursor) (f ∷ way) = (e < f) ⊎ ((e ≡ f) × IsAhead cursor way)

pub ahead_root : (cursor : List ℕ) → IsAhead cursor []
ahead_root [] = tt
ahead_root (e ∷ cursor) = tt

pub led_left : (x : Image) (depth : ℕ) (cursor way : List ℕ) (a n : ℕ) → length way ≤ depth → led_to x way a ≡ n → n ≢ 0 →
    IsAhead cursor way → 1 ≤ count_of n (left_under x depth cursor a)
led_left x zero cursor [] a n short led some ahead = named_itself x 0 a n led some
led_left x zero cursor (f ∷ way) a n short led some ahead = absurd (omega (arith, short))
led_left x (suc depth) [] way a n short led some ahead = led_named x (suc depth) way a n short led some
led_left x (suc depth) (e ∷ cursor) [] a n short led some ahead =
    rw (ne_eqb a 0 (λ z. some (sym led ∙ z)), eq-eqb a n led) (omega arith)
led_left x (suc depth) (e ∷ cursor) (f ∷ way) a n short led some ahead =
    let step = led_step x f way a n led some in
    let parts = left_parts x depth e a n cursor step.0 in
    ⊎_elim
    (λ (later : e < f).
    let one = led_named x depth way (entry_of x a f) n (omega (arith, short)) step.1 some in
    omega (arith, parts, one, (count_behind (names_under x depth) (words_of (block_at x a)) (suc e) f n (omega (arith, later)) step.2)))
    (λ (here : (e ≡ f) × IsAhead cursor way).
    omega (arith, parts, (led_left x depth cursor way (entry_of x a e) n (omega (arith, short)) (ap (λ k. led_to x way (entry_of x a k)) here.0 ∙ step.1) some here.1)))
    ahead

-- ---- and twice where two ways lead to it

below_itself : (x : Image) (depth e : ℕ) (way : List ℕ) (a n : ℕ) → length way ≤ depth → led_to x (e ∷ way) a ≡ n → a ≡ n → n ≢ 0 →
    2 ≤ count_of n (names_under x (suc depth) a)
below_itself x depth e way a n short led same some =
    let step = led_step x e way a n led some in
    let few = count_at (names_under x depth) (words_of (block_at x a)) e n step.2 in
    rw (ne_eqb a 0 step.0, eq-eqb a n same) (omega (arith, (led_named x depth way (entry_of x a e) n short step.1 some), few))

pub ways_apart : (x : Image) (depth : ℕ) (one two : List ℕ) (a n : ℕ) → length one ≤ depth → length two ≤ depth →
    led_to x one a ≡ n → led_to x two a ≡ n → n ≢ 0 → one ≢ two → 2 ≤ count_of n (names_under x depth a)
ways_apart x depth [] [] a n short_one short_two first second some apart = absurd (apart refl)
ways_apart x zero [] (f ∷ two) a n short_one short_two first second some apart = absurd (omega (arith, short_two))
ways_apart x (suc depth) [] (f ∷ two) a n short_one short_two first second some apart =
    below_itself x depth f two a n (omega (arith, short_two)) second first some
ways_apart x zero (e ∷ one) two a n short_one short_two first second some apart = absurd (omega (arith, short_one))
ways_apart x (suc depth) (e ∷ one) [] a n short_one short_two first second some apart =
    below_itself x depth e one a n (omega (arith, short_one)) first second some
ways_apart x (suc depth) (e ∷ one) (f ∷ two) a n short_one short_two first second some apart =
    let here = led_step x e one a n first some in
    let there = led_step x f two a n second some in
    let ws = words_of (block_at x a) in
    ⊎_elim
    (λ (same : e ≡ f).
    let on : led_to x two (entry_of x a e) ≡ n = ap (λ k. led_to x two (entry_of x a k)) same ∙ there.1 in
    let r = ways_apart x depth one two (entry_of x a e) n (omega (arith, short_one)) (omega (arith, short_two)) here.1 on some
    (λ w. apart (ap (λ k. k ∷ one) same ∙ ap (λ l. f ∷ l) w)) in
    let few = count_at (names_under x depth) ws e n here.2 in
    rw (ne_eqb a 0 here.0) (omega (arith, r, few)))
    (λ (ne : e ≢ f).
    let two_there = led_named x depth two (entry_of x a f) n (omega (arith, short_two)) there.1 some in
    let few = count_both (names_under x depth) ws e f n ne here.2 there.2 in
    rw (ne_eqb a 0 here.0) (omega (arith, (led_named x depth one (entry_of x a e) n (omega (arith, short_one)) here.1 some), two_there, few)))
    (cases_eq e f)

pub along_apart : (x : Image) (ds addresses : List ℕ) (j k : ℕ) (one two : List ℕ) (n : ℕ) → j < length ds → k < length ds →
    length one ≤ get_or ds j 0 → length two ≤ get_or ds k 0 → led_to x one (get_or addresses j 0) ≡ n →
    led_to x two (get_or addresses k 0) ≡ n → n ≢ 0 → (j ≡ k → one ≢ two) → 2 ≤ count_of n (names_along x ds addresses)
along_apart x ds addresses j k one two n low high short_one short_two first second some apart =
    ⊎_elim
    (λ (same : j ≡ k).
    let both = ways_apart x (get_or ds j 0) one two (get_or addresses j 0) n short_one (omega (arith, short_two, (ap (λ s. get_or ds s 0) same))) first
    (ap (λ s. led_to x two (get_or addresses s 0)) same ∙ second) some (apart same) in
    omega (arith, both, (count_slot x ds addresses j n low)))
    (λ (ne : j ≢ k).
    let here = led_named x (get_or ds j 0) one (get_or addresses j 0) n short_one first some in
    omega (arith, here, (led_named x (get_or ds k 0) two (get_or addresses k 0) n short_two second some), (count_slots x ds addresses j k n ne low high)))
    (cases_eq j k)

-- ---- the places of a file's blocks

pub length-way_to : (depth k : ℕ) → length (way_to depth k) ≡ depth
length-way_to zero k = refl
length-way_to (suc depth) k = ap suc (length-way_to depth (k % reach depth))

pub address_led : (x : Image) (depth k a : ℕ) → address_under x depth k a ≡ led_to x (way_to depth k) a
address_led x zero k a = refl
address_led x (suc depth) k a = ap (λ (v : ℕ). cond (eqb a 0) 0 v) (address_led x depth (k % reach depth) (entry_of x a (k / reach depth)))

pub place_way_to : (depth k : ℕ) → k < reach depth → place_under (way_to depth k) ≡ k
place_way_to zero k low = omega (arith, low)
place_way_to (suc depth) k low =
    let r = reach depth in
    ap (λ n. k / r * 256 ^ n + place_under (way_to depth (k % r))) (length-way_to depth (k % r))
    ∙ ap (λ p. k / r * r + p) (place_way_to depth (k % r) (mod-lt k (reach_pos depth)))
    ∙ div-add-mod' k r

-- each of its entries is one of a block of addresses
pub entries_way_to : (depth k : ℕ) → k < reach depth → AllByRecursion (λ e. e < 256) (way_to depth k)
entries_way_to zero k low = tt
entries_way_to (suc depth) k low =
    let r = reach depth in
    let wide : reach (suc depth) ≡ r * 256 = pow-suc 256 depth in (
      div_below k r 256 (reach_pos depth) (omega (arith, low, wide)),
      entries_way_to depth (k % r) (mod-lt k (reach_pos depth)),
    )

-- the way from one of those addresses to the data block at place k
pub record IsWayTo (x : Image) (ds addresses : List ℕ) (k slot : ℕ) (way : List ℕ) : Type 0 where
  pub inside : slot < length ds
  pub long : length way ≡ get_or ds slot 0
  pub led : led_to x way (get_or addresses slot 0) ≡ address_along x k ds addresses
  pub place : place_along ds slot + place_under way ≡ k

pub way_along : (x : Image) (k : ℕ) (ds addresses : List ℕ) → address_along x k ds addresses ≢ 0 →
    (slot : ℕ) × (way : List ℕ) × IsWayTo x ds addresses k slot way
way_along x k [] addresses some = absurd (some refl)
way_along x k (d ∷ ds) [] some = absurd (some refl)
way_along x k (d ∷ ds) (a ∷ addresses) some =
    ⊎_elim
    (λ (low : k < reach d). (
      0,
      way_to d k,
      record {
        inside = omega arith;
        long = length-way_to d k;
        led = rw (lt-ltb k (reach d) low) (sym (address_led x d k a));
        place = let p = place_way_to d k low in omega (arith, p);
      },
    ))
    (λ (past : reach d ≤ k).
    let no = le-ltb k (reach d) past in
    let later = way_along x (k - reach d) ds addresses (rw no at some) in (
      suc later.0,
      later.1,
      record {
        inside = let i = later.2.inside in omega (arith, i);
        long = later.2.long;
        led = rw no later.2.led;
        place = let p = later.2.place in omega (arith, p, past);
      },
    ))
    (cases_lt k (reach d))

-- a way leads to the file's block of its place
pub place_small : (way : List ℕ) → AllByRecursion (λ e. e < 256) way → place_under way < reach (length way)
place_small [] low = omega arith
place_small (e ∷ way) low =
    omega (arith, (inside_reach e (place_under way) (reach (length way)) low.0 (place_small way low.1)), (pow-suc 256 (length way)))

pub address_at : (x : Image) (way : List ℕ) (a : ℕ) → AllByRecursion (λ e. e < 256) way →
    address_under x (length way) (place_under way) a ≡ led_to x way a
address_at x [] a low = refl
address_at x (e ∷ way) a low =
    let r = reach (length way) in
    let small = place_small way low.1 in
    let quotient : (e * r + place_under way) / r ≡ e = div-mul-add e r (place_under way) small in
    let rest : (e * r + place_under way) % r ≡ place_under way = mod-mul-add e r (place_under way) small in
    ap (λ (v : ℕ). cond (eqb a 0) 0 v) (rw (quotient, rest) (address_at x way (entry_of x a e) low.1))

pub along_at : (x : Image) (ds addresses : List ℕ) (slot : ℕ) (way : List ℕ) → slot < length ds → slot < length addresses →
    length way ≡ get_or ds slot 0 → AllByRecursion (λ e. e < 256) way →
    address_along x (place_along ds slot + place_under way) ds addresses ≡ led_to x way (get_or addresses slot 0)
along_at x [] addresses slot way inside there long low = absurd (omega (arith, inside))
along_at x (d ∷ ds) [] slot way inside there long low = absurd (omega (arith, there))
along_at x (d ∷ ds) (a ∷ addresses) zero way inside there long low =
    let first : 0 + place_under way ≡ place_under way = omega arith in
    rw (first, lt-ltb (place_under way) (reach d) (subst (λ n. place_under way < 256 ^ n) long (place_small way low)))
    (subst (λ n. address_under x n (place_under way) a ≡ led_to x way a) long (address_at x way a low))
along_at x (d ∷ ds) (a ∷ addresses) (suc slot) way inside there long low =
    let before = place_along ds slot in
    let p = place_under way in
    let sum : reach d + before + p ≡ reach d + (before + p) = omega arith in
    let later : reach d + (before + p) - reach d ≡ before + p = omega arith in
    rw (sum, le-ltb (reach d + (before + p)) (reach d) (omega arith), later)
    (along_at x ds addresses slot way (omega (arith, inside)) (omega (arith, there)) long low)

-- one entry further
pub led_further : (x : Image) (way : List ℕ) (a e n : ℕ) → led_to x way a ≡ n → n ≢ 0 → led_to x (way ++ e ∷ []) a ≡ entry_of x n e
led_further x [] a e n led some = rw (ne_eqb a 0 (λ z. some (sym led ∙ z))) (ap (λ b. entry_of x b e) led)
led_further x (f ∷ way) a e n led some =
    let step = led_step x f way a n led some in
    rw (ne_eqb a 0 step.0) (led_further x way (entry_of x a f) e n step.1 some)

-- ---- where entries are added and none is taken away

abbrev pub KeepsEntries : Image → Image → Type 0
KeepsEntries x y = (a e : ℕ) → entry_of x a e ≢ 0 → entry_of y a e ≡ entry_of x a e

pub led_kept : (x y : Image) → KeepsEntries x y → (way : List ℕ) (a n : ℕ) → led_to x way a ≡ n → n ≢ 0 → led_to y way a ≡ n
led_kept x y keeps [] a n led some = led
led_kept x y keeps (e ∷ way) a n led some =
    let step = led_step x e way a n led some in
    let there : entry_of x a e ≢ 0 = λ z. some (sym step.1 ∙ ap (led_to x way) z ∙ led_none x way) in
    rw (ne_eqb a 0 step.0) (ap (led_to y way) (keeps a e there) ∙ led_kept x y keeps way (entry_of x a e) n step.1 some)

pub address_kept : (x y : Image) → KeepsEntries x y → (k : ℕ) (ds addresses : List ℕ) → address_along x k ds addresses ≢ 0 →
    address_along y k ds addresses ≡ address_along x k ds addresses
address_kept x y keeps k [] addresses some = refl
address_kept x y keeps k (d ∷ ds) [] some = refl
address_kept x y keeps k (d ∷ ds) (a ∷ addresses) some =
    ⊎_elim
    (λ (low : k < reach d).
    let yes = lt-ltb k (reach d) low in
    rw yes (address_led y d k a
    ∙ led_kept x y keeps (way_to d k) a (address_under x d k a) (sym (address_led x d k a)) (rw yes at some)))
    (λ (past : reach d ≤ k).
    let no = le-ltb k (reach d) past in
    rw no (address_kept x y keeps (k - reach d) ds addresses (rw no at some)))
    (cases_lt k (reach d))

-- an address is there that was not
pub address_set : (x : Image) (k : ℕ) (ds addresses : List ℕ) (slot b : ℕ) → get_or addresses slot 0 ≡ 0 → address_along x k ds addresses ≢ 0 →
    address_along x k ds (set addresses slot b) ≡ address_along x k ds addresses
address_set x k [] addresses slot b none some = refl
address_set x k (d ∷ ds) [] slot b none some = refl
address_set x k (d ∷ ds) (a ∷ addresses) zero b none some =
    ⊎_elim
    (λ (low : k < reach d).
    absurd ((rw (lt-ltb k (reach d) low) at some) (ap (address_under x d k) none ∙ under_zero x d k)))
    (λ (past : reach d ≤ k). rw (le-ltb k (reach d) past) refl)
    (cases_lt k (reach d))
address_set x k (d ∷ ds) (a ∷ addresses) (suc slot) b none some =
    ⊎_elim
    (λ (low : k < reach d). rw (lt-ltb k (reach d) low) refl)
    (λ (past : reach d ≤ k).
    let no = le-ltb k (reach d) past in
    rw no (address_set x (k - reach d) ds addresses slot b none (rw no at some)))
    (cases_lt k (reach d))
