-- An inode has each block that its size needs exactly where its pointers are filled.
use Rattle.std.proofs.Common.{◌≡◌, ◌≢◌, ℕ, zero, suc, ◌+◌, ◌-◌, ◌*◌, ◌/◌, ◌%◌, ◌^◌, ◌<◌, ◌≤◌, true, ltb, List, [], ◌∷◌, ◌++◌, length, get_or, replicate, refl, sym, ap, subst, ⊎_elim, zero-add, add_assoc, arith}
use Rattle.std.specs.List.{flat_map, AllByRecursion}
use Rattle.std.proofs.Math.Nat.{pow-suc, mul-le-mul_left}
use Rattle.in_flight.specs.Common.{address_along, address_under, AllByRecursion-append, AllByRecursion-parts, block_at, cases_eq, depths, Dinode, direct_count, div-mul-add, flat_at, Form, form_of, greatest_size, Image, IsFilled, IsWhole, le-ltb, lt-ltb, ltb-true, mod-mul-add, names_along, names_under, names_used, ne_eqb, One, pointers_along, pointers_behind, pointers_in, pointers_under, pointers_used, reach, reach_pos, Two, words_of}
use Rattle.model.specs.declared.types.image.Pointer.{Pointer}
use Rattle.model.specs.Names.{names_of}
use Rattle.model.specs.Places.{address_in}

-- ---- where each block is there, the pointers are filled

-- a block of addresses has no more than 256 of them
abbrev pub HasFew : Image → ℕ → Type 0
HasFew x a = length (words_of (block_at x a)) ≤ 256

behind_filled : (f : ℕ → ℕ → List Pointer) (first step : ℕ) (ws : List ℕ) →
    ((j : ℕ) → j < length ws → AllByRecursion IsFilled (f (first + j * step) (get_or ws j 0))) →
    AllByRecursion IsFilled (pointers_behind f first step ws)
behind_filled f first step [] each = tt
behind_filled f first step (w ∷ ws) each =
    let z : first + 0 * step ≡ first = omega arith in
    AllByRecursion-append IsFilled (f first w) (pointers_behind f (first + step) step ws)
    (subst (λ n. AllByRecursion IsFilled (f n w)) z (each 0 (omega arith)))
    (behind_filled f (first + step) step ws
    (λ j low.
    let e : first + suc j * step ≡ first + step + j * step = grind arith in
    subst (λ n. AllByRecursion IsFilled (f n (get_or ws j 0))) e (each (suc j) (omega arith))))

pub inside_reach : (j k r : ℕ) → j < 256 → k < r → j * r + k < r * 256
inside_reach j k r h l = let m = mul-le-mul_left r (next j h) in omega arith
  where
    next : (a : ℕ) → a < 256 → a + 1 ≤ 256
    next a b = omega arith

head_needed : (size first : ℕ) → ltb (first * 1024) size ≡ true → (first + 0) * 1024 < size
head_needed size first h = let l = ltb-true (first * 1024) size h in omega arith

under_filled : (x : Image) (size depth first address : ℕ) → AllByRecursion (HasFew x) (names_under x depth address) →
    ((k : ℕ) → k < reach depth → (first + k) * 1024 < size → address_under x depth k address ≢ 0) →
    AllByRecursion IsFilled (pointers_under x size depth first address)
under_filled x size zero first address few each = (λ needed. each 0 (omega arith) (head_needed size first needed), tt)
under_filled x size (suc depth) first address few each =
    let pos = reach_pos (suc depth) in
    ⊎_elim
    (λ (z : address ≡ 0). rw z ((λ needed. absurd (each 0 pos (head_needed size first needed) (rw z refl)), tt)))
    (λ (there : address ≢ 0).
    let ws = words_of (block_at x address) in
    let no = ne_eqb address 0 there in
    let r = reach depth in
    let rp = reach_pos depth in
    let parts : AllByRecursion (HasFew x) (address ∷ flat_map (λ a. names_under x depth a) ws) = rw no at few in
    let count : length ws ≤ 256 = parts.0 in
    let grown_reach : reach (suc depth) ≡ 256 ^ depth * 256 = pow-suc 256 depth in
    rw no (
      (λ needed. there),
      behind_filled (λ f a. pointers_under x size depth f a) first r ws
          (λ j low. under_filled x size depth (first + j * r) (get_or ws j 0)
          (flat_at (HasFew x) (λ a. names_under x depth a) ws j parts.1 low)
          (λ k kl need z.
          let bound = inside_reach j k r (omega arith) kl in
          each (j * r + k) (omega arith) (rw (sym (add_assoc first (j * r) k)) need) (rw no (rw ((div-mul-add j r k kl), (mod-mul-add j r k kl)) z)))),
    ))
    (cases_eq address 0)

along_filled : (x : Image) (size first : ℕ) (ds addresses : List ℕ) → AllByRecursion (HasFew x) (names_along x ds addresses) →
    ((k : ℕ) → (first + k) * 1024 < size → address_along x k ds addresses ≢ 0) →
    AllByRecursion IsFilled (pointers_along x size first ds addresses)
along_filled x size first [] addresses few each = tt
along_filled x size first (depth ∷ ds) [] few each = tt
along_filled x size first (depth ∷ ds) (a ∷ addresses) few each =
    let parts = AllByRecursion-parts (HasFew x) (names_under x depth a) (names_along x ds addresses) few in
    AllByRecursion-append IsFilled (pointers_under x size depth first a) (pointers_along x size (first + reach depth) ds addresses)
    (under_filled x size depth first a parts.0 (λ k low need z. each k need (rw (lt-ltb k (reach depth) low) z)))
    (along_filled x size (first + reach depth) ds addresses parts.1
    (λ k need z.
    let e : reach depth + k - reach depth ≡ k = omega arith in
    each (reach depth + k) (rw (← add_assoc first (reach depth) k) need)
    (rw (le-ltb (reach depth + k) (reach depth) (omega arith), e) z)))

pub whole_filled : (x : Image) (d : Dinode) → d.kind ≢ 0 → AllByRecursion (HasFew x) (names_of x d) → IsWhole x d →
    AllByRecursion IsFilled (pointers_in x d)
unfolding address_in
whole_filled x d used few whole =
    subst (λ (l : List Pointer). AllByRecursion IsFilled l) (sym (pointers_used x d used))
    (along_filled x d.size 0 (depths (form_of x)) d.addrs (subst (λ (l : List ℕ). AllByRecursion (HasFew x) l) (names_used x d used) few)
    (λ k need z. whole k (rw zero-add at need) z))

-- ---- the depths of a form's addresses

pub greatest_small : (f : Form) → greatest_size f < 2 ^ 32
greatest_small One = omega arith
greatest_small Two = omega arith

-- the first addresses are a data block's
pub direct_few : (f : Form) → direct_count f ≤ 13
direct_few One = omega arith
direct_few Two = omega arith

zeroes_front : (n k : ℕ) (later : List ℕ) → k < n → get_or (replicate n 0 ++ later) k 0 ≡ 0
zeroes_front zero k later low = absurd (omega (arith, low))
zeroes_front (suc n) zero later low = refl
zeroes_front (suc n) (suc k) later low = zeroes_front n k later (omega (arith, low))

pub direct_depth : (f : Form) (k : ℕ) → k < direct_count f → get_or (depths f) k 0 ≡ 0
direct_depth One k low = zeroes_front 12 k (1 ∷ []) low
direct_depth Two k low = zeroes_front 11 k (1 ∷ 2 ∷ []) low

-- and the others those of blocks of addresses
pub tree_depth : (f : Form) (k : ℕ) → direct_count f ≤ k → k < 13 → (1 ≤ get_or (depths f) k 0) × (get_or (depths f) k 0 ≤ 2)
tree_depth One k from low =
    let here : get_or (depths One) k 0 ≡ 1 = (let last : k ≡ 12 = omega (arith, from, low) in ap (λ (j : ℕ). get_or (depths One) j 0) last) in
    (omega (arith, here), omega (arith, here))
tree_depth Two k from low = ⊎_elim
    (λ (first : k ≡ 11). let here : get_or (depths Two) k 0 ≡ 1 = ap (λ (j : ℕ). get_or (depths Two) j 0) first in (omega (arith, here), omega (arith, here)))
    (λ (other : k ≢ 11).
    let here : get_or (depths Two) k 0 ≡ 2 = (let last : k ≡ 12 = omega (arith, from, low, other) in ap (λ (j : ℕ). get_or (depths Two) j 0) last) in
    (omega (arith, here), omega (arith, here)))
    (cases_eq k 11)
