-- Where an inode's pointers are filled, each block that its size needs is there.
use Rattle.std.proofs.Common.{◌≡◌, ◌≢◌, ℕ, zero, suc, ◌+◌, ◌-◌, ◌*◌, ◌/◌, ◌%◌, ◌^◌, ◌<◌, ◌≤◌, List, [], ◌∷◌, length, get_or, refl, subst, ⊎_elim, arith}
use Rattle.std.specs.List.{AllByRecursion}
use Rattle.std.proofs.Math.Nat.{pow-suc, mod-lt}
use Rattle.model.specs.Common.{address_along, address_under, addresses_in, block_at, cases_eq, cases_lt, depths, Dinode, div-add-mod', div_below, Form, form_of, greatest_size, Image, le-ltb, lt-ltb, ne_eqb, One, Pointer, pointers_along, pointers_behind, pointers_under, reach, Two, words_of}
use Rattle.model.specs.Names.{names_along, names_of}
use Rattle.model.specs.Places.{pointers_in, address_in}
use Rattle.model.specs.Soundness.{IsFilled}
use Rattle.model.specs.Lemmas.Counts.{AllByRecursion-parts}
use Rattle.model.specs.Lemmas.Frames.{pointers_used}
use Rattle.model.specs.Lemmas.Soundness.{no_address, one_address}

pub reach_pos : (depth : ℕ) → 0 < reach depth
reach_pos zero = omega arith
reach_pos (suc depth) = let p = reach_pos depth in let e = pow-suc 256 depth in omega arith

-- the names of a used inode
pub names_used : (x : Image) (d : Dinode) → d.kind ≢ 0 → names_of x d ≡ names_along x (depths (form_of x)) d.addrs
unfolding names_of
names_used x d used = rw (ne_eqb d.kind 0 used) refl

-- what the size needs is there, and each block of addresses has 256
abbrev IsSteady : Image → Pointer → Type 0
IsSteady x p = IsFilled p × (p.address ≢ 0 → length (words_of (block_at x p.address)) ≡ 256)

steady : (x : Image) (pointers : List Pointer) → AllByRecursion IsFilled pointers →
    AllByRecursion (λ a. length (words_of (block_at x a)) ≡ 256) (addresses_in pointers) → AllByRecursion (IsSteady x) pointers
steady x [] f all = tt
steady x (p ∷ pointers) f all =
    ⊎_elim
    (λ (z : p.address ≡ 0). ((f.0, λ some. absurd (some z)), steady x pointers f.1 (rw (no_address p pointers z) at all)))
    (λ (some : p.address ≢ 0).
    let parts : AllByRecursion (λ a. length (words_of (block_at x a)) ≡ 256) (p.address ∷ addresses_in pointers)
    = rw (one_address p pointers some) at all in
    ((f.0, λ _. parts.0), steady x pointers f.1 parts.1))
    (cases_eq p.address 0)

behind_at : (P : Pointer → Type 0) (f : ℕ → ℕ → List Pointer) (first step : ℕ) (ws : List ℕ) (j : ℕ) →
    AllByRecursion P (pointers_behind f first step ws) → j < length ws → AllByRecursion P (f (first + j * step) (get_or ws j 0))
behind_at P f first step [] j h low = absurd (omega arith)
behind_at P f first step (w ∷ ws) zero h low =
    let z : first ≡ first + 0 * step = omega arith in
    subst (λ n. AllByRecursion P (f n w)) z (AllByRecursion-parts P (f first w) (pointers_behind f (first + step) step ws) h).0
behind_at P f first step (w ∷ ws) (suc j) h low =
    let e : first + step + j * step ≡ first + suc j * step = grind arith in
    subst (λ n. AllByRecursion P (f n (get_or ws j 0))) e
    (behind_at P f (first + step) step ws j
    (AllByRecursion-parts P (f first w) (pointers_behind f (first + step) step ws) h).1 (omega arith))

under_whole : (x : Image) (size depth first k address : ℕ) → AllByRecursion (IsSteady x) (pointers_under x size depth first address) →
    k < reach depth → (first + k) * 1024 < size → address_under x depth k address ≢ 0
under_whole x size zero first k address h low need = h.0.0 (lt-ltb (first * 1024) size (omega arith))
under_whole x size (suc depth) first k address h low need =
    let there : address ≢ 0 = h.0.0 (lt-ltb (first * 1024) size (omega arith)) in
    let no = ne_eqb address 0 there in
    let words = words_of (block_at x address) in
    let count : length words ≡ 256 = h.0.1 there in
    let r = reach depth in
    let pos = reach_pos depth in
    let wide : reach (suc depth) ≡ 256 ^ depth * 256 = pow-suc 256 depth in
    let few : k / r < 256 = div_below k r 256 pos (omega arith) in
    let rest : k % r < r = mod-lt k pos in
    let split : k / r * r + k % r ≡ k = div-add-mod' k r in
    let behind = behind_at (IsSteady x) (λ f a. pointers_under x size depth f a) first r words (k / r) (rw no at h.1) (omega arith) in
    λ z. under_whole x size depth (first + k / r * r) (k % r) (get_or words (k / r) 0) behind rest (omega arith) (rw no at z)

-- how many blocks addresses of those depths lead to
abbrev room_for : List ℕ → ℕ
room_for [] = 0
room_for (d ∷ ds) = reach d + room_for ds

along_whole : (x : Image) (size first k : ℕ) (ds addresses : List ℕ) → length addresses ≡ length ds →
    AllByRecursion (IsSteady x) (pointers_along x size first ds addresses) → k < room_for ds → (first + k) * 1024 < size →
    address_along x k ds addresses ≢ 0
along_whole x size first k [] addresses len h low need = absurd (omega arith)
along_whole x size first k (d ∷ ds) [] len h low need = absurd (omega arith)
along_whole x size first k (d ∷ ds) (a ∷ addresses) len h low need =
    let parts = AllByRecursion-parts (IsSteady x) (pointers_under x size d first a) (pointers_along x size (first + reach d) ds addresses) h in
    ⊎_elim
    (λ (lt : k < reach d). λ z. under_whole x size d first k a parts.0 lt need (rw (lt-ltb k (reach d) lt) at z))
    (λ (le : reach d ≤ k).
    λ z. along_whole x size (first + reach d) (k - reach d) ds addresses (omega arith) parts.1 (omega arith) (omega arith)
    (rw (le-ltb k (reach d) le) at z))
    (cases_lt k (reach d))

room_of_form : (f : Form) → room_for (depths f) * 1024 ≡ greatest_size f
room_of_form One = refl
room_of_form Two = refl

pub thirteen_depths : (f : Form) → length (depths f) ≡ 13
thirteen_depths One = refl
thirteen_depths Two = refl

-- so the file of a used inode has each of its blocks
pub filled_whole : (x : Image) (d : Dinode) → d.kind ≢ 0 → length d.addrs ≡ 13 → d.size ≤ greatest_size (form_of x) →
    AllByRecursion IsFilled (pointers_in x d) →
    AllByRecursion (λ a. length (words_of (block_at x a)) ≡ 256) (addresses_in (pointers_in x d)) →
    (k : ℕ) → k * 1024 < d.size → address_in x d k ≢ 0
unfolding address_in
filled_whole x d used count few filled blocks k need =
    let f = form_of x in
    let all = steady x (pointers_in x d) filled blocks in
    let most = room_of_form f in
    let lens = thirteen_depths f in
    along_whole x d.size 0 k (depths f) d.addrs (omega arith)
    (subst (λ (l : List Pointer). AllByRecursion (IsSteady x) l) (pointers_used x d used) all) (omega arith) (omega arith)
