-- Images that agree at an inode's blocks have the same contents of it.
use Rattle.std.proofs.Common.{◌≡◌, ◌≢◌, ℕ, zero, suc, ◌+◌, ◌-◌, ◌/◌, ◌%◌, ◌<◌, ◌≤◌, Bool, true, cond, not, ◌&&◌, eqb, List, [], ◌∷◌, ◌++◌, get_or, set, length, take, refl, sym, ap, ◌∙◌, ⊎_elim, arith}
use Rattle.std.specs.List.{list_all, flat_map, range_with_len}
use Rattle.std.proofs.Math.Numerals.{sub-one}
use Rattle.model.specs.Common.{address_along, address_under, addresses_in, block_at, blocks_for, cases_eq, cases_lt, data_at, depths, Dinode, eqb-false, form_of, FramesContents, get_or-set_other, get_or_past, Image, le-ltb, list_all-append, lt-ltb, ne_eqb, not-true, Pointer, pointer_of, pointers_along, pointers_behind, pointers_under, reach, words_of}
use Rattle.model.specs.Places.{pointers_in, address_in}
use Rattle.model.specs.Names.{names_of}
use Rattle.model.specs.Files.{joined, bytes_in, file_of}
use Rattle.model.specs.Agreement.{all_pass, Agrees, AgreesFor}
use Rattle.model.specs.Lemmas.Log.{both_of}
use Rattle.model.specs.Lemmas.Names.{addresses_in-append, pointers_named}

-- a write to one block leaves the others
pub Agrees-set : (x : Image) (b : ℕ) (bytes : List ℕ) → Agrees (λ c. not (eqb c b)) x (set x b bytes)
Agrees-set x b bytes c other = get_or-set_other x b c bytes [] (eqb-false c b (not-true (eqb c b) other))

pub all_pass-append : (test : ℕ → Bool) (front bs : List Pointer) → all_pass test (front ++ bs) ≡ (all_pass test front && all_pass test bs)
all_pass-append test front bs =
    ap (list_all test) (addresses_in-append front bs) ∙ list_all-append test (addresses_in front) (addresses_in bs)

pass_parts : (test : ℕ → Bool) (front bs : List Pointer) → all_pass test (front ++ bs) ≡ true → (all_pass test front ≡ true) × (all_pass test bs ≡ true)
pass_parts test front bs h = both_of (all_pass test front) (all_pass test bs) (sym (all_pass-append test front bs) ∙ h)

behind_agree : (test : ℕ → Bool) (f g : ℕ → ℕ → List Pointer) (first step : ℕ) (addresses : List ℕ) →
    ((n a : ℕ) → all_pass test (f n a) ≡ true → g n a ≡ f n a) →
    all_pass test (pointers_behind f first step addresses) ≡ true → pointers_behind g first step addresses ≡ pointers_behind f first step addresses
behind_agree test f g first step [] same h = refl
behind_agree test f g first step (a ∷ rest) same h =
    let parts = pass_parts test (f first a) (pointers_behind f (first + step) step rest) h in
    rw (same first a parts.0, behind_agree test f g (first + step) step rest same parts.1) refl

-- the pointers under an address that passes, with all under it, are the same
pub under_agree : (test : ℕ → Bool) (x y : Image) → Agrees test x y → (size depth first address : ℕ) →
    all_pass test (pointers_under x size depth first address) ≡ true → pointers_under y size depth first address ≡ pointers_under x size depth first address
under_agree test x y agree size zero first address h = refl
under_agree test x y agree size (suc depth) first address h =
    ⊎_elim (λ (e : address ≡ 0). rw e refl)
    (λ (some : address ≢ 0).
    let no = ne_eqb address 0 some in
    let parts = both_of (test address)
    (all_pass test (pointers_behind (λ f a. pointers_under x size depth f a) first (reach depth) (words_of (block_at x address)))) (rw no at h) in
    rw (no, agree address parts.0)
    (ap (λ r. pointer_of size first address ∷ r)
    (behind_agree test (λ f a. pointers_under x size depth f a) (λ f a. pointers_under y size depth f a) first (reach depth)
    (words_of (block_at x address)) (λ n a k. under_agree test x y agree size depth n a k) parts.1)))
    (cases_eq address 0)

pub along_agree : (test : ℕ → Bool) (x y : Image) → Agrees test x y → (size first : ℕ) (depths addresses : List ℕ) →
    all_pass test (pointers_along x size first depths addresses) ≡ true → pointers_along y size first depths addresses ≡ pointers_along x size first depths addresses
along_agree test x y agree size first [] addresses h = refl
along_agree test x y agree size first (depth ∷ depths) [] h = refl
along_agree test x y agree size first (depth ∷ depths) (address ∷ addresses) h =
    let parts = pass_parts test (pointers_under x size depth first address) (pointers_along x size (first + reach depth) depths addresses) h in
    rw (under_agree test x y agree size depth first address parts.0, along_agree test x y agree size (first + reach depth) depths addresses parts.1) refl

-- what stands behind each address of a list passes
behind_one : (test : ℕ → Bool) (f : ℕ → ℕ → List Pointer) (first step k : ℕ) (addresses : List ℕ) →
    all_pass test (pointers_behind f first step addresses) ≡ true → k < length addresses →
    (n : ℕ) × (all_pass test (f n (get_or addresses k 0)) ≡ true)
behind_one test f first step k [] h z = absurd (omega arith)
behind_one test f first step zero (a ∷ rest) h z =
    (first, (pass_parts test (f first a) (pointers_behind f (first + step) step rest) h).0)
behind_one test f first step (suc k) (a ∷ rest) h z =
    behind_one test f (first + step) step k rest (pass_parts test (f first a) (pointers_behind f (first + step) step rest) h).1 (omega arith)

pub under_zero : (x : Image) (depth k : ℕ) → address_under x depth k 0 ≡ 0
under_zero x zero k = refl
under_zero x (suc depth) k = refl

-- an address of a block of addresses
pub address_block : (x : Image) (depth k address : ℕ) → depth ≢ 0 → address ≢ 0 →
    address_under x depth k address
    ≡ address_under x (depth - 1) (k % reach (depth - 1)) (get_or (words_of (block_at x address)) (k / reach (depth - 1)) 0)
address_block x zero k address deep some = absurd (deep refl)
address_block x (suc depth) k address deep some = rw (ne_eqb address 0 some, sub-one) refl

-- an address is met that is the same in both images, and passes if it is there
abbrev pub Meets : (ℕ → Bool) → ℕ → ℕ → Type 0
Meets test here there = (there ≡ here) × (here ≢ 0 → test here ≡ true)

meets_zero : (test : ℕ → Bool) (x y : Image) (depth k address : ℕ) → address ≡ 0 →
    Meets test (address_under x depth k address) (address_under y depth k address)
meets_zero test x y depth k address e =
    rw e (under_zero y depth k ∙ sym (under_zero x depth k), λ some. absurd (some (under_zero x depth k)))

under_address : (test : ℕ → Bool) (x y : Image) → Agrees test x y → (size depth first k address : ℕ) →
    all_pass test (pointers_under x size depth first address) ≡ true →
    Meets test (address_under x depth k address) (address_under y depth k address)
under_address test x y agree size zero first k address h =
    (refl, λ some. (both_of (test address) true (rw (ne_eqb address 0 some) at h)).0)
under_address test x y agree size (suc depth) first k address h =
    ⊎_elim (λ (e : address ≡ 0). meets_zero test x y (suc depth) k address e)
    (λ (some : address ≢ 0).
    let no = ne_eqb address 0 some in
    let words = words_of (block_at x address) in
    let parts = both_of (test address)
    (all_pass test (pointers_behind (λ f a. pointers_under x size depth f a) first (reach depth) words)) (rw no at h) in
    let below : Meets test (address_under x depth (k % reach depth) (get_or words (k / reach depth) 0)) (address_under y depth (k % reach depth) (get_or words (k / reach depth) 0))
    = ⊎_elim
    (λ (lt : k / reach depth < length words).
    let one = behind_one test (λ f a. pointers_under x size depth f a) first (reach depth) (k / reach depth) words parts.1 lt in
    under_address test x y agree size depth one.0 (k % reach depth) (get_or words (k / reach depth) 0) one.1)
    (λ (past : length words ≤ k / reach depth).
    meets_zero test x y depth (k % reach depth) (get_or words (k / reach depth) 0) (get_or_past words (k / reach depth) 0 past))
    (cases_lt (k / reach depth) (length words)) in
    rw (no, agree address parts.0) below)
    (cases_eq address 0)

pub along_address : (test : ℕ → Bool) (x y : Image) → Agrees test x y → (size first k : ℕ) (depths addresses : List ℕ) →
    all_pass test (pointers_along x size first depths addresses) ≡ true →
    Meets test (address_along x k depths addresses) (address_along y k depths addresses)
along_address test x y agree size first k [] addresses h = (refl, λ some. absurd (some refl))
along_address test x y agree size first k (depth ∷ depths) [] h = (refl, λ some. absurd (some refl))
along_address test x y agree size first k (depth ∷ depths) (address ∷ addresses) h =
    let parts = pass_parts test (pointers_under x size depth first address) (pointers_along x size (first + reach depth) depths addresses) h in
    ⊎_elim
    (λ (lt : k < reach depth). rw (lt-ltb k (reach depth) lt) (under_address test x y agree size depth first k address parts.0))
    (λ (le : reach depth ≤ k). rw (le-ltb k (reach depth) le)
    (along_address test x y agree size (first + reach depth) (k - reach depth) depths addresses parts.1))
    (cases_lt k (reach depth))

pub form_agree : (test : ℕ → Bool) (x y : Image) → Agrees test x y → test 1 ≡ true → form_of y ≡ form_of x
form_agree test x y agree one = rw (agree 1 one) refl

-- an image's form is told by its superblock
pub form_same : (x y : Image) → block_at y 1 ≡ block_at x 1 → form_of y ≡ form_of x
form_same x y same = rw same refl

pub pointers_free : (x : Image) (d : Dinode) → d.kind ≡ 0 → pointers_in x d ≡ []
unfolding pointers_in
pointers_free x d free = rw free refl

pub pointers_used : (x : Image) (d : Dinode) → d.kind ≢ 0 → pointers_in x d ≡ pointers_along x d.size 0 (depths (form_of x)) d.addrs
unfolding pointers_in
pointers_used x d used = rw (ne_eqb d.kind 0 used) refl

pub pointers_agree : (test : ℕ → Bool) (x y : Image) (d : Dinode) → AgreesFor test x y d → pointers_in y d ≡ pointers_in x d
pointers_agree test x y d h =
    ⊎_elim (λ (free : d.kind ≡ 0). pointers_free y d free ∙ sym (pointers_free x d free))
    (λ (used : d.kind ≢ 0).
    let form = form_agree test x y h.agree h.one in
    pointers_used y d used ∙ ap (λ f. pointers_along y d.size 0 (depths f) d.addrs) form
    ∙ along_agree test x y h.agree d.size 0 (depths (form_of x)) d.addrs (rw (pointers_used x d used) at h.names)
    ∙ sym (pointers_used x d used))
    (cases_eq d.kind 0)

pub names_agree : (test : ℕ → Bool) (x y : Image) (d : Dinode) → AgreesFor test x y d → names_of y d ≡ names_of x d
names_agree test x y d h = sym (pointers_named y d) ∙ ap addresses_in (pointers_agree test x y d h) ∙ pointers_named x d

pub address_agree : (test : ℕ → Bool) (x y : Image) (d : Dinode) → AgreesFor test x y d → d.kind ≢ 0 → (k : ℕ) →
    Meets test (address_in x d k) (address_in y d k)
unfolding address_in
address_agree test x y d h used k =
    let form = form_agree test x y h.agree h.one in
    let met = along_address test x y h.agree d.size 0 k (depths (form_of x)) d.addrs (rw (pointers_used x d used) at h.names) in
    (ap (λ f. address_along y k (depths f) d.addrs) form ∙ met.0, met.1)

-- the bytes at such an address are the same
data_agree : (test : ℕ → Bool) (x y : Image) (here there : ℕ) → Agrees test x y → Meets test here there → data_at y there ≡ data_at x here
data_agree test x y here there agree met =
    ap (data_at y) met.0
    ∙ ⊎_elim (λ (e : here ≡ 0). rw e refl) (λ (some : here ≢ 0). ap (λ bytes. cond (eqb here 0) [] bytes) (agree here (met.1 some))) (cases_eq here 0)

pub flat_map_same : {X : Type 0} (f g : ℕ → List X) → ((k : ℕ) → f k ≡ g k) → (ks : List ℕ) → flat_map f ks ≡ flat_map g ks
flat_map_same f g same [] = refl
flat_map_same f g same (k ∷ ks) = rw (same k, flat_map_same f g same ks) refl

pub joined_agree : (test : ℕ → Bool) (x y : Image) (d : Dinode) → AgreesFor test x y d → d.kind ≢ 0 → (count : ℕ) → joined y d count ≡ joined x d count
unfolding joined
joined_agree test x y d h used count =
    flat_map_same (λ k. data_at y (address_in y d k)) (λ k. data_at x (address_in x d k))
    (λ k. data_agree test x y (address_in x d k) (address_in y d k) h.agree (address_agree test x y d h used k))
    (range_with_len 0 count)

pub bytes_agree : (test : ℕ → Bool) (x y : Image) (d : Dinode) → AgreesFor test x y d → d.kind ≢ 0 → bytes_in y d ≡ bytes_in x d
unfolding bytes_in
bytes_agree test x y d h used = ap (take d.size) (joined_agree test x y d h used (blocks_for d.size))

pub file_agree : (test : ℕ → Bool) (x y : Image) (d : Dinode) → AgreesFor test x y d → file_of y d ≡ file_of x d
unfolding file_of
file_agree test x y d h =
    ⊎_elim (λ (free : d.kind ≡ 0). rw free refl)
    (λ (used : d.kind ≢ 0). rw (ne_eqb d.kind 0 used, bytes_agree test x y d h used) refl)
    (cases_eq d.kind 0)

pub frames_contents : FramesContents
frames_contents test x y d h = record {
  pointers = pointers_agree test x y d h;
  names = names_agree test x y d h;
  file = file_agree test x y d h;
  addresses = λ used k. (address_agree test x y d h used k).0;
  joined = λ used count. joined_agree test x y d h used count;
  bytes = λ used. bytes_agree test x y d h used;
}
