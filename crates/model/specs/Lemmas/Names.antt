-- The names of an inode are the addresses of its pointers.
use Rattle.std.proofs.Common.{◌≡◌, ◌≢◌, ℕ, zero, suc, ◌+◌, not, eqb, List, [], ◌∷◌, ◌++◌, map, refl, ap, ◌∙◌, ⊎_elim}
use Rattle.std.specs.List.{flat_map, filter}
use Rattle.model.specs.Common.{addresses_in, block_at, cases_eq, depths, Dinode, filter-append, form_of, Image, map-append, ne_eqb, Pointer, pointers_along, pointers_behind, pointers_under, reach, words_of}
use Rattle.model.specs.Places.{pointers_in}
use Rattle.model.specs.Names.{names_under, names_along, names_of}

pub addresses_in-append : (front bs : List Pointer) → addresses_in (front ++ bs) ≡ addresses_in front ++ addresses_in bs
addresses_in-append front bs =
    ap (filter (λ a. not (eqb a 0))) (map-append (λ p. p.address) front bs)
    ∙ filter-append (λ a. not (eqb a 0)) (map (λ p. p.address) front) (map (λ p. p.address) bs)

behind_named : (f : ℕ → ℕ → List Pointer) (g : ℕ → List ℕ) (first step : ℕ) (ws : List ℕ) →
    ((n a : ℕ) → addresses_in (f n a) ≡ g a) → addresses_in (pointers_behind f first step ws) ≡ flat_map g ws
behind_named f g first step [] each = refl
behind_named f g first step (a ∷ ws) each =
    addresses_in-append (f first a) (pointers_behind f (first + step) step ws)
    ∙ ap (λ l. l ++ addresses_in (pointers_behind f (first + step) step ws)) (each first a)
    ∙ ap (λ l. g a ++ l) (behind_named f g (first + step) step ws each)

pub under_named : (x : Image) (size depth first address : ℕ) → addresses_in (pointers_under x size depth first address) ≡ names_under x depth address
under_named x size zero first address = ⊎_elim (λ (e : address ≡ 0). rw e refl) (λ (n : address ≢ 0). rw (ne_eqb address 0 n) refl) (cases_eq address 0)
under_named x size (suc depth) first address =
    ⊎_elim (λ (e : address ≡ 0). rw e refl)
    (λ (n : address ≢ 0). rw (ne_eqb address 0 n)
    (ap (λ l. address ∷ l) (behind_named (λ f a. pointers_under x size depth f a) (λ a. names_under x depth a) first (reach depth)
    (words_of (block_at x address)) (λ f a. under_named x size depth f a))))
    (cases_eq address 0)

pub along_named : (x : Image) (size first : ℕ) (depths addresses : List ℕ) → addresses_in (pointers_along x size first depths addresses) ≡ names_along x depths addresses
along_named x size first [] addresses = refl
along_named x size first (depth ∷ depths) [] = refl
along_named x size first (depth ∷ depths) (a ∷ addresses) =
    addresses_in-append (pointers_under x size depth first a) (pointers_along x size (first + reach depth) depths addresses)
    ∙ ap (λ l. l ++ addresses_in (pointers_along x size (first + reach depth) depths addresses)) (under_named x size depth first a)
    ∙ ap (λ l. names_under x depth a ++ l) (along_named x size (first + reach depth) depths addresses)

-- the addresses of an inode's pointers
pub pointers_named : (x : Image) (d : Dinode) → addresses_in (pointers_in x d) ≡ names_of x d
unfolding pointers_in names_of
pointers_named x d =
    ⊎_elim (λ (e : d.kind ≡ 0). rw e refl)
    (λ (n : d.kind ≢ 0). rw (ne_eqb d.kind 0 n) (along_named x d.size 0 (depths (form_of x)) d.addrs))
    (cases_eq d.kind 0)
