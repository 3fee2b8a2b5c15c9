-- Where a block stands among the places of an inode of the first form: as data, as the block of addresses,
-- or as both, which no sound image has.
use Rattle.std.proofs.Common.{◌≡◌, ◌≢◌, ℕ, zero, suc, ◌+◌, ◌-◌, ◌/◌, ◌<◌, ◌≤◌, false, cond, eqb, List, [], ◌∷◌, ◌++◌, get_or, replicate, refl, sym, ap, ◌∙◌, ⊎_elim, zero-add, arith}
use Rattle.model.specs.Common.{address_along, addresses_in, append-nil, block_at, cases_eq, cases_lt, eq-eqb, Image, le-ltb, lt-ltb, ne_eqb, pointer_of, pointers_along, pointers_behind, pointers_under, reach, words_of, address_under}
use Rattle.model.specs.declared.types.image.Pointer.{Pointer}
use Rattle.model.specs.Lemmas.Soundness.{no_address, one_address}
use Rattle.model.specs.Soundness.{count_of}

-- the depths of the first form, but with n direct blocks
abbrev pub short : ℕ → List ℕ
short n = replicate n 0 ++ 1 ∷ []

module _ (y : Image) (size b : ℕ) (some : b ≢ 0) where
  -- the places under addresses of those depths
  abbrev counted_at : ℕ → ℕ → List ℕ → ℕ
  counted_at first n addresses = count_of b (addresses_in (pointers_along y size first (short n) addresses))

  count_pointer : (first a : ℕ) (rest : List Pointer) →
      count_of b (addresses_in (pointer_of size first a ∷ rest)) ≡ cond (eqb a b) 1 0 + count_of b (addresses_in rest)
  count_pointer first a rest =
      ⊎_elim
      (λ (e : a ≡ 0).
      let other : eqb a b ≡ false = ne_eqb a b (λ same. some (sym same ∙ e)) in
      let skip : addresses_in (pointer_of size first a ∷ rest) ≡ addresses_in rest = no_address (pointer_of size first a) rest e in
      rw (skip, other) (sym (zero-add (count_of b (addresses_in rest)))))
      (λ (ne : a ≢ 0). ap (count_of b) (one_address (pointer_of size first a) rest ne))
      (cases_eq a 0)

  -- an entry of a block of addresses
  count_entries : (first k : ℕ) (words : List ℕ) → get_or words k 0 ≡ b →
      1 ≤ count_of b (addresses_in (pointers_behind (λ f a. pointers_under y size 0 f a) first (reach 0) words))
  count_entries first k [] is = absurd (some (sym is))
  count_entries first zero (a ∷ words) is =
      let one = count_pointer first a (pointers_behind (λ f a. pointers_under y size 0 f a) (first + reach 0) (reach 0) words) in
      let same = eq-eqb a b is in
      omega (arith, one, rw same at one)
  count_entries first (suc k) (a ∷ words) is =
      let one = count_pointer first a (pointers_behind (λ f a. pointers_under y size 0 f a) (first + reach 0) (reach 0) words) in
      let rest = count_entries (first + reach 0) k words is in
      omega (arith, one, rest)

  under_node : (first a : ℕ) → counted_at first 0 (a ∷ [])
      ≡ cond (eqb a b) 1 0 + count_of b (addresses_in (cond (eqb a 0) [] (pointers_behind (λ f e. pointers_under y size 0 f e) first (reach 0) (words_of (block_at y a)))))
  under_node first a =
      let entries = cond (eqb a 0) [] (pointers_behind (λ f e. pointers_under y size 0 f e) first (reach 0) (words_of (block_at y a))) in
      ap (λ (l : List Pointer). count_of b (addresses_in (pointer_of size first a ∷ l))) (append-nil entries)
      ∙ count_pointer first a entries

  -- the same whatever addresses stand behind the last
  node_alone : (first a : ℕ) (rest : List ℕ) → counted_at first 0 (a ∷ rest) ≡ counted_at first 0 (a ∷ [])
  node_alone first a rest = refl

  -- what the block of addresses leads to
  behind_node : (first k a : ℕ) → address_under y 1 k a ≡ b →
      1 ≤ count_of b (addresses_in (cond (eqb a 0) [] (pointers_behind (λ f e. pointers_under y size 0 f e) first (reach 0) (words_of (block_at y a)))))
  behind_node first k a is =
      ⊎_elim
      (λ (e : a ≡ 0). absurd (some (sym is ∙ ap (address_under y 1 k) e)))
      (λ (ne : a ≢ 0).
      let no = ne_eqb a 0 ne in
      let entry : get_or (words_of (block_at y a)) (k / reach 0) 0 ≡ b = rw no at is in
      rw no (count_entries first (k / reach 0) (words_of (block_at y a)) entry))
      (cases_eq a 0)

  -- block b holds data of an inode
  pub at_data : (first n k : ℕ) (addresses : List ℕ) → address_along y k (short n) addresses ≡ b →
      1 ≤ counted_at first n addresses
  at_data first zero k [] is = absurd (some (sym is))
  at_data first zero k (a ∷ rest) is =
      ⊎_elim
      (λ (low : k < reach 1).
      let below = behind_node first k a (rw (lt-ltb k (reach 1) low) at is) in
      omega (arith, node_alone first a rest, under_node first a, below))
      (λ (high : reach 1 ≤ k). absurd (some (sym (rw (le-ltb k (reach 1) high) at is))))
      (cases_lt k (reach 1))
  at_data first (suc n) k [] is = absurd (some (sym is))
  at_data first (suc n) k (a ∷ rest) is =
      let one = count_pointer first a (pointers_along y size (first + reach 0) (short n) rest) in
      ⊎_elim
      (λ (low : k < reach 0).
      let same = eq-eqb a b (rw (lt-ltb k (reach 0) low) at is) in
      omega (arith, one, rw same at one))
      (λ (high : reach 0 ≤ k).
      let more = at_data (first + reach 0) n (k - reach 0) rest (rw (le-ltb k (reach 0) high) at is) in
      omega (arith, one, more))
      (cases_lt k (reach 0))

  -- it is the block of addresses of one
  pub at_node : (first n : ℕ) (addresses : List ℕ) → get_or addresses n 0 ≡ b → 1 ≤ counted_at first n addresses
  at_node first n [] is = absurd (some (sym is))
  at_node first zero (a ∷ rest) is =
      let one = under_node first a in
      let same = eq-eqb a b is in
      omega (arith, node_alone first a rest, one, rw same at one)
  at_node first (suc n) (a ∷ rest) is =
      let one = count_pointer first a (pointers_along y size (first + reach 0) (short n) rest) in
      let more = at_node (first + reach 0) n rest is in
      omega (arith, one, more)

  -- both at once
  pub at_both : (first n k : ℕ) (addresses : List ℕ) → address_along y k (short n) addresses ≡ b → get_or addresses n 0 ≡ b →
      2 ≤ counted_at first n addresses
  at_both first n k [] is node = absurd (some (sym node))
  at_both first zero k (a ∷ rest) is node =
      ⊎_elim
      (λ (low : k < reach 1).
      let below = behind_node first k a (rw (lt-ltb k (reach 1) low) at is) in
      let one = under_node first a in
      let same = eq-eqb a b node in
      omega (arith, node_alone first a rest, one, rw same at one, below))
      (λ (high : reach 1 ≤ k). absurd (some (sym (rw (le-ltb k (reach 1) high) at is))))
      (cases_lt k (reach 1))
  at_both first (suc n) k (a ∷ rest) is node =
      let one = count_pointer first a (pointers_along y size (first + reach 0) (short n) rest) in
      ⊎_elim
      (λ (low : k < reach 0).
      let same = eq-eqb a b (rw (lt-ltb k (reach 0) low) at is) in
      let more = at_node (first + reach 0) n rest node in
      omega (arith, one, rw same at one, more))
      (λ (high : reach 0 ≤ k).
      let more = at_both (first + reach 0) n (k - reach 0) rest (rw (le-ltb k (reach 0) high) at is) node in
      omega (arith, one, more))
      (cases_lt k (reach 0))
