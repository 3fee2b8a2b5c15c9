-- How many blocks a task has still to give up at most.
use Rattle.std.proofs.Common.{◌≡◌, ◌≢◌, ℕ, zero, suc, ◌+◌, ◌<◌, ◌≤◌, cond, eqb, List, [], ◌∷◌, ◌++◌, length, get_or, drop, replicate, refl, sym, ap, subst, ⊎_elim, arith, length-append, length-drop, append-nil}
use Rattle.std.specs.List.{flat_map}
use Rattle.in_flight.specs.Common.{block_at, blocks_left, cases_eq, cases_lt, depths, entry_of, FewLeft, Form, form_of, frees, get_or_past, Image, left_along, left_under, most_left, names_left, names_under, ne_eqb, One, Two, words_of}
use Rattle.in_flight.specs.Lemmas.FirstForm.{last_tree}
use Rattle.in_flight.specs.Lemmas.GivenUp.{first_words}
use Rattle.in_flight.specs.Lemmas.HeldLooks.{held_has_blocks}
use Rattle.in_flight.specs.Lemmas.Lengths.{few_below}
use Rattle.in_flight.specs.Lemmas.Remapped.{mapped}

-- ---- in the first form

one_named : (a : ℕ) → length (cond (eqb a 0) [] (a ∷ [])) ≤ 1
one_named a =
    ⊎_elim
    (λ (z : a ≡ 0). rw z (omega arith))
    (λ (some : a ≢ 0). rw (ne_eqb a 0 some) (omega arith))
    (cases_eq a 0)

all_named : (x : Image) (words : List ℕ) → length (flat_map (names_under x 0) words) ≤ length words
all_named x [] = omega arith
all_named x (w ∷ words) =
    omega (arith, (one_named w), (all_named x words), (length-append (names_under x 0 w) (flat_map (names_under x 0) words)))

-- a block of addresses and its entries
few_under : (x : Image) (a : ℕ) (cursor : List ℕ) → length (words_of (block_at x a)) ≤ 256 →
    length (left_under x 1 cursor a) ≤ 257
few_under x a [] few =
    ⊎_elim (λ (z : a ≡ 0). rw z (omega arith))
    (λ (some : a ≢ 0).
    let all = all_named x (words_of (block_at x a)) in
    rw (ne_eqb a 0 some) (omega (arith, all, few)))
    (cases_eq a 0)
few_under x a (e ∷ cursor) few =
    ⊎_elim (λ (z : a ≡ 0). rw z (omega arith))
    (λ (some : a ≢ 0).
    let words = words_of (block_at x a) in
    let here = cond (eqb (entry_of x a e) 0) [] (entry_of x a e ∷ []) in
    let rest = flat_map (names_under x 0) (drop (suc e) words) in
    let one = one_named (entry_of x a e) in
    let all = all_named x (drop (suc e) words) in
    let cut = length-drop (suc e) words in
    let sum = length-append here rest in
    rw (ne_eqb a 0 some)
    (⊎_elim
    (λ (inside : e < length words). omega (arith, inside, one, all, cut, sum, few))
    (λ (past : length words ≤ e).
    let none : length here ≡ 0 = rw (get_or_past words e 0 past) refl in
    omega (arith, past, none, all, cut, sum, few))
    (cases_lt e (length words))))
    (cases_eq a 0)

-- behind n data blocks
few_along : (x : Image) (cursor : List ℕ) (n : ℕ) (addresses : List ℕ) →
    (get_or addresses n 0 ≢ 0 → length (words_of (block_at x (get_or addresses n 0))) ≤ 256) →
    length (left_along x cursor (replicate n 0 ++ 1 ∷ []) addresses) ≤ n + 257
few_along x cursor zero [] few = omega arith
few_along x cursor (suc n) [] few = omega arith
few_along x cursor zero (a ∷ addresses) few =
    ⊎_elim (λ (z : a ≡ 0). rw z (omega arith))
    (λ (some : a ≢ 0).
    rw (ne_eqb a 0 some) (omega (arith, (few_under x a cursor (few some)), (ap length (append-nil (left_under x 1 cursor a))))))
    (cases_eq a 0)
few_along x cursor (suc n) (a ∷ addresses) few =
    let sum = length-append (cond (eqb a 0) [] (a ∷ [])) (left_along x cursor (replicate n 0 ++ 1 ∷ []) addresses) in
    omega (arith, (one_named a), (few_along x cursor n addresses few), sum)

pub few_left : FewLeft
few_left m x claims i h g = by_form (form_of x) refl
  where
    its_words : form_of x ≡ One → get_or h.copy.addrs 12 0 ≢ 0 →
        length (words_of (block_at x (get_or h.copy.addrs 12 0))) ≤ 256
    its_words one some =
        omega (arith, (first_words m x claims i 12 h g (last_tree x one h.copy some)))

    by_form : (f : Form) → form_of x ≡ f → blocks_left x h ≤ most_left f
    by_form One one =
        subst (λ (f : Form). length (left_along x h.cursor (depths f) h.copy.addrs) ≤ 269) (sym one)
        (few_along x h.cursor 12 h.copy.addrs (its_words one))
    -- in any form no block is left twice, and each lies in the image
    by_form Two two =
        let has = held_has_blocks m x claims i (frees h) g in
        let few =
        few_below (length x) (names_left x h.copy h.cursor) has.once
        (λ b some. (has.marked b some).0.1) in
        omega (arith, few, ((mapped x g.fits.geometry g.fits.full).room))
