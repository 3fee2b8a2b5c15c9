-- How long a list is, by how often each number stands in it.
use Rattle.std.proofs.Common.{◌≡◌, ◌≢◌, ℕ, zero, suc, ◌+◌, ◌<◌, ◌≤◌, cond, eqb, List, [], ◌∷◌, length, refl, ⊎_elim, arith}
use Rattle.in_flight.specs.Common.{cases_eq, count_of, eq-eqb, ne_eqb}

-- the list without the first place at which a number stands
abbrev without : ℕ → List ℕ → List ℕ
without b [] = []
without b (a ∷ names) = cond (eqb a b) names (a ∷ without b names)

without_count : (b c : ℕ) (names : List ℕ) → count_of b names ≢ 0 →
    count_of c names ≡ cond (eqb b c) 1 0 + count_of c (without b names)
without_count b c [] some = absurd (some refl)
without_count b c (a ∷ names) some =
    ⊎_elim
    (λ (e : a ≡ b). rw (eq-eqb a b e, e) refl)
    (λ (ne : a ≢ b).
    let no = ne_eqb a b ne in
    rw no (omega (arith, (without_count b c names (λ z. some (rw (no, z) refl))))))
    (cases_eq a b)

without_length : (b : ℕ) (names : List ℕ) → count_of b names ≢ 0 →
    length names ≡ 1 + length (without b names)
without_length b [] some = absurd (some refl)
without_length b (a ∷ names) some =
    ⊎_elim
    (λ (e : a ≡ b). rw (eq-eqb a b e) (omega arith))
    (λ (ne : a ≢ b).
    let no = ne_eqb a b ne in
    rw no (omega (arith, (without_length b names (λ z. some (rw (no, z) refl))))))
    (cases_eq a b)

first_counted : (a : ℕ) (names : List ℕ) → count_of a (a ∷ names) ≢ 0
first_counted a names z = let one = eq-eqb a a refl in absurd (omega (arith, rw one at z))

-- lists that have each number equally often are equally long
pub as_many : (these others : List ℕ) → ((b : ℕ) → count_of b these ≡ count_of b others) →
    length these ≡ length others
as_many [] [] same = refl
as_many [] (a ∷ others) same = absurd (first_counted a others (let s = same a in omega (arith, s)))
as_many (a ∷ these) others same =
    let here = same a in
    let some : count_of a others ≢ 0 = λ z. first_counted a these (omega (arith, here, z)) in
    let rest = as_many these (without a others)
    (λ c. let s = same c in let w = without_count a c others some in omega (arith, s, w)) in
    omega (arith, (without_length a others some), rest)

-- a list of numbers below n that has each of them at most once has at most n
pub few_below : (n : ℕ) (names : List ℕ) → ((b : ℕ) → count_of b names ≤ 1) →
    ((b : ℕ) → count_of b names ≢ 0 → b < n) → length names ≤ n
few_below zero [] once below = omega arith
few_below zero (a ∷ names) once below =
    absurd (let low = below a (first_counted a names) in omega (arith, low))
few_below (suc n) names once below =
    ⊎_elim
    (λ (none : count_of n names ≡ 0).
    let rest = few_below n names once
    (λ b some. let low = below b some in
    ⊎_elim (λ (e : b ≡ n). absurd (some (rw e none))) (λ (ne : b ≢ n). omega (arith, low, ne)) (cases_eq b n)) in
    omega (arith, rest))
    (λ (some : count_of n names ≢ 0).
    let parts : (b : ℕ) → count_of b names ≡ cond (eqb n b) 1 0 + count_of b (without n names)
    = λ b. without_count n b names some in
    let own : count_of n (without n names) ≡ 0
    = (let p = parts n in let o = once n in let one = eq-eqb n n refl in omega (arith, rw one at p, o)) in
    let rest = few_below n (without n names)
    (λ b. let p = parts b in let o = once b in omega (arith, p, o))
    (λ b there. let p = parts b in let low = below b (λ z. there (omega (arith, p, z))) in
    ⊎_elim (λ (e : b ≡ n). absurd (there (rw e own))) (λ (ne : b ≢ n). omega (arith, low, ne)) (cases_eq b n)) in
    omega (arith, (without_length n names some), rest))
    (cases_eq (count_of n names) 0)
