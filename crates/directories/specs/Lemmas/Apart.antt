-- Numbers among others, and lists whose numbers are apart.
use Rattle.std.proofs.Common.{◌≡◌, ◌⊎◌, inl, inr, ℕ, zero, suc, ◌+◌, ◌-◌, ◌<◌, ◌≤◌, List, [], ◌∷◌, ◌++◌, length, get_or, refl, sym, ap, subst, ◌∙◌, ⊎_elim, arith}
use Rattle.std.specs.Prelude.{Contains}
use Rattle.std.proofs.lemmas.Bool.{cases_lt}
use Rattle.std.proofs.lemmas.List.{get_or_default, get_or_append_left, get_or-append-add, length-append}
use Rattle.directories.specs.Checks.{AreApart, IsAmong}

pub stands_more : (n : ℕ) (numbers : List ℕ) (number : ℕ) → IsAmong numbers number → IsAmong (n ∷ numbers) number
stands_more n numbers number s =
    let inside : s.place < length numbers = s.inside in
    let more : length (n ∷ numbers) ≡ suc (length numbers) = refl in record { place = suc s.place; inside = omega arith; is = s.is }

pub stands_first : (n : ℕ) (numbers : List ℕ) → IsAmong (n ∷ numbers) n
stands_first n numbers = let more : length (n ∷ numbers) ≡ suc (length numbers) = refl in record { place = 0; inside = omega arith; is = refl }

pub among_left : (xs ys : List ℕ) (n : ℕ) → IsAmong xs n → IsAmong (xs ++ ys) n
among_left xs ys n s =
    let inside : s.place < length xs = s.inside in
    let long : length (xs ++ ys) ≡ length xs + length ys = length-append xs ys in
    record { place = s.place; inside = omega arith; is = get_or_append_left xs ys 0 s.place inside ∙ s.is }

pub among_right : (xs ys : List ℕ) (n : ℕ) → IsAmong ys n → IsAmong (xs ++ ys) n
among_right xs ys n s =
    let inside : s.place < length ys = s.inside in
    let long : length (xs ++ ys) ≡ length xs + length ys = length-append xs ys in
    record { place = length xs + s.place; inside = omega arith; is = get_or-append-add xs ys s.place 0 ∙ s.is }

pub among_either : (xs ys : List ℕ) (n : ℕ) → IsAmong (xs ++ ys) n → IsAmong xs n ⊎ IsAmong ys n
among_either xs ys n s =
    let inside : s.place < length (xs ++ ys) = s.inside in
    let long : length (xs ++ ys) ≡ length xs + length ys = length-append xs ys in
    ⊎_elim
    (λ (low : s.place < length xs). inl (record { place = s.place; inside = low; is = sym (get_or_append_left xs ys 0 s.place low) ∙ s.is }))
    (λ (high : length xs ≤ s.place).
    let split : length xs + (s.place - length xs) ≡ s.place = omega arith in
    inr (record {
      place = s.place - length xs;
      inside = omega arith;
      is = sym (get_or-append-add xs ys (s.place - length xs) 0) ∙ ap (λ (k : ℕ). get_or (xs ++ ys) k 0) split ∙ s.is;
    }))
    (cases_lt s.place (length xs))

at_place : (m n p : ℕ) → p < length (m ∷ []) → get_or (m ∷ []) p 0 ≡ n → n ≡ m
at_place m n zero inside e = sym e
at_place m n (suc p) inside e = absurd (omega arith)

pub at_one : (m n : ℕ) → IsAmong (m ∷ []) n → n ≡ m
at_one m n s = at_place m n s.place s.inside s.is

pub none_among : (n : ℕ) → IsAmong [] n → ⊥
none_among n s = let inside : s.place < 0 = s.inside in absurd (omega arith)

-- ---- what a list contains

pub stands_from : (numbers : List ℕ) (n : ℕ) → Contains numbers n → IsAmong numbers n
stands_from numbers n has = record { place = has.0; inside = has.1; is = get_or_default numbers has.0 0 n has.1 ∙ has.2 }

pub contains_from : (numbers : List ℕ) (n : ℕ) → IsAmong numbers n → Contains numbers n
contains_from numbers n s = (s.place, s.inside, get_or_default numbers s.place n 0 s.inside ∙ s.is)

-- ---- apart

pub apart_rest : (n : ℕ) (numbers : List ℕ) → AreApart (n ∷ numbers) → AreApart numbers
apart_rest n numbers apart =
    let more : length (n ∷ numbers) ≡ suc (length numbers) = refl in
    record { same = λ j k at_j at_k e. let up : suc j ≡ suc k = apart.same (suc j) (suc k) (omega arith) (omega arith) e in omega arith }

pub apart_first : (n : ℕ) (numbers : List ℕ) → AreApart (n ∷ numbers) → IsAmong numbers n → ⊥
apart_first n numbers apart s =
    let more : length (n ∷ numbers) ≡ suc (length numbers) = refl in
    let inside : s.place < length numbers = s.inside in
    let none : 0 ≡ suc s.place = apart.same 0 (suc s.place) (omega arith) (omega arith) (sym s.is) in omega arith

cases : (n : ℕ) (numbers : List ℕ) → AreApart numbers → (IsAmong numbers n → ⊥) → (j k : ℕ) → j < length (n ∷ numbers) → k < length (n ∷ numbers) →
    get_or (n ∷ numbers) j 0 ≡ get_or (n ∷ numbers) k 0 → j ≡ k
cases n numbers apart none zero zero at_j at_k e = refl
cases n numbers apart none zero (suc k) at_j at_k e =
    let more : length (n ∷ numbers) ≡ suc (length numbers) = refl in absurd (none (record { place = k; inside = omega arith; is = sym e }))
cases n numbers apart none (suc j) zero at_j at_k e =
    let more : length (n ∷ numbers) ≡ suc (length numbers) = refl in absurd (none (record { place = j; inside = omega arith; is = e }))
cases n numbers apart none (suc j) (suc k) at_j at_k e =
    let more : length (n ∷ numbers) ≡ suc (length numbers) = refl in
    let below : j ≡ k = apart.same j k (omega arith) (omega arith) e in omega arith

apart_more : (n : ℕ) (numbers : List ℕ) → AreApart numbers → (IsAmong numbers n → ⊥) → AreApart (n ∷ numbers)
apart_more n numbers apart none = record { same = cases n numbers apart none }

-- ---- apart in two parts

pub apart_parts : (xs ys : List ℕ) → AreApart xs → AreApart ys → ((n : ℕ) → IsAmong xs n → IsAmong ys n → ⊥) → AreApart (xs ++ ys)
apart_parts [] ys apart_x apart_y none = apart_y
apart_parts (x ∷ xs) ys apart_x apart_y none =
    apart_more x (xs ++ ys)
    (apart_parts xs ys (apart_rest x xs apart_x) apart_y (λ n in_x in_y. none n (stands_more x xs n in_x) in_y))
    (λ s.
    ⊎_elim (λ (in_x : IsAmong xs x). apart_first x xs apart_x in_x) (λ (in_y : IsAmong ys x). none x (stands_first x xs) in_y) (among_either xs ys x s))

pub one_alone : (n : ℕ) → AreApart (n ∷ [])
one_alone n = record { same = λ j k at_j at_k e. omega arith }

pub apart_one_more : (numbers : List ℕ) (n : ℕ) → AreApart numbers → (IsAmong numbers n → ⊥) → AreApart (numbers ++ n ∷ [])
apart_one_more numbers n apart none =
    apart_parts numbers (n ∷ []) apart (one_alone n) (λ m in_numbers in_one. none (subst (λ (k : ℕ). IsAmong numbers k) (at_one n m in_one) in_numbers))
