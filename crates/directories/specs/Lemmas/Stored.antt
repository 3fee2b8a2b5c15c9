-- A name as its entry has it.
use Rattle.std.proofs.Common.{◌≡◌, ◌≢◌, ℕ, zero, suc, ◌+◌, ◌-◌, ◌<◌, ◌≤◌, cond, eqb, ltb, Some, None, List, [], ◌∷◌, ◌++◌, length, take, replicate, get_or, refl, sym, ap, ◌∙◌, ⊎_elim, arith}
use Rattle.std.specs.List.{Contains, position, position_or_len}
use Rattle.std.proofs.lemmas.Bool.{cases_lt, cond-false, cond-true, le-ltb, lt-ltb, ne_eqb}
use Rattle.std.proofs.lemmas.List.{get_or-append-add, get_or_append_left, length-append, length-replicate, take_all, take_at}
use Rattle.std.proofs.lemmas.List.Elements.{Contains-append_cases}
use Rattle.std.proofs.lemmas.List.Sums.{position_or_len_is}
use Rattle.directories.specs.Entries.{name_size, padded, slash, text_of, IsStored}
use Rattle.directories.specs.Names.{IsName}
use Rattle.directories.specs.Trees.{parent_name, self_name}
use Rattle.directories.specs.Lemmas.Standing.{none_is_past}

-- ---- the text, by the first zero

some_is : (n m k : ℕ) → cond (ltb n m) (Some n) None ≡ Some k → n ≡ k
some_is n m k e =
    ⊎_elim (λ (lt : n < m). let both : Some n ≡ Some k = sym (cond-true (ltb n m) (Some n) None (lt-ltb n m lt)) ∙ e in cc both)
    (λ (le : m ≤ n). let both : None ≡ Some k = sym (cond-false (ltb n m) (Some n) None (le-ltb n m le)) ∙ e in absurd (cc both)) (cases_lt n m)

pub text_some : (name : List ℕ) (end : ℕ) → position (λ byte. eqb byte 0) name ≡ Some end → text_of name ≡ take end name
text_some name end e = ap (λ (k : ℕ). take k name) (some_is (position_or_len (λ byte. eqb byte 0) name) (length name) end e)

pub text_none : (name : List ℕ) → position (λ byte. eqb byte 0) name ≡ None → text_of name ≡ name
text_none name e = take_all (position_or_len (λ byte. eqb byte 0) name) name (none_is_past (position_or_len (λ byte. eqb byte 0) name) (length name) e)

-- ---- zeroes behind it

zero_first : (n : ℕ) → ◌≡◌ {A = ℕ} (get_or (replicate n 0) 0 0) 0
zero_first zero = refl
zero_first (suc n) = refl

-- zeroes behind bytes of which none is zero are left out again
text_padded : (text : List ℕ) (n : ℕ) → (Contains text 0 → ⊥) → text_of (text ++ replicate n 0) ≡ text
text_padded text n whole =
    let rest : List ℕ = replicate n 0 in
    let long = length-append text rest in
    let end : position_or_len (λ c. eqb c 0) (text ++ rest) ≡ length text =
    position_or_len_is (λ c. eqb c 0) (text ++ rest) (length text) 0 (omega arith)
    (λ k below. ap (λ c. eqb c 0) (get_or_append_left text rest 0 k below) ∙ ne_eqb (get_or text k 0) 0 (λ none. whole (k, below, none)))
    (λ past.
    let at : length text ≡ length text + 0 = omega arith in
    ap (λ c. eqb c 0) (ap (λ k. get_or (text ++ rest) k 0) at ∙ get_or-append-add text rest 0 0 ∙ zero_first n)) in
    ap (λ k. take k (text ++ rest)) end ∙ take_at text rest (length text) refl

-- zeroes are no slash
zeroes_bare : (n : ℕ) → Contains (replicate n 0) slash → ⊥
zeroes_bare zero has = let inside : has.0 < 0 = has.1 in absurd (omega arith)
zeroes_bare (suc n) (zero, inside, is) = absurd (cc is)
zeroes_bare (suc n) (suc k, inside, is) = zeroes_bare n (k, omega (arith, inside), is)

no_slash_padded : (text : List ℕ) (n : ℕ) → (Contains text slash → ⊥) → Contains (text ++ replicate n 0) slash → ⊥
no_slash_padded text n none has = ⊎_elim none (zeroes_bare n) (Contains-append_cases text (replicate n 0) slash has)

first_padded : (text : List ℕ) → IsName text → get_or (padded text) 0 0 ≢ 0
first_padded [] name is = name.some refl
first_padded (b ∷ bs) name is = name.whole (0, omega arith, is)

pub stored_padded : (text : List ℕ) → IsName text → IsStored (padded text)
stored_padded text name =
    let few : length text ≤ 14 = name.few in
    let long = length-append text (replicate (name_size - length text) 0) in
    let zeroes = length-replicate {A = ℕ} (name_size - length text) 0 in
    record {
      size = omega arith;
      whole = ap padded (text_padded text (name_size - length text) name.whole);
      proper = record { some = first_padded text name; no_slash = no_slash_padded text (name_size - length text) name.no_slash };
    }

one_dot : (c : ℕ) → 46 ≢ c → Contains (46 ∷ []) c → ⊥
one_dot c ne (zero, inside, is) = ne is
one_dot c ne (suc k, inside, is) = absurd (omega (arith, inside))

two_dots : (c : ℕ) → 46 ≢ c → Contains (46 ∷ 46 ∷ []) c → ⊥
two_dots c ne (zero, inside, is) = ne is
two_dots c ne (suc zero, inside, is) = ne is
two_dots c ne (suc (suc k), inside, is) = absurd (omega (arith, inside))

pub self_is_stored : IsStored self_name
self_is_stored = stored_padded (46 ∷ []) (record {
  some = λ e. absurd (cc e);
  few = omega arith;
  whole = one_dot 0 (λ e. absurd (cc e));
  no_slash = one_dot slash (λ e. absurd (cc e));
})

pub parent_is_stored : IsStored parent_name
parent_is_stored = stored_padded (46 ∷ 46 ∷ []) (record {
  some = λ e. absurd (cc e);
  few = omega arith;
  whole = two_dots 0 (λ e. absurd (cc e));
  no_slash = two_dots slash (λ e. absurd (cc e));
})
