-- The numbers of a directory's first entries are added behind others.
use Rattle.std.proofs.Common.{◌≡◌, ◌≢◌, ◌⊎◌, inl, inr, ℕ, ◌+◌, ◌<◌, true, List, [], ◌∷◌, ◌++◌, length, get_or, replicate, sym, ap, subst, ◌∙◌, ⊎_elim, arith}
use Rattle.std.proofs.lemmas.List.{append_assoc, append-nil, length-append, replicate_more}
use Rattle.directories.specs.Checks.{AddsChild, AddsFirst, AreApart, HasEntry, HasTwice, IsAmong, LeadsAt}
use Rattle.directories.specs.Entries.{number_in}
use Rattle.directories.specs.Trees.{leads_down}
use Rattle.directories.specs.Lemmas.FoundNext.{at_last}
use Rattle.directories.specs.Lemmas.Apart.{among_either, among_left, among_right, apart_one_more, at_one, none_among, stands_first}

pub added_none : (entries : List (List ℕ)) (from : ℕ) (numbers parents again : List ℕ) → AreApart numbers →
    AddsFirst entries from numbers parents again 0 numbers parents again
added_none entries from numbers parents again apart = record {
  more = [];
  numbers_are = sym (append-nil numbers);
  parents_are = sym (append-nil parents);
  apart = apart;
  lead = λ n s. absurd (none_among n s);
  each = λ j n low. absurd (omega arith);
  pairs = λ i j n low. absurd (omega arith);
  kept = λ n s. s;
  twice = λ n s. inl s;
}

-- ---- one entry more

entry_later : (entries : List (List ℕ)) (k n : ℕ) → HasEntry entries k n → HasEntry entries (k + 1) n
entry_later entries k n has =
    let low : has.place < k = has.inside in record { place = has.place; inside = omega arith; leads = has.leads }

twice_later : (entries : List (List ℕ)) (k : ℕ) (numbers : List ℕ) (n : ℕ) → HasTwice entries k numbers n → HasTwice entries (k + 1) numbers n
twice_later entries k numbers n has =
    let low : has.place < k = has.inside in
    record {
      place = has.place;
      inside = omega arith;
      leads = has.leads;
      again =
          ⊎_elim (λ (before : IsAmong numbers n). inl before)
          (λ (o : (other : ℕ) × (other < k) × (other ≢ has.place) × LeadsAt entries other n).
          let below : o.0 < k = o.1 in inr (o.0, omega arith, o.2, o.3)) has.again;
    }

module _ (entries : List (List ℕ)) (from : ℕ) (numbers parents again : List ℕ) (k : ℕ) (now up rest : List ℕ)
    (added : AddsFirst entries from numbers parents again k now up rest) where
  -- an entry that leads nowhere down
  module _ (none : leads_down (get_or entries k []) ≡ true → ⊥) where
    not_here : (j n : ℕ) → j ≡ k → LeadsAt entries j n → ⊥
    not_here j n same leads = none (subst (λ (i : ℕ). leads_down (get_or entries i []) ≡ true) same leads.0)

    pub added_same : AddsFirst entries from numbers parents again (k + 1) now up rest
    added_same = record {
      more = added.more;
      numbers_are = added.numbers_are;
      parents_are = added.parents_are;
      apart = added.apart;
      lead = λ n s. entry_later entries k n (added.lead n s);
      each = λ j n low leads.
          ⊎_elim (λ (before : j < k). added.each j n before leads) (λ (same : j ≡ k). absurd (not_here j n same leads)) (at_last j k low);
      pairs = λ i j n low_i low_j leads_i leads_j.
          ⊎_elim
          (λ (before_i : i < k).
          ⊎_elim (λ (before_j : j < k). added.pairs i j n before_i before_j leads_i leads_j) (λ (same : j ≡ k). absurd (not_here j n same leads_j))
          (at_last j k low_j))
          (λ (same : i ≡ k). absurd (not_here i n same leads_i)) (at_last i k low_i);
      kept = added.kept;
      twice = λ n s.
          ⊎_elim (λ (before : IsAmong again n). inl before)
          (λ (t : IsAmong now n × HasTwice entries k numbers n). inr (t.0, twice_later entries k numbers n t.1)) (added.twice n s);
    }

  -- an entry that leads down to a number
  module _ (number : ℕ) (down : leads_down (get_or entries k []) ≡ true) (is : number ≡ number_in (get_or entries k [])) where
    here : LeadsAt entries k number
    here = (down, sym is)

    number_at : (j n : ℕ) → j ≡ k → LeadsAt entries j n → n ≡ number
    number_at j n same leads = sym leads.1 ∙ ap (λ (i : ℕ). number_in (get_or entries i [])) same ∙ sym is

    added_entry : HasEntry entries (k + 1) number
    added_entry = record { place = k; inside = omega arith; leads = here }

    -- a number that was found before the directory, or by an entry of it
    seen_before : IsAmong now number → IsAmong numbers number ⊎ HasEntry entries k number
    seen_before s =
        ⊎_elim (λ (before : IsAmong numbers number). inl before) (λ (new : IsAmong added.more number). inr (added.lead number new))
        (among_either numbers added.more number (subst (λ (l : List ℕ). IsAmong l number) added.numbers_are s))

    found_twice : IsAmong now number → HasTwice entries (k + 1) numbers number
    found_twice s = record {
      place = k;
      inside = omega arith;
      leads = here;
      again =
          ⊎_elim (λ (before : IsAmong numbers number). inl before)
          (λ (has : HasEntry entries k number).
          let low : has.place < k = has.inside in
          inr (has.place, omega arith, λ same. absurd (omega (arith, low, same)), has.leads)) (seen_before s);
    }

    -- it was found again
    module _ (known : IsAmong now number) where
      in_rest : IsAmong (rest ++ number ∷ []) number
      in_rest = among_right rest (number ∷ []) number (stands_first number [])

      in_rest_at : (j n : ℕ) → j ≡ k → LeadsAt entries j n → IsAmong (rest ++ number ∷ []) n
      in_rest_at j n same leads = subst (λ (i : ℕ). IsAmong (rest ++ number ∷ []) i) (sym (number_at j n same leads)) in_rest

      added_again : AddsFirst entries from numbers parents again (k + 1) now up (rest ++ number ∷ [])
      added_again = record {
        more = added.more;
        numbers_are = added.numbers_are;
        parents_are = added.parents_are;
        apart = added.apart;
        lead = λ n s. entry_later entries k n (added.lead n s);
        each = λ j n low leads.
            ⊎_elim
            (λ (before : j < k).
            ⊎_elim (λ (new : IsAmong added.more n). inl new) (λ (s : IsAmong rest n). inr (among_left rest (number ∷ []) n s))
            (added.each j n before leads))
            (λ (same : j ≡ k). inr (in_rest_at j n same leads)) (at_last j k low);
        pairs = λ i j n low_i low_j leads_i leads_j.
            ⊎_elim
            (λ (before_i : i < k).
            ⊎_elim
            (λ (before_j : j < k).
            ⊎_elim (λ (one : i ≡ j). inl one) (λ (s : IsAmong rest n). inr (among_left rest (number ∷ []) n s))
            (added.pairs i j n before_i before_j leads_i leads_j))
            (λ (same : j ≡ k). inr (in_rest_at j n same leads_j)) (at_last j k low_j))
            (λ (same : i ≡ k). inr (in_rest_at i n same leads_i)) (at_last i k low_i);
        kept = λ n s. among_left rest (number ∷ []) n (added.kept n s);
        twice = λ n s.
            ⊎_elim
            (λ (old : IsAmong rest n).
            ⊎_elim (λ (before : IsAmong again n). inl before)
            (λ (t : IsAmong now n × HasTwice entries k numbers n). inr (t.0, twice_later entries k numbers n t.1)) (added.twice n old))
            (λ (one : IsAmong (number ∷ []) n).
            let same : n ≡ number = at_one number n one in
            inr (
              subst (λ (i : ℕ). IsAmong now i) (sym same) known,
              subst (λ (i : ℕ). HasTwice entries (k + 1) numbers i) (sym same) (found_twice known),
            ))
            (among_either rest (number ∷ []) n s);
      }

    -- it is new
    module _ (fresh : IsAmong now number → ⊥) where
      in_more : (j n : ℕ) → j ≡ k → LeadsAt entries j n → IsAmong (added.more ++ number ∷ []) n
      in_more j n same leads =
          subst (λ (i : ℕ). IsAmong (added.more ++ number ∷ []) i) (sym (number_at j n same leads))
          (among_right added.more (number ∷ []) number (stands_first number []))

      -- no entry before led to it
      none_before : (j n : ℕ) → j < k → n ≡ number → LeadsAt entries j n → IsAmong rest n
      none_before j n low same leads =
          ⊎_elim
          (λ (new : IsAmong added.more n).
          absurd (fresh (subst (λ (l : List ℕ). IsAmong l number) (sym added.numbers_are)
          (among_right numbers added.more number (subst (λ (i : ℕ). IsAmong added.more i) same new)))))
          (λ (s : IsAmong rest n). s) (added.each j n low leads)

      added_new : AddsFirst entries from numbers parents again (k + 1) (now ++ number ∷ []) (up ++ from ∷ []) rest
      added_new =
          let count : length (added.more ++ number ∷ []) ≡ length added.more + 1 = length-append added.more (number ∷ []) in
          record {
            more = added.more ++ number ∷ [];
            numbers_are = ap (λ (l : List ℕ). l ++ number ∷ []) added.numbers_are ∙ append_assoc numbers added.more (number ∷ []);
            parents_are = ap (λ (l : List ℕ). l ++ from ∷ []) added.parents_are ∙ append_assoc parents (replicate (length added.more) from) (from ∷ [])
                ∙ ap (λ (l : List ℕ). parents ++ l) (replicate_more (length added.more) from) ∙ ap (λ (n : ℕ). parents ++ replicate n from) (sym count);
            apart = apart_one_more now number added.apart fresh;
            lead = λ n s.
                ⊎_elim (λ (old : IsAmong added.more n). entry_later entries k n (added.lead n old))
                (λ (one : IsAmong (number ∷ []) n). subst (λ (i : ℕ). HasEntry entries (k + 1) i) (sym (at_one number n one)) added_entry)
                (among_either added.more (number ∷ []) n s);
            each = λ j n low leads.
                ⊎_elim
                (λ (before : j < k).
                ⊎_elim (λ (new : IsAmong added.more n). inl (among_left added.more (number ∷ []) n new)) (λ (s : IsAmong rest n). inr s)
                (added.each j n before leads))
                (λ (same : j ≡ k). inl (in_more j n same leads)) (at_last j k low);
            pairs = λ i j n low_i low_j leads_i leads_j.
                ⊎_elim
                (λ (before_i : i < k).
                ⊎_elim (λ (before_j : j < k). added.pairs i j n before_i before_j leads_i leads_j)
                (λ (same : j ≡ k). inr (none_before i n before_i (number_at j n same leads_j) leads_i)) (at_last j k low_j))
                (λ (same_i : i ≡ k).
                ⊎_elim (λ (before_j : j < k). inr (none_before j n before_j (number_at i n same_i leads_i) leads_j))
                (λ (same : j ≡ k). inl (same_i ∙ sym same)) (at_last j k low_j)) (at_last i k low_i);
            kept = added.kept;
            twice = λ n s.
                ⊎_elim (λ (before : IsAmong again n). inl before)
                (λ (t : IsAmong now n × HasTwice entries k numbers n).
                inr (among_left now (number ∷ []) n t.0, twice_later entries k numbers n t.1)) (added.twice n s);
          }

    pub added_child : (next next_up next_rest : List ℕ) → AddsChild number from now up rest next next_up next_rest →
        AddsFirst entries from numbers parents again (k + 1) next next_up next_rest
    added_child next next_up next_rest (inl new) =
        subst (λ (l : List ℕ). AddsFirst entries from numbers parents again (k + 1) l next_up next_rest) (sym new.1)
        (subst (λ (l : List ℕ). AddsFirst entries from numbers parents again (k + 1) (now ++ number ∷ []) l next_rest) (sym new.2)
        (subst (λ (l : List ℕ). AddsFirst entries from numbers parents again (k + 1) (now ++ number ∷ []) (up ++ from ∷ []) l) (sym new.3) (added_new new.0)))
    added_child next next_up next_rest (inr old) =
        subst (λ (l : List ℕ). AddsFirst entries from numbers parents again (k + 1) l next_up next_rest) (sym old.1)
        (subst (λ (l : List ℕ). AddsFirst entries from numbers parents again (k + 1) now l next_rest) (sym old.2)
        (subst (λ (l : List ℕ). AddsFirst entries from numbers parents again (k + 1) now up l) (sym old.3) (added_again old.0)))
