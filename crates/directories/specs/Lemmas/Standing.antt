-- Where the first entry that passes a test stands, and what the write of one entry makes of that.
use Rattle.std.proofs.Common.{◌≡◌, ◌≢◌, ℕ, ◌<◌, ◌≤◌, Bool, true, false, cond, ltb, List, [], length, get_or, Option, Some, None, refl, sym, ap, subst, ◌∙◌, ⊎_elim, arith}
use Rattle.std.specs.List.{position, position_or_len}
use Rattle.std.specs.Option.{option_map}
use Rattle.std.proofs.lemmas.Bool.{lt-ltb, le-ltb, cond-true, cond-false, cases_lt, cases_eq, both_ways, false_from_ne_true}
use Rattle.std.proofs.lemmas.List.Sums.{position_or_len_is, fails_before_first}
use Rattle.std.proofs.lemmas.List.Quantifiers.{position-Some}
use Rattle.directories.specs.Entries.{entries_of, name_in, number_in, is_for, is_free, lookup, AreNamed, HasOnce, IsFor, IsProper}

-- place k has the first entry that passes
pub record StandsAt (p : List ℕ → Bool) (es : List (List ℕ)) (k : ℕ) : Type 0 where
  pub within : k < length es
  pub passes : p (get_or es k []) ≡ true
  pub first : (j : ℕ) → j < k → p (get_or es j []) ≡ false

-- no entry passes
abbrev pub NoneStands : (List ℕ → Bool) → List (List ℕ) → Type 0
NoneStands p es = (j : ℕ) → j < length es → p (get_or es j []) ≡ false

place_is : (n k m : ℕ) → n ≡ k → k < m → cond (ltb n m) (Some n) None ≡ Some k
place_is n k m e h = cond-true (ltb n m) (Some n) None (lt-ltb n m (omega arith)) ∙ ap (λ (i : ℕ). Some i) e

place_is_none : (n m : ℕ) → n ≡ m → cond (ltb n m) (Some n) None ≡ None
place_is_none n m e = cond-false (ltb n m) (Some n) None (le-ltb n m (omega arith))

pub none_is_past : (n m : ℕ) → cond (ltb n m) (Some n) None ≡ None → m ≤ n
none_is_past n m e =
    ⊎_elim (λ (lt : n < m). let both : Some n ≡ None = sym (cond-true (ltb n m) (Some n) None (lt-ltb n m lt)) ∙ e in absurd (cc both))
    (λ (le : m ≤ n). le) (cases_lt n m)

pub position_at : (p : List ℕ → Bool) (es : List (List ℕ)) (k : ℕ) → StandsAt p es k → position p es ≡ Some k
position_at p es k at =
    let within : k < length es = at.within in
    let first : position_or_len p es ≡ k = position_or_len_is p es k [] (omega arith) at.first (λ h. at.passes) in
    place_is (position_or_len p es) k (length es) first within

pub position_none : (p : List ℕ → Bool) (es : List (List ℕ)) → NoneStands p es → position p es ≡ None
position_none p es none =
    let first : position_or_len p es ≡ length es = position_or_len_is p es (length es) [] (omega arith) none (λ h. absurd (omega arith)) in
    place_is_none (position_or_len p es) (length es) first

pub stands_at : (p : List ℕ → Bool) (es : List (List ℕ)) (k : ℕ) → position p es ≡ Some k → StandsAt p es k
stands_at p es k e = let is = position-Some p es k [] e in record { within = is.0; passes = is.1; first = is.2 }

pub none_stands : (p : List ℕ → Bool) (es : List (List ℕ)) → position p es ≡ None → NoneStands p es
none_stands p es e j h =
    let past : length es ≤ position_or_len p es = none_is_past (position_or_len p es) (length es) e in
    fails_before_first p es j [] (omega arith)

-- the new entries are the old ones but for that at one place, which may be behind the last
pub record Puts (es new : List (List ℕ)) (place : ℕ) (entry : List ℕ) : Type 0 where
  pub within : place < length new
  pub there : get_or new place [] ≡ entry
  pub others : (j : ℕ) → j < length es → j ≢ place → get_or new j [] ≡ get_or es j []
  pub more : (j : ℕ) → j < length new → j ≢ place → j < length es
  pub fewer : (j : ℕ) → j < length es → j < length new

-- the new entry is the first that passes
pub puts_first : (p : List ℕ → Bool) (es new : List (List ℕ)) (place : ℕ) (entry : List ℕ) → Puts es new place entry →
    p entry ≡ true → NoneStands p es → StandsAt p new place
puts_first p es new place entry puts good none = record {
  within = puts.within;
  passes = ap p puts.there ∙ good;
  first = λ j below.
      let within : place < length new = puts.within in
      let apart : j ≢ place = λ same. omega arith in
      let old : j < length es = puts.more j (omega arith) apart in
      ap p (puts.others j old apart) ∙ none j old;
}

puts_false : (p : List ℕ → Bool) (es new : List (List ℕ)) (place : ℕ) (entry : List ℕ) → Puts es new place entry → p entry ≡ false →
    (j : ℕ) → (j ≢ place → p (get_or new j []) ≡ false) → p (get_or new j []) ≡ false
puts_false p es new place entry puts fails j other =
    ⊎_elim (λ (e : j ≡ place). ap (λ (i : ℕ). p (get_or new i [])) e ∙ ap p puts.there ∙ fails) other (cases_eq j place)

-- where the new entry doesn't pass, the first that does stays, and so does that there is none
pub puts_keeps : (p : List ℕ → Bool) (es new : List (List ℕ)) (place : ℕ) (entry : List ℕ) → Puts es new place entry → p entry ≡ false →
    (k : ℕ) → k ≢ place → StandsAt p es k → StandsAt p new k
puts_keeps p es new place entry puts fails k apart at = record {
  within = puts.fewer k at.within;
  passes = ap p (puts.others k at.within apart) ∙ at.passes;
  first = λ j below.
      let within : k < length es = at.within in
      puts_false p es new place entry puts fails j (λ ne. ap p (puts.others j (omega arith) ne) ∙ at.first j below);
}

pub puts_none : (p : List ℕ → Bool) (es new : List (List ℕ)) (place : ℕ) (entry : List ℕ) → Puts es new place entry → p entry ≡ false →
    NoneStands p es → NoneStands p new
puts_none p es new place entry puts fails none j inside =
    puts_false p es new place entry puts fails j
    (λ ne. let old : j < length es = puts.more j inside ne in ap p (puts.others j old ne) ∙ none j old)

-- ---- where names lead

pub lookup_at : (bytes name : List ℕ) (k : ℕ) → StandsAt (is_for name) (entries_of bytes) k →
    lookup bytes name ≡ Some (number_in (get_or (entries_of bytes) k []))
unfolding lookup
lookup_at bytes name k at =
    ap (λ (o : Option ℕ). option_map (λ (i : ℕ). number_in (get_or (entries_of bytes) i [])) o)
    (position_at (is_for name) (entries_of bytes) k at)

pub lookup_none : (bytes name : List ℕ) → NoneStands (is_for name) (entries_of bytes) → lookup bytes name ≡ None
unfolding lookup
lookup_none bytes name none =
    ap (λ (o : Option ℕ). option_map (λ (i : ℕ). number_in (get_or (entries_of bytes) i [])) o)
    (position_none (is_for name) (entries_of bytes) none)

map_none : (f : ℕ → ℕ) (o : Option ℕ) → option_map f o ≡ None → o ≡ None
map_none f None h = refl
map_none f (Some k) h = absurd (cc h)

pub none_from_lookup : (bytes name : List ℕ) → lookup bytes name ≡ None → NoneStands (is_for name) (entries_of bytes)
unfolding lookup
none_from_lookup bytes name e =
    none_stands (is_for name) (entries_of bytes)
    (map_none (λ (i : ℕ). number_in (get_or (entries_of bytes) i [])) (position (is_for name) (entries_of bytes)) e)

lookup_same_by : (bytes new name : List ℕ) (place : ℕ) (entry : List ℕ) → Puts (entries_of bytes) (entries_of new) place entry →
    is_for name entry ≡ false →
    (place < length (entries_of bytes) → is_for name (get_or (entries_of bytes) place []) ≡ false) →
    (o : Option ℕ) → position (is_for name) (entries_of bytes) ≡ o → lookup new name ≡ lookup bytes name
lookup_same_by bytes new name place entry puts fails old None e =
    let none = none_stands (is_for name) (entries_of bytes) e in
    lookup_none new name (puts_none (is_for name) (entries_of bytes) (entries_of new) place entry puts fails none)
    ∙ sym (lookup_none bytes name none)
lookup_same_by bytes new name place entry puts fails old (Some k) e =
    let at = stands_at (is_for name) (entries_of bytes) k e in
    let within : k < length (entries_of bytes) = at.within in
    let apart : k ≢ place =
    λ same. both_ways (is_for name (get_or (entries_of bytes) place [])) (old (omega arith))
    (ap (λ (i : ℕ). is_for name (get_or (entries_of bytes) i [])) (sym same) ∙ at.passes) in
    lookup_at new name k (puts_keeps (is_for name) (entries_of bytes) (entries_of new) place entry puts fails k apart at)
    ∙ ap (λ (l : List ℕ). Some (number_in l)) (puts.others k within apart)
    ∙ sym (lookup_at bytes name k at)

-- a name leads where it led, if neither the old entry nor the new one has it
pub lookup_same : (bytes new name : List ℕ) (place : ℕ) (entry : List ℕ) → Puts (entries_of bytes) (entries_of new) place entry →
    is_for name entry ≡ false →
    (place < length (entries_of bytes) → is_for name (get_or (entries_of bytes) place []) ≡ false) →
    lookup new name ≡ lookup bytes name
lookup_same bytes new name place entry puts fails old =
    lookup_same_by bytes new name place entry puts fails old (position (is_for name) (entries_of bytes)) refl

-- ---- names that stand once

for_before : (bytes new name : List ℕ) (place : ℕ) (entry : List ℕ) → Puts (entries_of bytes) (entries_of new) place entry →
    (j : ℕ) → j ≢ place → IsFor new name j → IsFor bytes name j
for_before bytes new name place entry puts j ne is =
    let old = puts.more j is.0 ne in (old, ap (is_for name) (sym (puts.others j old ne)) ∙ is.1)

-- another entry than the new one, which hasn't the name
not_there : (bytes new name : List ℕ) (place : ℕ) (entry : List ℕ) → Puts (entries_of bytes) (entries_of new) place entry →
    is_for name entry ≡ false → (j : ℕ) → IsFor new name j → j ≢ place
not_there bytes new name place entry puts fails j is same =
    both_ways (is_for name (get_or (entries_of new) j []))
    (ap (λ (i : ℕ). is_for name (get_or (entries_of new) i [])) same ∙ ap (is_for name) puts.there ∙ fails) is.1

pub once_keeps : (bytes new name : List ℕ) (place : ℕ) (entry : List ℕ) → Puts (entries_of bytes) (entries_of new) place entry →
    is_for name entry ≡ false → HasOnce bytes name → HasOnce new name
once_keeps bytes new name place entry puts fails once = record {
  same = λ j k at_j at_k.
      once.same j k (for_before bytes new name place entry puts j (not_there bytes new name place entry puts fails j at_j) at_j)
      (for_before bytes new name place entry puts k (not_there bytes new name place entry puts fails k at_k) at_k);
}

is_there : (bytes new name : List ℕ) (place : ℕ) (entry : List ℕ) → Puts (entries_of bytes) (entries_of new) place entry →
    NoneStands (is_for name) (entries_of bytes) → (j : ℕ) → IsFor new name j → j ≡ place
is_there bytes new name place entry puts none j is =
    ⊎_elim (λ (e : j ≡ place). e)
    (λ (ne : j ≢ place). let old = for_before bytes new name place entry puts j ne is in
    absurd (both_ways (is_for name (get_or (entries_of bytes) j [])) (none j old.0) old.1)) (cases_eq j place)

pub once_first : (bytes new name : List ℕ) (place : ℕ) (entry : List ℕ) → Puts (entries_of bytes) (entries_of new) place entry →
    NoneStands (is_for name) (entries_of bytes) → HasOnce new name
once_first bytes new name place entry puts none = record {
  same = λ j k at_j at_k. is_there bytes new name place entry puts none j at_j ∙ sym (is_there bytes new name place entry puts none k at_k);
}

-- the one entry of a name is replaced
pub once_gone : (bytes new name : List ℕ) (place : ℕ) (entry : List ℕ) → Puts (entries_of bytes) (entries_of new) place entry →
    is_for name entry ≡ false → HasOnce bytes name → StandsAt (is_for name) (entries_of bytes) place →
    NoneStands (is_for name) (entries_of new)
once_gone bytes new name place entry puts fails once at j inside =
    false_from_ne_true (is_for name (get_or (entries_of new) j []))
    (λ good. let ne = not_there bytes new name place entry puts fails j (inside, good) in
    ne (once.same j place (for_before bytes new name place entry puts j ne (inside, good)) (at.within, at.passes)))

-- ---- names of entries

pub named_keeps : (es new : List (List ℕ)) (place : ℕ) (entry : List ℕ) → Puts es new place entry →
    (is_free entry ≡ false → IsProper (name_in entry)) → AreNamed es → AreNamed new
named_keeps es new place entry puts here named j inside =
    ⊎_elim
    (λ (e : j ≡ place).
    subst (λ (l : List ℕ). is_free l ≡ false → IsProper (name_in l)) (sym (ap (λ (i : ℕ). get_or new i []) e ∙ puts.there)) here)
    (λ (ne : j ≢ place).
    let old = puts.more j inside ne in
    subst (λ (l : List ℕ). is_free l ≡ false → IsProper (name_in l)) (sym (puts.others j old ne)) (named j old))
    (cases_eq j place)
