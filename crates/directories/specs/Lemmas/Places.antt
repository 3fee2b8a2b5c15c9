-- How many names are so, where one more is, one less, or the same.
use Rattle.std.proofs.Common.{◌≡◌, ◌≢◌, ◌⊎◌, inl, inr, ℕ, ◌+◌, ◌<◌, ◌≤◌, List, [], ◌∷◌, length, refl, sym, subst, ◌∙◌, ⊎_elim, arith}
use Rattle.directories.specs.Counts.{AreCount, AreDistinct, IsIn, Place}

-- ---- without one of them

abbrev without : (places : List Place) (p : Place) → IsIn places p → List Place
without [] p here = absurd here
without (q ∷ qs) p (inl same) = qs
without (q ∷ qs) p (inr behind) = q ∷ without qs p behind

length-without : (places : List Place) (p : Place) (here : IsIn places p) → length (without places p here) + 1 ≡ length places
length-without [] p here = absurd here
length-without (q ∷ qs) p (inl same) = omega arith
length-without (q ∷ qs) p (inr behind) = let less = length-without qs p behind in omega arith

without_in : (places : List Place) (p : Place) (here : IsIn places p) (r : Place) → IsIn (without places p here) r → IsIn places r
without_in [] p here r inside = absurd here
without_in (q ∷ qs) p (inl same) r inside = inr inside
without_in (q ∷ qs) p (inr behind) r (inl is) = inl is
without_in (q ∷ qs) p (inr behind) r (inr inside) = inr (without_in qs p behind r inside)

without_gone : (places : List Place) (p : Place) (here : IsIn places p) → AreDistinct places → IsIn (without places p here) p → ⊥
without_gone [] p here distinct inside = absurd here
without_gone (q ∷ qs) p (inl same) distinct inside = distinct.0 (subst (λ (r : Place). IsIn qs r) (sym same) inside)
without_gone (q ∷ qs) p (inr behind) distinct (inl same) = distinct.0 (subst (λ (r : Place). IsIn qs r) (sym same) behind)
without_gone (q ∷ qs) p (inr behind) distinct (inr inside) = without_gone qs p behind distinct.1 inside

without_keeps : (places : List Place) (p : Place) (here : IsIn places p) (r : Place) → r ≢ p → IsIn places r → IsIn (without places p here) r
without_keeps [] p here r differ inside = absurd here
without_keeps (q ∷ qs) p (inl same) r differ (inl is) = absurd (differ (sym is ∙ same))
without_keeps (q ∷ qs) p (inl same) r differ (inr inside) = inside
without_keeps (q ∷ qs) p (inr behind) r differ (inl is) = inl is
without_keeps (q ∷ qs) p (inr behind) r differ (inr inside) = inr (without_keeps qs p behind r differ inside)

without_distinct : (places : List Place) (p : Place) (here : IsIn places p) → AreDistinct places → AreDistinct (without places p here)
without_distinct [] p here distinct = absurd here
without_distinct (q ∷ qs) p (inl same) distinct = distinct.1
without_distinct (q ∷ qs) p (inr behind) distinct =
    (λ inside. distinct.0 (without_in qs p behind q inside), without_distinct qs p behind distinct.1)

-- ---- counts

pub count_same : (So Now : Place → Type 0) (n : ℕ) → ((p : Place) → So p → Now p) → ((p : Place) → Now p → So p) → AreCount So n → AreCount Now n
count_same So Now n on back c = record {
  places = c.places;
  many = c.many;
  distinct = c.distinct;
  so = λ p inside. on p (c.so p inside);
  all = λ p now. c.all p (back p now);
}

pub count_more : (So Now : Place → Type 0) (q : Place) (n m : ℕ) → m ≡ n + 1 → (So q → ⊥) → Now q → ((p : Place) → So p → Now p) →
    ((p : Place) → Now p → (q ≡ p) ⊎ So p) → AreCount So n → AreCount Now m
count_more So Now q n m more not now on back c =
    let many : length c.places ≡ n = c.many in
    record {
      places = q ∷ c.places;
      many = omega arith;
      distinct = (λ inside. not (c.so q inside), c.distinct);
      so = λ p inside.
          ⊎_elim (λ (same : q ≡ p). subst Now same now) (λ (behind : IsIn c.places p). on p (c.so p behind)) inside;
      all = λ p is. ⊎_elim (λ (same : q ≡ p). inl same) (λ (was : So p). inr (c.all p was)) (back p is);
    }

pub count_less : (So Now : Place → Type 0) (q : Place) (n m : ℕ) → n ≡ m + 1 → So q → ((p : Place) → p ≢ q → So p → Now p) →
    ((p : Place) → Now p → So p × (p ≢ q)) → AreCount So n → AreCount Now m
count_less So Now q n m less was on back c =
    let here : IsIn c.places q = c.all q was in
    let many : length c.places ≡ n = c.many in
    let one = length-without c.places q here in
    record {
      places = without c.places q here;
      many = omega arith;
      distinct = without_distinct c.places q here c.distinct;
      so = λ p inside.
          on p (λ same. without_gone c.places q here c.distinct (subst (λ (r : Place). IsIn (without c.places q here) r) same inside))
          (c.so p (without_in c.places q here p inside));
      all = λ p now. without_keeps c.places q here p (back p now).1 (c.all p (back p now).0);
    }

pub count_none : (So : Place → Type 0) → ((p : Place) → So p → ⊥) → AreCount So 0
count_none So not = record {
  places = [];
  many = refl;
  distinct = tt;
  so = λ p inside. absurd inside;
  all = λ p so. absurd (not p so);
}

in_some : (places : List Place) (p : Place) → IsIn places p → 0 < length places
in_some [] p inside = absurd inside
in_some (q ∷ qs) p inside = omega arith

pub count_some : (So : Place → Type 0) (p : Place) (n : ℕ) → So p → AreCount So n → 0 < n
count_some So p n so c = let many : length c.places ≡ n = c.many in let some = in_some c.places p (c.all p so) in omega arith

in_one : (places : List Place) (p q : Place) → length places ≡ 1 → IsIn places p → IsIn places q → p ≡ q
in_one [] p q one at_p at_q = absurd at_p
in_one (r ∷ []) p q one (inl is_p) (inl is_q) = sym is_p ∙ is_q
in_one (r ∷ []) p q one (inl is_p) (inr at_q) = absurd at_q
in_one (r ∷ []) p q one (inr at_p) at_q = absurd at_p
in_one (r ∷ s ∷ rest) p q one at_p at_q = absurd (omega arith)

pub count_one : (So : Place → Type 0) (p q : Place) → So p → So q → AreCount So 1 → p ≡ q
count_one So p q so_p so_q c = in_one c.places p q c.many (c.all p so_p) (c.all q so_q)

other_in : (places : List Place) (p : Place) → 2 ≤ length places → AreDistinct places → IsIn places p → (q : Place) × IsIn places q × (q ≢ p)
other_in [] p two distinct inside = absurd inside
other_in (r ∷ []) p two distinct inside = absurd (omega arith)
other_in (r ∷ s ∷ rest) p two distinct (inl is) = (s, inr (inl refl), λ same. distinct.0 (inl (same ∙ sym is)))
other_in (r ∷ s ∷ rest) p two distinct (inr behind) =
    (r, inl refl, λ same. distinct.0 (subst (λ (q : Place). IsIn (s ∷ rest) q) (sym same) behind))

pub count_other : (So : Place → Type 0) (p : Place) (n : ℕ) → 2 ≤ n → So p → AreCount So n → (q : Place) × So q × (q ≢ p)
count_other So p n two so c =
    let many : length c.places ≡ n = c.many in
    let other = other_in c.places p (omega arith) c.distinct (c.all p so) in (other.0, c.so other.0 other.1, other.2)

-- names that stand among others are no more
in_fewer : (places others : List Place) → AreDistinct places → ((p : Place) → IsIn places p → IsIn others p) → length places ≤ length others
in_fewer [] others distinct among = omega arith
in_fewer (q ∷ qs) others distinct among =
    let here : IsIn others q = among q (inl refl) in
    let one = length-without others q here in
    let fewer = in_fewer qs (without others q here) distinct.1
    (λ p inside. without_keeps others q here p (λ same. distinct.0 (subst (λ (r : Place). IsIn qs r) same inside)) (among p (inr inside))) in omega arith

pub count_unique : (So : Place → Type 0) (n m : ℕ) → AreCount So n → AreCount So m → n ≡ m
count_unique So n m a b =
    let many : length a.places ≡ n = a.many in
    let many_b : length b.places ≡ m = b.many in
    let low = in_fewer a.places b.places a.distinct (λ p inside. b.all p (a.so p inside)) in
    let high = in_fewer b.places a.places b.distinct (λ p inside. a.all p (b.so p inside)) in omega arith
