-- What one name more, or one less, makes of how many names lead to a number.
use Rattle.std.proofs.Common.{◌≡◌, ◌≢◌, ◌⊎◌, inl, inr, ℕ, ◌+◌, List, sym, ap, ap₂, subst, ⊎_elim, arith}
use Rattle.directories.specs.Counts.{AreCount, Place}
use Rattle.directories.specs.Trees.{self_name}
use Rattle.directories.specs.Lemmas.Moving.{same_entry, IsOther}
use Rattle.directories.specs.Lemmas.Places.{count_less, count_more, count_same}

-- from where by which name to what
abbrev pub Lead : Type 1
Lead = ℕ → List ℕ → ℕ → Type 0

-- a name that counts leads there
abbrev pub IsNameBy : Lead → ℕ → Place → Type 0
IsNameBy S number place = (place.1 ≢ self_name) × S place.0 place.1 number

abbrev pub HasBy : Lead → ℕ → ℕ → Type 0
HasBy S number count = AreCount (IsNameBy S number) count

-- Each other name leads where it led.
pub record Keeps (S T : Lead) (at : ℕ) (name : List ℕ) : Type 0 where
  pub on : (i number : ℕ) (other : List ℕ) → other ≢ self_name → IsOther i other at name → S i other number → T i other number
  pub back : (i number : ℕ) (other : List ℕ) → other ≢ self_name → IsOther i other at name → T i other number → S i other number

-- A name leads to a number that led nowhere.
pub record Appears (S T : Lead) (at : ℕ) (name : List ℕ) (number : ℕ) : Type 0 where
  pub keeps : Keeps S T at name
  pub counts : name ≢ self_name
  pub none : (m : ℕ) → S at name m → ⊥
  pub leads : T at name number
  pub only : (m : ℕ) → T at name m → m ≡ number

-- A name leads nowhere that led to a number.
pub record Vanishes (S T : Lead) (at : ℕ) (name : List ℕ) (number : ℕ) : Type 0 where
  pub keeps : Keeps S T at name
  pub counts : name ≢ self_name
  pub led : S at name number
  pub only : (m : ℕ) → S at name m → m ≡ number
  pub none : (m : ℕ) → T at name m → ⊥

abbrev place_of : ℕ → List ℕ → Place
place_of at name = (at, name)

is_place : (p : Place) (at : ℕ) (name : List ℕ) → p.0 ≡ at → p.1 ≡ name → place_of at name ≡ p
is_place p at name same named = ap₂ (λ (a : ℕ) (n : List ℕ). place_of a n) (sym same) (sym named)

moved : (S : Lead) (p : Place) (at m : ℕ) (name : List ℕ) → p.0 ≡ at → p.1 ≡ name → S p.0 p.1 m → S at name m
moved S p at m name same named led =
    subst (λ (n : List ℕ). S at n m) named (subst (λ (a : ℕ). S a p.1 m) same led)

module _ (S T : Lead) (at number : ℕ) (name : List ℕ) (a : Appears S T at name number) where
  came : (m : ℕ) (p : Place) → IsNameBy S m p → IsNameBy T m p
  came m p is =
      ⊎_elim
      (λ (here : (p.0 ≡ at) × (p.1 ≡ name)). absurd (a.none m (moved S p at m name here.0 here.1 is.1)))
      (λ (other : IsOther p.0 p.1 at name). (is.0, a.keeps.on p.0 m p.1 is.0 other is.1))
      (same_entry p.0 at p.1 name)

  came_from : (m : ℕ) (p : Place) → IsNameBy T m p → ((place_of at name ≡ p) × (m ≡ number)) ⊎ IsNameBy S m p
  came_from m p is =
      ⊎_elim
      (λ (here : (p.0 ≡ at) × (p.1 ≡ name)).
      inl (is_place p at name here.0 here.1, a.only m (moved T p at m name here.0 here.1 is.1)))
      (λ (other : IsOther p.0 p.1 at name). inr (is.0, a.keeps.back p.0 m p.1 is.0 other is.1))
      (same_entry p.0 at p.1 name)

  pub gains : (m n : ℕ) → m ≡ number → HasBy S m n → HasBy T m (n + 1)
  gains m n same has =
      count_more (IsNameBy S m) (IsNameBy T m) (place_of at name) n (n + 1) (omega arith) (λ is. a.none m is.1)
      (a.counts, subst (λ (k : ℕ). T at name k) (sym same) a.leads) (came m)
      (λ p is. ⊎_elim (λ (here : (place_of at name ≡ p) × (m ≡ number)). inl here.0) (λ (was : IsNameBy S m p). inr was) (came_from m p is))
      has

  pub gains_not : (m n : ℕ) → m ≢ number → HasBy S m n → HasBy T m n
  gains_not m n differ has =
      count_same (IsNameBy S m) (IsNameBy T m) n (came m)
      (λ p is. ⊎_elim (λ (here : (place_of at name ≡ p) × (m ≡ number)). absurd (differ here.1)) (λ (was : IsNameBy S m p). was) (came_from m p is))
      has

module _ (S T : Lead) (at number : ℕ) (name : List ℕ) (v : Vanishes S T at name number) where
  stayed : (m : ℕ) (p : Place) → IsNameBy T m p → IsNameBy S m p × IsOther p.0 p.1 at name
  stayed m p is =
      ⊎_elim
      (λ (here : (p.0 ≡ at) × (p.1 ≡ name)). absurd (v.none m (moved T p at m name here.0 here.1 is.1)))
      (λ (other : IsOther p.0 p.1 at name). ((is.0, v.keeps.back p.0 m p.1 is.0 other is.1), other))
      (same_entry p.0 at p.1 name)

  differs : (p : Place) → IsOther p.0 p.1 at name → p ≢ place_of at name
  differs p other same =
      ⊎_elim (λ (elsewhere : p.0 ≢ at). elsewhere (ap (λ (q : Place). q.0) same))
      (λ (another : p.1 ≢ name). another (ap (λ (q : Place). q.1) same)) other

  goes : (m : ℕ) (p : Place) → p ≢ place_of at name → IsNameBy S m p → IsNameBy T m p
  goes m p differ is =
      ⊎_elim
      (λ (here : (p.0 ≡ at) × (p.1 ≡ name)). absurd (differ (sym (is_place p at name here.0 here.1))))
      (λ (other : IsOther p.0 p.1 at name). (is.0, v.keeps.on p.0 m p.1 is.0 other is.1))
      (same_entry p.0 at p.1 name)

  pub loses : (m n k : ℕ) → m ≡ number → n ≡ k + 1 → HasBy S m n → HasBy T m k
  loses m n k same less has =
      count_less (IsNameBy S m) (IsNameBy T m) (place_of at name) n k less
      (v.counts, subst (λ (j : ℕ). S at name j) (sym same) v.led) (goes m)
      (λ p is. let was = stayed m p is in (was.0, differs p was.1)) has

  pub loses_not : (m n : ℕ) → m ≢ number → HasBy S m n → HasBy T m n
  loses_not m n differ has =
      count_same (IsNameBy S m) (IsNameBy T m) n
      (λ p is. goes m p (λ same.
      differ (v.only m (moved S p at m name (ap (λ (q : Place). q.0) same) (ap (λ (q : Place). q.1) same) is.1))) is)
      (λ p is. (stayed m p is).0) has
