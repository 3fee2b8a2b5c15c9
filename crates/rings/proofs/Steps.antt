-- Each step keeps the board's rule.
use Rattle.std.proofs.Common.{◌≡◌, ◌≢◌, ℕ, zero, suc, ◌+◌, ◌%◌, ◌^◌, ◌<◌, ◌≤◌, List, [], ◌∷◌, ◌++◌, length, set, get_or, true, false, true≢false, eqb, bit_or, refl, sym, ap, ◌∙◌, subst, inl, inr, ⊎_elim, arith, length-set, get_or-set_same, get_or-set_other}
use Rattle.std.proofs.lemmas.Bool.{eqb-true}
use Rattle.std.proofs.lemmas.List.{set-get_or}
use Rattle.std.proofs.Math.Nat.{mod-eq_of_lt}
use mathlib.Core.Option.{Option, some, some-ne-none, some-injective}
use lib.ListN.{get_elem?}
use Rattle.atomic_table.specs.Table.{step, keeps as stays, Allows, Joins, Splits}
use Rattle.atomic_table.proofs.Lists.{at_last, at_set, at_snoc, at_longer, set_else, set_again}
use Rattle.rings.specs.declared.view.View.{View}
use Rattle.rings.specs.declared.view.View.TheVariants.{Both, Keeps, Watches}
use Rattle.rings.specs.Rules.{Table, FitsView, SomeAsked, ShutFits, IsKept, is_keeper, is_watch, asked_of, count_of, seen_of, united, keeper_part, watch_part, Publishes, Looks, Asks, Heeds, Compares}

off : {A : Type 0} → false ≡ true → A
off e = absurd (true≢false (sym e))

set_at : (views : List View) (id : ℕ) (v w : View) → get_elem? views id ≡ some v → get_elem? (set views id w) id ≡ some w
set_at [] id v w e = absurd (some-ne-none v (sym e))
set_at (x ∷ xs) zero v w e = refl
set_at (x ∷ xs) (suc id) v w e = set_at xs id v w e

fits_set : (d h : ℕ) (views : List View) (id : ℕ) (w : View) → ((j : ℕ) (u : View) → j ≢ id → get_elem? views j ≡ some u → FitsView d h j u) → FitsView d h id w → (j : ℕ) (u : View) → get_elem? (set views id w) j ≡ some u → FitsView d h j u
fits_set d h views id w others mine j u e =
    ⊎_elim
    (λ (x : (j ≡ id) × (w ≡ u)). subst (λ (y : ℕ × View). FitsView d h y.0 y.1) (λ i. (sym x.0 i, x.1 i)) mine)
    (λ (x : (j ≢ id) × (get_elem? views j ≡ some u)). others j u x.0 x.1)
    (at_set views id j w u e)

-- a watch that asked stays one that asked
asked_set : (views : List View) (id : ℕ) (v w : View) → get_elem? views id ≡ some v → (asked_of v ≡ true → asked_of w ≡ true) → SomeAsked views → SomeAsked (set views id w)
asked_set views id v w at mine (seat, u, there, has) =
    elim (native.Mathlib.Decide.ℕ_discrete seat id) [
      | yes same ↦
          let is : v ≡ u = some-injective v u (sym at ∙ subst (λ k. get_elem? views k ≡ some u) same there) in
          (id, w, set_at views id v w at, mine (ap asked_of is ∙ has))
      | no apart ↦ (seat, u, set_else views id seat w apart ∙ there, has)
    ]

shut_set : (h : ℕ) (views : List View) (id : ℕ) (v w : View) → get_elem? views id ≡ some v → (asked_of v ≡ true → asked_of w ≡ true) → ShutFits h views → ShutFits h (set views id w)
shut_set h views id v w at mine fits = ⊎_elim (λ (z : h ≡ 0). inl z) (λ (o : (h ≡ 1) × SomeAsked views). inr (o.0, asked_set views id v w at mine o.1)) fits

-- the words are d and h
placed : (words : List ℕ) (homes : List (Option (Unit {0}))) (views : List View) (d h : ℕ) → length words ≡ 2 → get_or words 0 0 ≡ d → get_or words 1 0 ≡ h
    → ((j : ℕ) (u : View) → get_elem? views j ≡ some u → FitsView d h j u) → ShutFits h views → IsKept (record { words = words; homes = homes; views = views })
placed words homes views d h two is_d is_h fits shut = record {
  two = two;
  views = λ j u e. subst (λ (y : ℕ × ℕ). FitsView y.0 y.1 j u) (λ i. (sym is_d i, sym is_h i)) (fits j u e);
  shut = subst (λ y. ShutFits y views) (sym is_h) shut;
}

-- a load leaves the words
same_words : (words : List ℕ) (i : ℕ) → set words i (get_or words i 0) ≡ words
same_words words i = set-get_or words i 0

pub looks : (slots id : ℕ) (v : View) (c : List (ℕ × Unit {0})) → is_watch v ≡ true → c ≡ [] → Allows IsKept slots id (v, c) 0 (λ n. n) (Looks (step slots 0 0 0 mathlib.Core.Option.none) (v, c))
looks slots id (Keeps count heard) c not bare = off not
looks slots id (Both count heard seen asked) c not bare = off not
looks slots id (Watches seen asked) c not bare = λ s kept wide at small.
    let d = get_or s.words 0 0 in
    let h = get_or s.words 1 0 in
    let mine = kept.views id (Watches seen asked) at in
    let w = Watches d asked in (
      w,
      stays,
      tt,
      subst (λ ws. IsKept (record { words = ws; homes = s.homes; views = set s.views id w })) (sym (same_words s.words 0))
          (placed s.words s.homes (set s.views id w) d h kept.two refl refl
          (fits_set d h s.views id w (λ j u _ e. kept.views j u e) (omega arith, mine.1))
          (shut_set h s.views id (Watches seen asked) w at (λ has. has) kept.shut)),
      ((λ i. (w, bare i)), mine.0),
    )

pub asks : (slots id : ℕ) (v : View) (c : List (ℕ × Unit {0})) → is_watch v ≡ true → c ≡ [] → Allows IsKept slots id (v, c) 1 (λ n. bit_or n 1) (Asks (step slots 1 1 0 mathlib.Core.Option.none) (v, c))
asks slots id (Keeps count heard) c not bare = off not
asks slots id (Both count heard seen asked) c not bare = off not
asks slots id (Watches seen asked) c not bare = λ s kept wide at small.
    let d = get_or s.words 0 0 in
    let h = get_or s.words 1 0 in
    let mine = kept.views id (Watches seen asked) at in
    let w = Watches seen true in
    let one : bit_or h 1 ≡ 1 = ⊎_elim (λ (z : h ≡ 0). ap (λ k. bit_or k 1) z) (λ (o : (h ≡ 1) × SomeAsked s.views). ap (λ k. bit_or k 1) o.0) kept.shut in (
      w,
      stays,
      tt,
      placed (set s.words 1 (bit_or h 1)) s.homes (set s.views id w) d 1
          (length-set s.words 1 (bit_or h 1) ∙ kept.two)
          (get_or-set_other s.words 1 0 (bit_or h 1) 0 (λ e. absurd (omega arith)))
          (get_or-set_same s.words 1 (bit_or h 1) 0 (let two = kept.two in omega arith) ∙ one)
          (fits_set d 1 s.views id w (λ j u _ e. raised d h j u (kept.views j u e)) (mine.0, (λ _. refl)))
          (inr (refl, (id, w, set_at s.views id (Watches seen asked) w at, refl))),
      (λ i. (w, bare i)),
    )
  where
    raised : (d h : ℕ) (j : ℕ) (u : View) → FitsView d h j u → FitsView d 1 j u
    raised d h j (Keeps n b) f = (f.0, f.1, (λ _. refl))
    raised d h j (Watches n b) f = (f.0, (λ _. refl))
    raised d h j (Both n b m e) f = ((f.0.0, f.0.1, (λ _. refl)), (f.1.0, (λ _. refl)))

pub publishes : (slots id : ℕ) (v : View) (c : List (ℕ × Unit {0})) → is_keeper v ≡ true → c ≡ [] → count_of v + 1 < 2 ^ 64 → Allows IsKept slots id (v, c) 0 (λ n. (n + 1) % 2 ^ 64) (Publishes (step slots 0 1 0 mathlib.Core.Option.none) (v, c))
publishes slots id (Watches seen asked) c not bare room = off not
publishes slots id (Both count heard seen asked) c not bare room = off not
publishes slots id (Keeps count heard) c yes' bare room = λ s kept wide at small.
    let d = get_or s.words 0 0 in
    let h = get_or s.words 1 0 in
    let mine = kept.views id (Keeps count heard) at in
    let w = Keeps (count + 1) heard in
    let n = (d + 1) % 2 ^ 64 in
    let up : n ≡ d + 1 = mod-eq_of_lt (subst (λ k. k + 1 < 2 ^ 64) mine.1 room) in (
      w,
      stays,
      tt,
      placed (set s.words 0 n) s.homes (set s.views id w) (d + 1) h
          (length-set s.words 0 n ∙ kept.two)
          (get_or-set_same s.words 0 n 0 (let two = kept.two in omega arith) ∙ up)
          (get_or-set_other s.words 0 1 n 0 (λ e. absurd (omega arith)))
          (fits_set (d + 1) h s.views id w (λ j u apart e. risen d h id j u mine.0 apart (kept.views j u e)) (mine.0, ap (λ k. k + 1) mine.1, mine.2))
          (shut_set h s.views id (Keeps count heard) w at (λ has. off has) kept.shut),
      (λ i. (w, bare i)),
    )
  where
    risen : (d h id j : ℕ) (u : View) → id ≡ 0 → j ≢ id → FitsView d h j u → FitsView (d + 1) h j u
    risen d h id j (Keeps n b) first apart f = absurd (apart (f.0 ∙ sym first))
    risen d h id j (Watches n b) first apart f = let below = f.0 in (omega arith, f.1)
    risen d h id j (Both n b m e) first apart f = absurd (apart (f.0.0 ∙ sym first))

pub heeds : (slots id : ℕ) (v : View) (c : List (ℕ × Unit {0})) → is_keeper v ≡ true → c ≡ [] → Allows IsKept slots id (v, c) 1 (λ n. n) (Heeds (step slots 1 0 0 mathlib.Core.Option.none) (v, c))
heeds slots id (Watches seen asked) c not bare = off not
heeds slots id (Both count heard seen asked) c not bare = off not
heeds slots id (Keeps count heard) c yes' bare = λ s kept wide at small.
    let d = get_or s.words 0 0 in
    let h = get_or s.words 1 0 in
    let mine = kept.views id (Keeps count heard) at in
    let w = Keeps count (eqb h 1) in (
      w,
      stays,
      tt,
      subst (λ ws. IsKept (record { words = ws; homes = s.homes; views = set s.views id w })) (sym (same_words s.words 1))
          (placed s.words s.homes (set s.views id w) d h kept.two refl refl
          (fits_set d h s.views id w (λ j u _ e. kept.views j u e) (mine.0, mine.1, eqb-true h 1))
          (shut_set h s.views id (Keeps count heard) w at (λ has. off has) kept.shut)),
      ((λ i. (w, bare i)), mine.2),
    )

-- a new watch
pub admits : (id : ℕ) (v : View) → Splits IsKept id v v (Watches 0 false)
admits id v s kept at =
    let d = get_or s.words 0 0 in
    let h = get_or s.words 1 0 in
    subst (λ vs. IsKept (record { words = s.words; homes = s.homes; views = vs ++ Watches 0 false ∷ [] })) (sym (set_again s.views id v at))
    (placed s.words s.homes (s.views ++ Watches 0 false ∷ []) d h kept.two refl refl
    (λ j u e. ⊎_elim (λ was. kept.views j u was) (λ (same : Watches 0 false ≡ u). subst (FitsView d h j) same (omega arith, (λ x. off x))) (at_snoc s.views (Watches 0 false) u j e))
    (⊎_elim (λ (z : h ≡ 0). inl z) (λ (o : (h ≡ 1) × SomeAsked s.views). inr (o.0, (o.1.0, o.1.1, at_longer s.views (Watches 0 false ∷ []) o.1.0 o.1.1 o.1.2, o.1.3))) kept.shut))

-- a keeper's view is its part, and a watch's
pub keeper_is : (v : View) → is_keeper v ≡ true → keeper_part v ≡ v
keeper_is (Keeps count heard) is = refl
keeper_is (Watches seen asked) is = off is
keeper_is (Both count heard seen asked) is = off is

pub watch_is : (v : View) → is_watch v ≡ true → watch_part v ≡ v
watch_is (Keeps count heard) is = off is
watch_is (Watches seen asked) is = refl
watch_is (Both count heard seen asked) is = off is

-- a watch comes to the keeper's seat, and has no seat of its own any more
pub unites : (id other : ℕ) (v w : View) → is_keeper v ≡ true → is_watch w ≡ true → Joins IsKept id v other w (united v w) (Watches 0 false)
unites id other (Watches seen asked) w keeper watch = off keeper
unites id other (Both count heard seen asked) w keeper watch = off keeper
unites id other (Keeps count heard) (Keeps n b) keeper watch = off watch
unites id other (Keeps count heard) (Both n b m e) keeper watch = off watch
unites id other (Keeps count heard) (Watches seen asked) keeper watch = λ s kept at apart there.
    let d = get_or s.words 0 0 in
    let h = get_or s.words 1 0 in
    let both = Both count heard seen asked in
    let was : get_elem? s.views other ≡ some (Watches seen asked) = sym (set_else s.views id other both apart) ∙ there in
    let fits : FitsView d h id both = (kept.views id (Keeps count heard) at, kept.views other (Watches seen asked) was) in
    let mid = set s.views id both in
    placed s.words s.homes (set mid other (Watches 0 false)) d h kept.two refl refl
    (fits_set d h mid other (Watches 0 false)
    (λ j u _ e. fits_set d h s.views id both (λ i t _ e. kept.views i t e) fits j u e) (omega arith, (λ x. off x)))
    (⊎_elim (λ (z : h ≡ 0). inl z) (λ (o : (h ≡ 1) × SomeAsked s.views). inr (o.0, moved s.views at there (asked_set s.views id (Keeps count heard) both at (λ has. off has) o.1) apart)) kept.shut)
  where
    moved : (views : List View) → get_elem? views id ≡ some (Keeps count heard) → get_elem? (set views id (Both count heard seen asked)) other ≡ some (Watches seen asked)
        → SomeAsked (set views id (Both count heard seen asked)) → (other ≡ id → ⊥) → SomeAsked (set (set views id (Both count heard seen asked)) other (Watches 0 false))
    moved views at there (seat, u, here, has) apart =
        let both = Both count heard seen asked in
        let mid = set views id both in
        elim (native.Mathlib.Decide.ℕ_discrete seat other) [
          | yes same ↦
              let is : Watches seen asked ≡ u = some-injective (Watches seen asked) u (sym there ∙ subst (λ k. get_elem? mid k ≡ some u) same here) in
              (id, both, set_else mid other id (Watches 0 false) (λ e. apart (sym e)) ∙ set_at views id (Keeps count heard) both at, ap asked_of is ∙ has)
          | no far ↦ (seat, u, set_else mid other seat (Watches 0 false) far ∙ here, has)
        ]

-- there both are looked at
pub compares : (slots id : ℕ) (v w : View) → Allows IsKept slots id (united v w, []) 0 (λ n. n) (Compares (step slots 0 0 0 mathlib.Core.Option.none) (united v w, []))
compares slots id v w = λ s kept wide at small.
    let u = united v w in
    let fits = kept.views id u at in
    let is : count_of v ≡ get_or s.words 0 0 = fits.0.1 in
    let below : seen_of w ≤ get_or s.words 0 0 = fits.1.0 in (
      u,
      stays,
      tt,
      subst (λ ws. IsKept (record { words = ws; homes = s.homes; views = set s.views id u })) (sym (same_words s.words 0))
          (subst (λ vs. IsKept (record { words = s.words; homes = s.homes; views = vs })) (sym (set_again s.views id u at)) kept),
      (refl, omega arith),
    )

-- and the watch has a seat again
pub divides : (id : ℕ) (v w : View) → Splits IsKept id (united v w) (keeper_part (united v w)) (watch_part (united v w))
divides id v w = λ s kept at.
    let d = get_or s.words 0 0 in
    let h = get_or s.words 1 0 in
    let left = keeper_part (united v w) in
    let right = watch_part (united v w) in
    let mid = set s.views id left in
    let fits = kept.views id (united v w) at in
    placed s.words s.homes (mid ++ right ∷ []) d h kept.two refl refl
    (λ j u e. ⊎_elim (λ was. fits_set d h s.views id left (λ i t _ e. kept.views i t e) fits.0 j u was) (λ (same : right ≡ u). subst (FitsView d h j) same fits.1) (at_snoc mid right u j e))
    (⊎_elim (λ (z : h ≡ 0). inl z) (λ (o : (h ≡ 1) × SomeAsked s.views). inr (o.0, given s.views at o.1)) kept.shut)
  where
    given : (views : List View) → get_elem? views id ≡ some (united v w) → SomeAsked views → SomeAsked (set views id (keeper_part (united v w)) ++ watch_part (united v w) ∷ [])
    given views at (seat, u, here, has) =
        let mid = set views id (keeper_part (united v w)) in
        let right = watch_part (united v w) in
        elim (native.Mathlib.Decide.ℕ_discrete seat id) [
          | yes same ↦
              let is : united v w ≡ u = some-injective (united v w) u (sym at ∙ subst (λ k. get_elem? views k ≡ some u) same here) in
              (length mid, right, at_last mid right (length mid) refl, ap asked_of is ∙ has)
          | no far ↦ (seat, u, at_longer mid (right ∷ []) seat u (set_else views id seat (keeper_part (united v w)) far ∙ here), has)
        ]

-- where SHUT is 0 no watch has asked
pub none_asked : (s : Table) → IsKept s → get_or s.words 1 0 ≡ 0 → SomeAsked s.views → ⊥
none_asked s kept shut' (seat, v, at, has) = let one = is_one (get_or s.words 0 0) (get_or s.words 1 0) seat v (kept.views seat v at) has in omega arith
  where
    is_one : (d h seat : ℕ) (v : View) → FitsView d h seat v → asked_of v ≡ true → h ≡ 1
    is_one d h seat (Keeps count heard) fits has = off has
    is_one d h seat (Watches seen asked) fits has = fits.1 has
    is_one d h seat (Both count heard seen asked) fits has = fits.1.1 has

-- where a keeper has heard, some watch has asked
pub some_asked : (s : Table) → IsKept s → (seat count : ℕ) → get_elem? s.views seat ≡ some (Keeps count true) → SomeAsked s.views
some_asked s kept seat count at =
    let one : get_or s.words 1 0 ≡ 1 = (kept.views seat (Keeps count true) at).2 refl in
    ⊎_elim (λ (z : get_or s.words 1 0 ≡ 0). absurd (omega arith)) (λ (o : (get_or s.words 1 0 ≡ 1) × SomeAsked s.views). o.1) kept.shut
