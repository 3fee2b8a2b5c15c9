-- Sorting one number after the other.
use Rattle.std.proofs.Common.{◌≡◌, ◌≢◌, ◌∙◌, ℕ, zero, suc, ◌+◌, ◌-◌, ◌≤◌, true, false, ◌&&◌, List, [], ◌∷◌, ◌++◌, Option, Some, None, refl, sym, ap, subst, add-zero, arith}
use Rattle.std.specs.Prelude.{is_none, is_some}
use Rattle.std.specs.List.{filter, list_all, range_with_len}
use Rattle.std.proofs.lemmas.List.{map-append}
use Rattle.std.proofs.lemmas.List.Elements.{filter-append}
use Rattle.offline.specs.Common.{addresses_in, CheckFault, Dinode, early_fault, Form, form_of, Image, inode_count_of, IsRecoveredOf, lawful_geometry, ne_eqb, places_below, places_below_next, pointers_of, recovered, Super}
use Rattle.model.specs.Layout.{inode_of}
use Rattle.model.specs.Places.{pointers_in}
use Rattle.offline.specs.Clean.{clean_kind, Counts, is_clean, is_clean_inode, is_clean_pointer, is_left, Joins, Sorts}
use Rattle.offline.specs.Lemmas.Checked.{count_recovered}
use Rattle.offline.specs.declared.recovered.Recovered.{Recovered}
use Rattle.offline.specs.declared.sorting.Sorted.{Sorted}
use Rattle.offline.specs.declared.table.Table.{Table}

-- one number more
range_suc : (a n : ℕ) → range_with_len a (suc n) ≡ range_with_len a n ++ (a + n) ∷ []
range_suc a zero = rw add-zero refl
range_suc a (suc n) =
    let next : a + 1 + n ≡ a + suc n = omega arith in
    ap (λ (l : List ℕ). a ∷ l) (range_suc (a + 1) n) ∙ ap (λ (j : ℕ). a ∷ (range_with_len (a + 1) n ++ j ∷ [])) next

range_next : (i : ℕ) → 1 ≤ i → range_with_len 1 (i + 1 - 1) ≡ range_with_len 1 (i - 1) ++ i ∷ []
range_next i some =
    let e : i + 1 - 1 ≡ suc (i - 1) = omega arith in
    let j : 1 + (i - 1) ≡ i = omega arith in
    ap (range_with_len 1) e ∙ range_suc 1 (i - 1) ∙ ap (λ (k : ℕ). range_with_len 1 (i - 1) ++ k ∷ []) j

pub sorts_next : (y : Image) (i : ℕ) (old new : Sorted) → 1 ≤ i → Sorts y (range_with_len 1 (i - 1)) old → Joins i (inode_of y i).kind (is_clean y i) old new →
    Sorts y (range_with_len 1 (i + 1 - 1)) new
sorts_next y i old new some before joins =
    let numbers = range_with_len 1 (i - 1) in
    subst (λ (l : List ℕ). Sorts y l new) (sym (range_next i some))
    (record {
      kinds = joins.kinds ∙ ap (λ (l : List ℕ). l ++ clean_kind y i ∷ []) before.kinds ∙ sym (map-append (clean_kind y) numbers (i ∷ []));
      clean = joins.clean ∙ ap (λ (l : List ℕ). l ++ filter (is_clean y) (i ∷ [])) before.clean ∙ sym (filter-append (is_clean y) numbers (i ∷ []));
      left = joins.left ∙ ap (λ (l : List ℕ). l ++ filter (is_left y) (i ∷ [])) before.left ∙ sym (filter-append (is_left y) numbers (i ∷ []));
    })

-- how many numbers there are
some_numbers : (x : Image) (image : Recovered) → IsRecoveredOf x image → 2 ≤ image.sup.ninodes
some_numbers x image is =
    let f = lawful_geometry x is.geometry in
    let some = f.some in
    omega (arith, some, ap (λ (s : Super). s.ninodes) is.sup)

-- where a walk over them ends
pub numbers_end : (x : Image) (image : Recovered) (i : ℕ) → IsRecoveredOf x image → (2 ≤ image.sup.ninodes → i ≡ image.sup.ninodes) → i ≡ inode_count_of (recovered x)
numbers_end x image i is end = end (some_numbers x image is) ∙ count_recovered x image is

-- the places of one inode more
pub counts_next : (y : Image) (i : ℕ) (t : Table) → 1 ≤ i → Counts t y (places_below y i ++ addresses_in (pointers_of y i)) → Counts t y (places_below y (i + 1))
counts_next y i t some counts = subst (Counts t y) (sym (places_below_next y i some)) counts

-- ---- one inode

module _ (y : Image) (i : ℕ) (d : Dinode) where
  pub free_not_clean : d.kind ≡ 0 → false ≡ is_clean_inode y i d
  unfolding is_clean_inode
  free_not_clean free = rw free refl

  pub early_not_clean : (form : Form) → form_of y ≡ form → d.kind ≢ 0 → is_some (early_fault i d form) ≡ true → false ≡ is_clean_inode y i d
  unfolding is_clean_inode
  early_not_clean form is used early = rw (ne_eqb d.kind 0 used, is) (by_fault (early_fault i d form) early)
    where
      by_fault : (o : Option CheckFault) → is_some o ≡ true → false ≡ (is_none o && list_all (is_clean_pointer y i) (pointers_in y d))
      by_fault None h = absurd (cc h)
      by_fault (Some fault) h = refl

  pub clean_by_pointers : (form : Form) → form_of y ≡ form → d.kind ≢ 0 → is_some (early_fault i d form) ≡ false → list_all (is_clean_pointer y i) (pointers_in y d) ≡ is_clean_inode y i d
  unfolding is_clean_inode
  clean_by_pointers form is used none = rw (ne_eqb d.kind 0 used, is) (by_fault (early_fault i d form) none)
    where
      by_fault : (o : Option CheckFault) → is_some o ≡ false → list_all (is_clean_pointer y i) (pointers_in y d) ≡ (is_none o && list_all (is_clean_pointer y i) (pointers_in y d))
      by_fault None h = refl
      by_fault (Some fault) h = absurd (cc h)
