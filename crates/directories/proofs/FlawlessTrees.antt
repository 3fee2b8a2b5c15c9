-- A tree whose counts are right has no flaw.
use Rattle.std.proofs.Common.{◌≡◌, ◌≢◌, ◌∙◌, ℕ, zero, suc, ◌+◌, ◌%◌, ◌<◌, ◌≤◌, Bool, true, false, not, ◌&&◌, eqb, ltb, List, [], ◌∷◌, ◌++◌, length, get_or, Option, Some, None, refl, sym, ap, ap₂, subst, ⊎_elim, arith}
use Rattle.std.specs.Prelude.{is_none, position}
use Rattle.std.specs.List.{flat_map, list_any, position_or_len, range_with_len, AllByRecursion, IsDistinct}
use Rattle.std.proofs.lemmas.Bool.{and_from, and_left, and_parts, and_right, cases_Bool, cases_eq, cases_lt, cond-false, cond-true, eq-eqb, eqb-true, false_from_ne_true, lt-ltb, ne_eqb, not_from_false, not_from_true, or_cases, or_from, or_parts, both_ways}
use Rattle.std.proofs.lemmas.List.{get_or_past}
use Rattle.std.proofs.lemmas.List.Folds.{list_any_at}
use Rattle.std.proofs.lemmas.List.FromFn.{get_or-range_with_len, length-map-range_with_len, length-range_with_len}
use Rattle.std.proofs.lemmas.List.Quantifiers.{position-Some}
use Rattle.std.proofs.lemmas.List.Sums.{fails_before_first, position_or_len_is}
use Rattle.std.proofs.lemmas.Map.Steps.{length-le_from_distinct_below}
use Rattle.model.specs.declared.types.image.File.{File}
use Rattle.model.specs.Files.{Files, file_in}
use Rattle.directories.specs.declared.flaws.Flaw.{Flaw}
use Rattle.directories.specs.declared.flaws.Flaw.TheVariants as flaw
use Rattle.directories.specs.Counts.{AreCounted, IsNameOf}
use Rattle.directories.specs.Entries.{entries_of, is_for, is_free, lookup, name_in, number_in, IsProper}
use Rattle.directories.specs.Flaws.{at_home, climbs, directory_flaws, entries_flaws, entry_flaws, flaw_if, flaws_at, flaws_of, flaws_within, has_name_of, home_in, home_of, homes_of, is_in_circle, is_later, is_miscounted, is_misnamed, is_nameless, is_other, is_proper, is_second, is_torn, leads_again, leads_down_to, leads_to_nothing, may_not_have, misses_parent, own_flaws, parent_in, place_flaws, root_flaws}
use Rattle.directories.specs.Tallying.{names_to}
use Rattle.directories.specs.Trees.{directory_in, kind_of, leads_down, links_of, parent_name, self_name, IsDirectory, IsFile, IsTidy, IsTree, StepsDown}
use Rattle.directories.specs.Lemmas.Places.{count_unique}
use Rattle.directories.specs.Lemmas.TreeBy.{depth_in, directory_is_file, tree_makes_steps, IsTreeBy}
use Rattle.directories.specs.Lemmas.TreeMeaning.{directory_by}
use Rattle.directories.proofs.EntryPaths.{entry_of_step, for_its_name, step_of_entry}
use Rattle.directories.proofs.FirstNames.{first_from_once}
use Rattle.directories.proofs.FlawTrees.{any_place, home_at, is_home, not_none, IsHome}
use Rattle.directories.proofs.Tallies.{tree_names}

-- ---- lists without an element

if_nil : (b : Bool) (f : Flaw) → b ≡ false → flaw_if b f ≡ []
if_nil true f is = absurd (cc is)
if_nil false f is = refl

nil_both : {X : Type 0} (xs ys : List X) → xs ≡ [] → ys ≡ [] → xs ++ ys ≡ []
nil_both xs ys no_xs no_ys = ap₂ (λ a b. a ++ b) no_xs no_ys

each_nil : {X A : Type 0} (f : X → List A) (xs : List X) (d : X) → ((i : ℕ) → i < length xs → f (get_or xs i d) ≡ []) → flat_map f xs ≡ []
each_nil f [] d all = refl
each_nil f (x ∷ xs) d all =
    let more : length (x ∷ xs) ≡ suc (length xs) = refl in
    nil_both (f x) (flat_map f xs) (all 0 (omega arith)) (each_nil f xs d (λ i low. all (suc i) (omega arith)))

range_nil : (f : ℕ → List Flaw) (n : ℕ) → ((i : ℕ) → i < n → f i ≡ []) → flat_map f (range_with_len 0 n) ≡ []
range_nil f n all =
    let long : length (range_with_len 0 n) ≡ n = length-range_with_len 0 n in
    each_nil f (range_with_len 0 n) 0
    (λ i low.
    let inside : i < n = omega arith in
    let at : get_or (range_with_len 0 n) i 0 ≡ 0 + i = get_or-range_with_len 0 n i 0 inside in
    let same : i ≡ get_or (range_with_len 0 n) i 0 = omega arith in
    subst (λ (j : ℕ). f j ≡ []) same (all i inside))

-- ---- tests

other_same : (o : Option ℕ) (n : ℕ) → o ≡ Some n → is_other o n ≡ false
other_same o n is = ap (λ (q : Option ℕ). is_other q n) is ∙ not_from_true (eqb n n) (eq-eqb n n refl)

at_home_false : (o : Option ℕ) (f : ℕ → Bool) → ((from : ℕ) → o ≡ Some from → f from ≡ false) → at_home o false f ≡ false
at_home_false None f all = refl
at_home_false (Some from) f all = all from refl

proper_to : (name : List ℕ) → IsProper name → is_proper name ≡ true
proper_to name proper =
    and_from (not (eqb (get_or name 0 0) 0)) (not (list_any (λ (b : ℕ). eqb b 47) name))
    (not_from_false (eqb (get_or name 0 0) 0) (ne_eqb (get_or name 0 0) 0 proper.some))
    (not_from_false (list_any (λ (b : ℕ). eqb b 47) name)
    (false_from_ne_true (list_any (λ (b : ℕ). eqb b 47) name)
    (λ any. let at = any_place (λ (b : ℕ). eqb b 47) 47 name any in
    proper.no_slash (at.0, at.1, eqb-true (get_or name at.0 47) 47 at.2))))

-- the place of the first that passes
position_is : {X : Type 0} (p : X → Bool) (xs : List X) (k : ℕ) (d : X) → k < length xs → p (get_or xs k d) ≡ true → ((j : ℕ) → j < k → p (get_or xs j d) ≡ false) → position p xs ≡ Some k
position_is p xs k d low passes before =
    let first : position_or_len p xs ≡ k = position_or_len_is p xs k d (omega arith) before (λ h. passes) in
    cond-true (ltb (position_or_len p xs) (length xs)) (Some (position_or_len p xs)) None (lt-ltb (position_or_len p xs) (length xs) (omega arith))
    ∙ ap (λ (i : ℕ). Some i) first

position_some : {X : Type 0} (p : X → Bool) (xs : List X) (k : ℕ) (d : X) → k < length xs → p (get_or xs k d) ≡ true → is_none (position p xs) ≡ false
position_some p xs k d low passes =
    ⊎_elim
    (λ (inside : position_or_len p xs < length xs).
    ap is_none (cond-true (ltb (position_or_len p xs) (length xs)) (Some (position_or_len p xs)) None (lt-ltb (position_or_len p xs) (length xs) inside)))
    (λ (past : length xs ≤ position_or_len p xs). absurd (both_ways (p (get_or xs k d)) (fails_before_first p xs k d (omega arith)) passes))
    (cases_lt (position_or_len p xs) (length xs))

others : (n : ℕ) (l : List ℕ) → list_any (eqb n) l ≡ false → AllByRecursion (λ y. eqb n y ≡ false) l
others n [] none = tt
others n (x ∷ l) none = let parts = or_parts (eqb n x) (list_any (eqb n) l) none in (parts.0, others n l parts.1)

distinct_more : (n : ℕ) (l : List ℕ) → list_any (eqb n) l ≡ false → IsDistinct eqb l → IsDistinct eqb (n ∷ l)
unfolding IsDistinct
distinct_more n l none distinct = (others n l none, distinct)

distinct_one : (n : ℕ) → IsDistinct eqb (n ∷ [])
unfolding IsDistinct
distinct_one n = (tt, tt)

-- ---- a tree

module _ (files : Files) (tree : IsTree files) (counted : AreCounted files) where
  abbrev homes : List (Option ℕ)
  homes = homes_of files

  abbrev bytes : ℕ → List ℕ
  bytes i = directory_in files i

  abbrev es : ℕ → List (List ℕ)
  es i = entries_of (directory_in files i)

  abbrev depth : ℕ → ℕ
  depth = depth_in files tree

  by : IsTreeBy files depth
  by = tree_makes_steps files tree

  inside : (i : ℕ) → IsFile files i → i < length files
  inside i there =
      ⊎_elim (λ (low : i < length files). low) (λ (past : length files ≤ i). absurd (there (get_or_past files i None past))) (cases_lt i (length files))

  tidy : (i : ℕ) → IsDirectory files i → IsTidy (bytes i)
  tidy i is = (directory_by files depth i by is).1.tidy

  entry_step : (i : ℕ) → IsDirectory files i → (k : ℕ) → k < length (es i) → leads_down (get_or (es i) k []) ≡ true →
      StepsDown files i (name_in (get_or (es i) k [])) (number_in (get_or (es i) k []))
  entry_step i is k low down = step_of_entry files i k is (tidy i is) low down

  -- a home's name
  home_step : (i from : ℕ) → IsHome files i from → (name : List ℕ) × StepsDown files from name i
  home_step i from h =
      let e : List ℕ = get_or (es from) h.place [] in
      (name_in e, subst (λ (n : ℕ). StepsDown files from (name_in e) n) h.is (entry_step from h.directory h.place h.inside h.down))

  homed : (i from : ℕ) → IsFile files i → home_in homes i ≡ Some from → IsHome files i from
  homed i from there is =
      let found = position-Some (has_name_of i) files from None (sym (home_at files i (inside i there)) ∙ is) in is_home files i from found.1

  -- ---- within a directory

  parent_right : (i : ℕ) → IsDirectory files i → (from : ℕ) → parent_in homes i ≡ Some from → lookup (bytes i) parent_name ≡ Some from
  parent_right i is from parent =
      ⊎_elim
      (λ (root : i ≡ 1).
      let two : Some 1 ≡ Some from = sym (cond-true (eqb i 1) (Some 1) (home_in homes i) (eq-eqb i 1 root)) ∙ parent in
      ap (λ (k : ℕ). lookup (bytes k) parent_name) root ∙ tree.top.up ∙ two)
      (λ (ne : i ≢ 1).
      let home : home_in homes i ≡ Some from = sym (cond-false (eqb i 1) (Some 1) (home_in homes i) (ne_eqb i 1 ne)) ∙ parent in
      let step = home_step i from (homed i from (directory_is_file files i is) home) in
      (tree.below from i step.0 step.1.0 step.1.1 is).up)
      (cases_eq i 1)

  own_nil : (i : ℕ) → IsDirectory files i → own_flaws homes i (bytes i) ≡ []
  own_nil i is =
      let of = directory_by files depth i by is in
      let a : List Flaw = flaw_if (is_torn (bytes i)) (flaw.Torn i) in
      let b : List Flaw = flaw_if (is_other (lookup (bytes i) self_name) i) (flaw.Own i) in
      let c : List Flaw = flaw_if (misses_parent homes i (bytes i)) (flaw.Parent i) in
      nil_both a (b ++ c)
      (if_nil (is_torn (bytes i)) (flaw.Torn i) (not_from_true (eqb (length (bytes i) % 16) 0) (eq-eqb (length (bytes i) % 16) 0 of.1.tidy.whole)))
      (nil_both b c (if_nil (is_other (lookup (bytes i) self_name) i) (flaw.Own i) (other_same (lookup (bytes i) self_name) i of.1.own))
      (if_nil (misses_parent homes i (bytes i)) (flaw.Parent i)
      (at_home_false (parent_in homes i) (is_other (lookup (bytes i) parent_name))
      (λ from parent. other_same (lookup (bytes i) parent_name) from (parent_right i is from parent)))))

  module _ (i : ℕ) (is : IsDirectory files i) (k : ℕ) (low : k < length (es i)) where
    abbrev e : List ℕ
    e = get_or (es i) k []

    abbrev n : ℕ
    n = number_in (get_or (es i) k [])

    named_right : is_misnamed e ≡ false
    named_right =
        ⊎_elim (λ (free : is_free e ≡ true). and_left (not (is_free e)) (not (is_proper (name_in e))) (not_from_true (is_free e) free))
        (λ (used : is_free e ≡ false).
        and_right (not (is_free e)) (not (is_proper (name_in e)))
        (not_from_true (is_proper (name_in e)) (proper_to (name_in e) ((tidy i is).named k low used))))
        (cases_Bool (is_free e))

    once_right : is_second (es i) k ≡ false
    once_right =
        let found : Option ℕ = position (is_for (name_in e)) (es i) in
        ⊎_elim (λ (free : is_free e ≡ true). and_left (not (is_free e)) (is_other found k) (not_from_true (is_free e) free))
        (λ (used : is_free e ≡ false).
        and_right (not (is_free e)) (is_other found k) (other_same found k (first_from_once (bytes i) (tidy i is).once k low used)))
        (cases_Bool (is_free e))

    module _ (down : leads_down e ≡ true) where
      step : StepsDown files i (name_in e) n
      step = entry_step i is k low down

      leads : IsFile files n × (n ≢ 1)
      leads = by.shape.lead i n (name_in e) step

      has_it : has_name_of n (file_in files i) ≡ true
      has_it =
          and_from (eqb (kind_of (file_in files i)) 1) (list_any (leads_down_to n) (es i)) (eq-eqb (kind_of (file_in files i)) 1 is)
          (list_any_at (leads_down_to n) (es i) k [] low (and_from (leads_down e) (eqb (number_in e) n) down (eq-eqb (number_in e) n refl)))

      first_home : IsDirectory files n → home_in homes n ≡ Some i
      first_home directory =
          home_at files n (inside n leads.0)
          ∙ position_is (has_name_of n) files i None (inside i (directory_is_file files i is)) has_it
          (λ j before.
          false_from_ne_true (has_name_of n (get_or files j None))
          (λ has.
          let other = home_step n j (is_home files n j has) in
          let same : j ≡ i = by.shape.parent j i n other.0 (name_in e) directory other.1 step in absurd (omega arith)))

      first_place : IsDirectory files n → position (leads_down_to n) (es i) ≡ Some k
      first_place directory =
          position_is (leads_down_to n) (es i) k [] low (and_from (leads_down e) (eqb (number_in e) n) down (eq-eqb (number_in e) n refl))
          (λ j before.
          false_from_ne_true (leads_down_to n (get_or (es i) j []))
          (λ leads_j.
          let o : List ℕ = get_or (es i) j [] in
          let j_low : j < length (es i) = omega arith in
          let parts = and_parts (leads_down o) (eqb (number_in o) n) leads_j in
          let other = subst (λ (m : ℕ). StepsDown files i (name_in o) m) (eqb-true (number_in o) n parts.1) (entry_step i is j j_low parts.0) in
          let names : name_in o ≡ name_in e = by.shape.name i n (name_in o) (name_in e) directory other step in
          let same : j ≡ k =
          ((tidy i is).once (name_in e)).same j k (j_low, subst (λ (name : List ℕ). is_for name o ≡ true) names (for_its_name o parts.0))
          (low, for_its_name e down) in absurd (omega arith)))

      may : may_not_have files homes i (es i) k n ≡ false
      may =
          or_from (eqb n 1) (eqb (kind_of (file_in files n)) 1 && is_later homes i (es i) k n) (ne_eqb n 1 leads.1)
          (⊎_elim
          (λ (directory : eqb (kind_of (file_in files n)) 1 ≡ true).
          let there : IsDirectory files n = eqb-true (kind_of (file_in files n)) 1 directory in
          and_right (eqb (kind_of (file_in files n)) 1) (is_later homes i (es i) k n)
          (or_from (is_other (home_in homes n) i) (is_other (position (leads_down_to n) (es i)) k) (other_same (home_in homes n) i (first_home there))
          (other_same (position (leads_down_to n) (es i)) k (first_place there))))
          (λ (other : eqb (kind_of (file_in files n)) 1 ≡ false). and_left (eqb (kind_of (file_in files n)) 1) (is_later homes i (es i) k n) other)
          (cases_Bool (eqb (kind_of (file_in files n)) 1)))

    file_right : leads_to_nothing files e ≡ false
    file_right =
        ⊎_elim (λ (down : leads_down e ≡ true). and_right (leads_down e) (is_none (file_in files n)) (not_none (file_in files n) (leads down).0))
        (λ (other : leads_down e ≡ false). and_left (leads_down e) (is_none (file_in files n)) other) (cases_Bool (leads_down e))

    first_right : leads_again files homes i (es i) k ≡ false
    first_right =
        ⊎_elim (λ (down : leads_down e ≡ true). and_right (leads_down e) (may_not_have files homes i (es i) k n) (may down))
        (λ (other : leads_down e ≡ false). and_left (leads_down e) (may_not_have files homes i (es i) k n) other) (cases_Bool (leads_down e))

    entry_nil : entry_flaws files homes i (es i) k ≡ []
    entry_nil =
        let a : List Flaw = flaw_if (is_misnamed e) (flaw.Misnamed i k) in
        let b : List Flaw = flaw_if (is_second (es i) k) (flaw.Twice i k) in
        let c : List Flaw = flaw_if (leads_to_nothing files e) (flaw.Nothing i k) in
        let d : List Flaw = flaw_if (leads_again files homes i (es i) k) (flaw.Again i k) in
        nil_both a (b ++ (c ++ d)) (if_nil (is_misnamed e) (flaw.Misnamed i k) named_right)
        (nil_both b (c ++ d) (if_nil (is_second (es i) k) (flaw.Twice i k) once_right)
        (nil_both c d (if_nil (leads_to_nothing files e) (flaw.Nothing i k) file_right)
        (if_nil (leads_again files homes i (es i) k) (flaw.Again i k) first_right)))

  within_nil : (i : ℕ) → flaws_within files homes i ≡ []
  within_nil i =
      let all : List Flaw = directory_flaws files homes i (bytes i) in
      ⊎_elim
      (λ (directory : eqb (kind_of (file_in files i)) 1 ≡ true).
      let is : IsDirectory files i = eqb-true (kind_of (file_in files i)) 1 directory in
      cond-true (eqb (kind_of (file_in files i)) 1) all [] directory
      ∙ nil_both (own_flaws homes i (bytes i)) (entries_flaws files homes i (es i) (length (es i))) (own_nil i is)
      (range_nil (entry_flaws files homes i (es i)) (length (es i)) (λ k low. entry_nil i is k low)))
      (λ (other : eqb (kind_of (file_in files i)) 1 ≡ false). cond-false (eqb (kind_of (file_in files i)) 1) all [] other)
      (cases_Bool (eqb (kind_of (file_in files i)) 1))

  -- ---- where a file stands

  -- directories, each higher than the ones behind it
  record Line (i n : ℕ) : Type 0 where
    pub numbers : List ℕ
    pub many : length numbers ≡ suc n
    pub low : (q : ℕ) → list_any (eqb q) numbers ≡ true → (q < length files) × (depth q ≤ depth i)
    pub distinct : IsDistinct eqb numbers

  line_one : (i : ℕ) → IsDirectory files i → Line i 0
  line_one i is = record {
    numbers = i ∷ [];
    many = refl;
    low = λ q any.
        ⊎_elim
        (λ (here : eqb q i ≡ true).
        let same : i ≡ q = sym (eqb-true q i here) in
        (subst (λ (k : ℕ). k < length files) same (inside i (directory_is_file files i is)), subst (λ (k : ℕ). depth k ≤ depth i) same (omega arith)))
        (λ (none : false ≡ true). absurd (cc none))
        (or_cases (eqb q i) false any);
    distinct = distinct_one i;
  }

  line_more : (i from n : ℕ) → IsDirectory files i → depth from < depth i → Line from n → Line i (suc n)
  line_more i from n is deep l =
      let more : length (i ∷ l.numbers) ≡ suc (length l.numbers) = refl in
      let many : length l.numbers ≡ suc n = l.many in
      record {
        numbers = i ∷ l.numbers;
        many = omega arith;
        low = λ q any.
            ⊎_elim
            (λ (here : eqb q i ≡ true).
            let same : i ≡ q = sym (eqb-true q i here) in
            (subst (λ (k : ℕ). k < length files) same (inside i (directory_is_file files i is)), subst (λ (k : ℕ). depth k ≤ depth i) same (omega arith)))
            (λ (there : list_any (eqb q) l.numbers ≡ true).
            let low = l.low q there in let below : depth q ≤ depth from = low.1 in (low.0, omega arith))
            (or_cases (eqb q i) (list_any (eqb q) l.numbers) any);
        distinct = distinct_more i l.numbers
            (false_from_ne_true (list_any (eqb i) l.numbers) (λ any. let below : depth i ≤ depth from = (l.low i any).1 in absurd (omega arith)))
            l.distinct;
      }

  line_by : (i n : ℕ) → IsDirectory files i → ((from : ℕ) → IsDirectory files from → climbs n homes from ≡ false → Line from n) → (o : Option ℕ) →
      home_in homes i ≡ o → at_home o true (climbs n homes) ≡ false → Line i (suc n)
  line_by i n is up None home h = absurd (cc h)
  line_by i n is up (Some from) home h =
      let at = homed i from (directory_is_file files i is) home in
      let step = home_step i from at in
      line_more i from n is (by.shape.deeper from i step.0 is step.1) (up from at.directory h)

  line : (n i : ℕ) → IsDirectory files i → climbs n homes i ≡ false → Line i n
  line zero i is h = line_one i is
  line (suc n) i is h =
      line_by i n is (λ from directory on. line n from directory on) (home_in homes i) refl
      (or_parts (eqb i 1) (at_home (home_in homes i) true (climbs n homes)) h).1

  ends : (i : ℕ) → IsDirectory files i → climbs (length homes) homes i ≡ true
  ends i is =
      ⊎_elim (λ (yes : climbs (length homes) homes i ≡ true). yes)
      (λ (no : climbs (length homes) homes i ≡ false).
      let l = line (length homes) i is no in
      let long : length homes ≡ length files = length-map-range_with_len (home_of files) 0 (length files) in
      let many : length l.numbers ≡ suc (length homes) = l.many in
      let few : length l.numbers ≤ length files = length-le_from_distinct_below l.numbers (length files) l.distinct (λ q any. (l.low q any).0) in
      absurd (omega arith))
      (cases_Bool (climbs (length homes) homes i))

  named : (i : ℕ) (o : Option File) → file_in files i ≡ o → is_nameless files homes i ≡ false
  named i None gone =
      and_left (not (eqb i 1) && not (is_none (file_in files i))) (is_none (home_in homes i))
      (and_right (not (eqb i 1)) (not (is_none (file_in files i))) (ap (λ (o : Option File). not (is_none o)) gone))
  named i (Some file) is =
      let there : IsFile files i = λ gone. let two : Some file ≡ None = sym is ∙ gone in absurd (cc two) in
      ⊎_elim
      (λ (root : i ≡ 1).
      and_left (not (eqb i 1) && not (is_none (file_in files i))) (is_none (home_in homes i))
      (and_left (not (eqb i 1)) (not (is_none (file_in files i))) (not_from_true (eqb i 1) (eq-eqb i 1 root))))
      (λ (ne : i ≢ 1).
      let n = by.shape.named i ne there in
      let at = entry_of_step files n.0 i n.1 n.2 in
      let x : List ℕ = get_or (es n.0) at.place [] in
      let has : has_name_of i (file_in files n.0) ≡ true =
      and_from (eqb (kind_of (file_in files n.0)) 1) (list_any (leads_down_to i) (es n.0)) (eq-eqb (kind_of (file_in files n.0)) 1 n.2.1.0)
      (list_any_at (leads_down_to i) (es n.0) at.place [] at.inside (and_from (leads_down x) (eqb (number_in x) i) at.down (eq-eqb (number_in x) i at.is))) in
      and_right (not (eqb i 1) && not (is_none (file_in files i))) (is_none (home_in homes i))
      (ap is_none (home_at files i (inside i there))
      ∙ position_some (has_name_of i) files n.0 None (inside n.0 (directory_is_file files n.0 n.2.1.0)) has))
      (cases_eq i 1)

  circle : (i : ℕ) → is_in_circle files homes i ≡ false
  circle i =
      let b : Bool = not (climbs (length homes) homes i) in
      ⊎_elim
      (λ (directory : eqb (kind_of (file_in files i)) 1 ≡ true).
      and_right (eqb (kind_of (file_in files i)) 1) b
      (not_from_true (climbs (length homes) homes i) (ends i (eqb-true (kind_of (file_in files i)) 1 directory))))
      (λ (other : eqb (kind_of (file_in files i)) 1 ≡ false). and_left (eqb (kind_of (file_in files i)) 1) b other)
      (cases_Bool (eqb (kind_of (file_in files i)) 1))

  right : (i : ℕ) → is_miscounted files homes i ≡ false
  right i =
      and_right (not (is_none (file_in files i)) && not (is_nameless files homes i)) (not (eqb (links_of (file_in files i)) (names_to files i)))
      (not_from_true (eqb (links_of (file_in files i)) (names_to files i))
      (eq-eqb (links_of (file_in files i)) (names_to files i)
      (count_unique (IsNameOf files i) (links_of (file_in files i)) (names_to files i) (counted i) (tree_names files i tree))))

  place_nil : (i : ℕ) → place_flaws files homes i ≡ []
  place_nil i =
      let a : List Flaw = flaw_if (is_nameless files homes i) (flaw.Nameless i) in
      let b : List Flaw = flaw_if (is_in_circle files homes i) (flaw.Circle i) in
      let c : List Flaw = flaw_if (is_miscounted files homes i) (flaw.Miscounted i) in
      nil_both a (b ++ c) (if_nil (is_nameless files homes i) (flaw.Nameless i) (named i (file_in files i) refl))
      (nil_both b c (if_nil (is_in_circle files homes i) (flaw.Circle i) (circle i)) (if_nil (is_miscounted files homes i) (flaw.Miscounted i) (right i)))

  pub tree_flawless : flaws_of files ≡ []
  tree_flawless =
      nil_both (root_flaws files) (flat_map (flaws_at files homes) (range_with_len 0 (length files)))
      (if_nil (not (eqb (kind_of (file_in files 1)) 1)) flaw.NoRoot
      (not_from_true (eqb (kind_of (file_in files 1)) 1) (eq-eqb (kind_of (file_in files 1)) 1 tree.rooted)))
      (range_nil (flaws_at files homes) (length files)
      (λ i low. nil_both (flaws_within files homes i) (place_flaws files homes i) (within_nil i) (place_nil i)))
