-- Files that have no flaw are a tree whose counts are right.
use Rattle.std.proofs.Common.{◌≡◌, ◌≢◌, ◌⊎◌, ◌∙◌, ℕ, zero, suc, ◌+◌, ◌%◌, ◌<◌, ◌≤◌, Bool, true, false, not, ◌&&◌, cond, eqb, List, [], ◌∷◌, ◌++◌, length, get_or, Option, Some, None, refl, sym, ap, subst, ⊎_elim, arith}
use Rattle.std.specs.Prelude.{is_none, position}
use Rattle.std.specs.List.{flat_map, list_any, range_with_len}
use Rattle.std.specs.Str.{bytes_eq}
use Rattle.std.proofs.lemmas.Bool.{and_cases, and_from, and_parts, both_ways, cases_Bool, cases_lt, cond-false, cond-true, eq-eqb, eqb-true, ne_eqb, not-false, not-true, not_from_false, or_cases, or_parts}
use Rattle.std.proofs.lemmas.List.{get_or_past}
use Rattle.std.proofs.lemmas.List.Folds.{list_any_at}
use Rattle.std.proofs.lemmas.List.FromFn.{get_or-map-range_with_len, get_or-range_with_len, length-range_with_len}
use Rattle.std.proofs.lemmas.List.Quantifiers.{position-Some}
use Rattle.std.proofs.lemmas.Slice.Eq.{bytes_eq-Decides}
use Rattle.model.specs.declared.types.image.File.{File}
use Rattle.model.specs.Files.{Files, file_in}
use Rattle.directories.specs.declared.flaws.Flaw.{Flaw}
use Rattle.directories.specs.declared.flaws.Flaw.TheVariants as flaw
use Rattle.directories.specs.Counts.{AreCounted, HasNames, IsNameOf, Place}
use Rattle.directories.specs.Entries.{entries_of, is_for, is_free, lookup, name_in, number_in, IsProper}
use Rattle.directories.specs.Flaws.{at_home, climbs, directory_flaws, entries_flaws, entry_flaws, flaw_if, flaws_at, flaws_of, flaws_within, has_name_of, home_in, home_of, homes_of, is_in_circle, is_later, is_miscounted, is_misnamed, is_nameless, is_other, is_proper, is_second, is_torn, leads_again, leads_down_to, leads_to_nothing, may_not_have, misses_parent, own_flaws, parent_in, place_flaws, root_flaws}
use Rattle.directories.specs.Tallying.{names_to}
use Rattle.directories.specs.Trees.{directory_in, kind_of, leads_down, links_of, parent_name, self_name, IsDirectory, IsDirectoryOf, IsFile, IsTidy, IsTree, StepsDown}
use Rattle.directories.specs.Lemmas.EntryBytes.{name_of_entry}
use Rattle.directories.specs.Lemmas.Places.{count_none}
use Rattle.directories.specs.Lemmas.TreeBy.{depth_in, directory_is_file, steps_make_tree, tree_makes_steps, IsTreeBy}
use Rattle.directories.specs.Lemmas.TreeMeaning.{directory_by, steps_lead}
use Rattle.directories.proofs.EntryPaths.{entry_of_step, step_of_entry, HasStep}
use Rattle.directories.proofs.FirstNames.{once_from_first}
use Rattle.directories.proofs.Tallies.{names_counted}

-- ---- lists without an element

pub nil_parts : {X : Type 0} (xs ys : List X) → xs ++ ys ≡ [] → (xs ≡ []) × (ys ≡ [])
nil_parts [] ys none = (refl, none)
nil_parts (x ∷ xs) ys none = absurd (cc none)

pub nil_if : (b : Bool) (f : Flaw) → flaw_if b f ≡ [] → b ≡ false
nil_if true f none = absurd (cc none)
nil_if false f none = refl

nil_each : {X A : Type 0} (f : X → List A) (xs : List X) (d : X) → flat_map f xs ≡ [] → (i : ℕ) → i < length xs → f (get_or xs i d) ≡ []
nil_each f [] d none i low = absurd (omega arith)
nil_each f (x ∷ xs) d none zero low = (nil_parts (f x) (flat_map f xs) none).0
nil_each f (x ∷ xs) d none (suc i) low =
    let more : length (x ∷ xs) ≡ suc (length xs) = refl in
    nil_each f xs d (nil_parts (f x) (flat_map f xs) none).1 i (omega arith)

pub nil_range : (f : ℕ → List Flaw) (n i : ℕ) → flat_map f (range_with_len 0 n) ≡ [] → i < n → f i ≡ []
nil_range f n i none low =
    let long : length (range_with_len 0 n) ≡ n = length-range_with_len 0 n in
    let at : get_or (range_with_len 0 n) i 0 ≡ 0 + i = get_or-range_with_len 0 n i 0 low in
    let same : get_or (range_with_len 0 n) i 0 ≡ i = omega arith in
    subst (λ (j : ℕ). f j ≡ []) same (nil_each f (range_with_len 0 n) 0 none i (omega arith))

pub any_place : {X : Type 0} (p : X → Bool) (d : X) (xs : List X) → list_any p xs ≡ true → (k : ℕ) × (k < length xs) × (p (get_or xs k d) ≡ true)
any_place p d [] any = absurd (cc any)
any_place p d (x ∷ xs) any =
    let more : length (x ∷ xs) ≡ suc (length xs) = refl in
    ⊎_elim (λ (here : p x ≡ true). (0, omega arith, here))
    (λ (there : list_any p xs ≡ true). let t = any_place p d xs there in let low : t.0 < length xs = t.1 in (suc t.0, omega arith, t.2))
    (or_cases (p x) (list_any p xs) any)

-- ---- tests that are false

right_false : (a b : Bool) → (a && b) ≡ false → a ≡ true → b ≡ false
right_false a b both is = ⊎_elim (λ (not_a : a ≡ false). absurd (both_ways a not_a is)) (λ (not_b : b ≡ false). not_b) (and_cases a b both)

pub same_other : (o : Option ℕ) (n : ℕ) → is_other o n ≡ false → o ≡ Some n
same_other None n h = absurd (cc h)
same_other (Some m) n h = ap (λ (k : ℕ). Some k) (eqb-true m n (not-false (eqb m n) h))

some_home : (o : Option ℕ) → is_none o ≡ false → (from : ℕ) × (o ≡ Some from)
some_home None h = absurd (cc h)
some_home (Some from) h = (from, refl)

there_from : (o : Option File) → is_none o ≡ false → o ≢ None
there_from o h none = both_ways (is_none o) h (ap is_none none)

pub not_none : (o : Option File) → o ≢ None → is_none o ≡ false
not_none None there = absurd (there refl)
not_none (Some file) there = refl

proper_from : (name : List ℕ) → is_proper name ≡ true → IsProper name
proper_from name h =
    let parts = and_parts (not (eqb (get_or name 0 0) 0)) (not (list_any (λ (b : ℕ). eqb b 47) name)) h in
    record {
      some = λ zero_is. both_ways (eqb (get_or name 0 0) 0) (not-true (eqb (get_or name 0 0) 0) parts.0) (eq-eqb (get_or name 0 0) 0 zero_is);
      no_slash = λ c.
          both_ways (list_any (λ (b : ℕ). eqb b 47) name) (not-true (list_any (λ (b : ℕ). eqb b 47) name) parts.1)
          (list_any_at (λ (b : ℕ). eqb b 47) name c.0 47 c.1 (eq-eqb (get_or name c.0 47) 47 c.2));
    }

-- ---- homes

pub home_at : (files : Files) (i : ℕ) → i < length files → home_in (homes_of files) i ≡ home_of files i
home_at files i low = get_or-map-range_with_len (home_of files) 0 (length files) i i None low (omega arith)

-- a directory, one of whose entries leads down to a number
pub record IsHome (files : Files) (number from : ℕ) : Type 0 where
  pub directory : IsDirectory files from
  pub place : ℕ
  pub inside : place < length (entries_of (directory_in files from))
  pub down : leads_down (get_or (entries_of (directory_in files from)) place []) ≡ true
  pub is : number_in (get_or (entries_of (directory_in files from)) place []) ≡ number

pub is_home : (files : Files) (number from : ℕ) → has_name_of number (file_in files from) ≡ true → IsHome files number from
is_home files number from has =
    let es : List (List ℕ) = entries_of (directory_in files from) in
    let parts = and_parts (eqb (kind_of (file_in files from)) 1) (list_any (leads_down_to number) es) has in
    let at = any_place (leads_down_to number) [] es parts.1 in
    let leads = and_parts (leads_down (get_or es at.0 [])) (eqb (number_in (get_or es at.0 [])) number) at.2 in
    record {
      directory = eqb-true (kind_of (file_in files from)) 1 parts.0;
      place = at.0;
      inside = at.1;
      down = leads.0;
      is = eqb-true (number_in (get_or es at.0 [])) number leads.1;
    }

-- ---- how high a file stands

height : ℕ → List (Option ℕ) → ℕ → ℕ
height zero homes i = 0
height (suc n) homes i = cond (eqb i 1) 0 (at_home (home_in homes i) 0 (λ (from : ℕ). suc (height n homes from)))

height_root : (n : ℕ) (homes : List (Option ℕ)) (i : ℕ) → eqb i 1 ≡ true → height (suc n) homes i ≡ 0
unfolding height
height_root n homes i is = cond-true (eqb i 1) 0 (at_home (home_in homes i) 0 (λ (from : ℕ). suc (height n homes from))) is

height_more : (n : ℕ) (homes : List (Option ℕ)) (i : ℕ) → eqb i 1 ≡ false → height (suc n) homes i ≡ at_home (home_in homes i) 0 (λ (from : ℕ). suc (height n homes from))
unfolding height
height_more n homes i is = cond-false (eqb i 1) 0 (at_home (home_in homes i) 0 (λ (from : ℕ). suc (height n homes from))) is

climbs_on : (n : ℕ) (homes : List (Option ℕ)) (i : ℕ) → climbs (suc n) homes i ≡ true → eqb i 1 ≡ false → at_home (home_in homes i) true (climbs n homes) ≡ true
climbs_on n homes i h ne =
    ⊎_elim (λ (root : eqb i 1 ≡ true). absurd (both_ways (eqb i 1) ne root)) (λ (on : at_home (home_in homes i) true (climbs n homes) ≡ true). on)
    (or_cases (eqb i 1) (at_home (home_in homes i) true (climbs n homes)) h)

stable_by : (n : ℕ) (homes : List (Option ℕ)) → ((j : ℕ) → climbs n homes j ≡ true → height n homes j ≡ height (suc n) homes j) → (o : Option ℕ) →
    at_home o true (climbs n homes) ≡ true → at_home o 0 (λ (f : ℕ). suc (height n homes f)) ≡ at_home o 0 (λ (f : ℕ). suc (height (suc n) homes f))
stable_by n homes same None h = refl
stable_by n homes same (Some from) h = ap suc (same from h)

stable : (n : ℕ) (homes : List (Option ℕ)) (i : ℕ) → climbs n homes i ≡ true → height n homes i ≡ height (suc n) homes i
stable zero homes i h = absurd (cc h)
stable (suc n) homes i h =
    ⊎_elim (λ (root : eqb i 1 ≡ true). height_root n homes i root ∙ sym (height_root (suc n) homes i root))
    (λ (ne : eqb i 1 ≡ false).
    height_more n homes i ne ∙ stable_by n homes (stable n homes) (home_in homes i) (climbs_on n homes i h ne) ∙ sym (height_more (suc n) homes i ne))
    (cases_Bool (eqb i 1))

-- a file stands higher than its home
higher : (n : ℕ) (homes : List (Option ℕ)) (i from : ℕ) → i ≢ 1 → home_in homes i ≡ Some from → climbs n homes i ≡ true → height n homes from < height n homes i
higher zero homes i from ne home h = absurd (cc h)
higher (suc n) homes i from ne home h =
    let other : eqb i 1 ≡ false = ne_eqb i 1 ne in
    let on : climbs n homes from ≡ true = sym (ap (λ (o : Option ℕ). at_home o true (climbs n homes)) home) ∙ climbs_on n homes i h other in
    let here : height (suc n) homes i ≡ suc (height n homes from) =
    height_more n homes i other ∙ ap (λ (o : Option ℕ). at_home o 0 (λ (f : ℕ). suc (height n homes f))) home in
    let same : height n homes from ≡ height (suc n) homes from = stable n homes from on in omega arith

-- ---- no flaw

module _ (files : Files) (none : flaws_of files ≡ []) where
  abbrev homes : List (Option ℕ)
  homes = homes_of files

  abbrev bytes : ℕ → List ℕ
  bytes i = directory_in files i

  abbrev es : ℕ → List (List ℕ)
  es i = entries_of (directory_in files i)

  both : (root_flaws files ≡ []) × (flat_map (flaws_at files (homes_of files)) (range_with_len 0 (length files)) ≡ [])
  both = nil_parts (root_flaws files) (flat_map (flaws_at files (homes_of files)) (range_with_len 0 (length files))) none

  rooted : IsDirectory files 1
  rooted = eqb-true (kind_of (file_in files 1)) 1
      (not-false (eqb (kind_of (file_in files 1)) 1) (nil_if (not (eqb (kind_of (file_in files 1)) 1)) flaw.NoRoot both.0))

  inside : (i : ℕ) → IsFile files i → i < length files
  inside i there =
      ⊎_elim (λ (low : i < length files). low) (λ (past : length files ≤ i). absurd (there (get_or_past files i None past))) (cases_lt i (length files))

  at : (i : ℕ) → IsFile files i → (flaws_within files homes i ≡ []) × (place_flaws files homes i ≡ [])
  at i there = nil_parts (flaws_within files homes i) (place_flaws files homes i) (nil_range (flaws_at files homes) (length files) i both.1 (inside i there))

  -- ---- within a directory

  within : (i : ℕ) → IsDirectory files i → (own_flaws homes i (bytes i) ≡ []) × (entries_flaws files homes i (es i) (length (es i)) ≡ [])
  within i is =
      nil_parts (own_flaws homes i (bytes i)) (entries_flaws files homes i (es i) (length (es i)))
      (sym (cond-true (eqb (kind_of (file_in files i)) 1) (directory_flaws files homes i (bytes i)) [] (eq-eqb (kind_of (file_in files i)) 1 is))
      ∙ (at i (directory_is_file files i is)).0)

  record HasOwn (i : ℕ) : Type 0 where
    pub torn : is_torn (bytes i) ≡ false
    pub own : is_other (lookup (bytes i) self_name) i ≡ false
    pub parent : misses_parent homes i (bytes i) ≡ false

  has_own : (i : ℕ) → IsDirectory files i → HasOwn i
  has_own i is =
      let rest : List Flaw = flaw_if (is_other (lookup (bytes i) self_name) i) (flaw.Own i) ++ flaw_if (misses_parent homes i (bytes i)) (flaw.Parent i) in
      let first = nil_parts (flaw_if (is_torn (bytes i)) (flaw.Torn i)) rest (within i is).0 in
      let second = nil_parts (flaw_if (is_other (lookup (bytes i) self_name) i) (flaw.Own i)) (flaw_if (misses_parent homes i (bytes i)) (flaw.Parent i)) first.1 in
      record {
        torn = nil_if (is_torn (bytes i)) (flaw.Torn i) first.0;
        own = nil_if (is_other (lookup (bytes i) self_name) i) (flaw.Own i) second.0;
        parent = nil_if (misses_parent homes i (bytes i)) (flaw.Parent i) second.1;
      }

  record HasEntry (i k : ℕ) : Type 0 where
    pub named : is_misnamed (get_or (es i) k []) ≡ false
    pub once : is_second (es i) k ≡ false
    pub file : leads_to_nothing files (get_or (es i) k []) ≡ false
    pub first : leads_again files homes i (es i) k ≡ false

  has_entry : (i : ℕ) → IsDirectory files i → (k : ℕ) → k < length (es i) → HasEntry i k
  has_entry i is k low =
      let a : List Flaw = flaw_if (is_misnamed (get_or (es i) k [])) (flaw.Misnamed i k) in
      let b : List Flaw = flaw_if (is_second (es i) k) (flaw.Twice i k) in
      let c : List Flaw = flaw_if (leads_to_nothing files (get_or (es i) k [])) (flaw.Nothing i k) in
      let d : List Flaw = flaw_if (leads_again files homes i (es i) k) (flaw.Again i k) in
      let one = nil_parts a (b ++ (c ++ d)) (nil_range (entry_flaws files homes i (es i)) (length (es i)) k (within i is).1 low) in
      let two = nil_parts b (c ++ d) one.1 in
      let three = nil_parts c d two.1 in
      record {
        named = nil_if (is_misnamed (get_or (es i) k [])) (flaw.Misnamed i k) one.0;
        once = nil_if (is_second (es i) k) (flaw.Twice i k) two.0;
        file = nil_if (leads_to_nothing files (get_or (es i) k [])) (flaw.Nothing i k) three.0;
        first = nil_if (leads_again files homes i (es i) k) (flaw.Again i k) three.1;
      }

  tidy : (i : ℕ) → IsDirectory files i → IsTidy (bytes i)
  tidy i is = record {
    whole = eqb-true (length (bytes i) % 16) 0 (not-false (eqb (length (bytes i) % 16) 0) (has_own i is).torn);
    named = λ k low used.
        let e : List ℕ = get_or (es i) k [] in
        proper_from (name_in e) (not-false (is_proper (name_in e))
        (right_false (not (is_free e)) (not (is_proper (name_in e))) (has_entry i is k low).named (not_from_false (is_free e) used)));
    once = once_from_first (bytes i)
        (λ k low used.
        let e : List ℕ = get_or (es i) k [] in
        same_other (position (is_for (name_in e)) (es i)) k
        (right_false (not (is_free e)) (is_other (position (is_for (name_in e)) (es i)) k) (has_entry i is k low).once
        (not_from_false (is_free e) used)));
  }

  -- what an entry leads down to
  record Leads (i k n : ℕ) : Type 0 where
    pub file : IsFile files n
    pub apart : n ≢ 1
    pub home : IsDirectory files n → home_in homes n ≡ Some i
    pub first : IsDirectory files n → position (leads_down_to n) (es i) ≡ Some k

  leads_at : (i : ℕ) → IsDirectory files i → (k : ℕ) → k < length (es i) → leads_down (get_or (es i) k []) ≡ true → Leads i k (number_in (get_or (es i) k []))
  leads_at i is k low down =
      let e : List ℕ = get_or (es i) k [] in
      let n : ℕ = number_in e in
      let has = has_entry i is k low in
      let may = or_parts (eqb n 1) (eqb (kind_of (file_in files n)) 1 && is_later homes i (es i) k n)
      (right_false (leads_down e) (may_not_have files homes i (es i) k n) has.first down) in
      let later : IsDirectory files n → (is_other (home_in homes n) i ≡ false) × (is_other (position (leads_down_to n) (es i)) k ≡ false) =
      λ directory. or_parts (is_other (home_in homes n) i) (is_other (position (leads_down_to n) (es i)) k)
      (right_false (eqb (kind_of (file_in files n)) 1) (is_later homes i (es i) k n) may.1 (eq-eqb (kind_of (file_in files n)) 1 directory)) in
      record {
        file = there_from (file_in files n) (right_false (leads_down e) (is_none (file_in files n)) has.file down);
        apart = λ same. both_ways (eqb n 1) may.0 (eq-eqb n 1 same);
        home = λ directory. same_other (home_in homes n) i (later directory).0;
        first = λ directory. same_other (position (leads_down_to n) (es i)) k (later directory).1;
      }

  -- and a name
  step_at : (i n : ℕ) (name : List ℕ) → StepsDown files i name n → HasStep (es i) name n
  step_at i n name step = entry_of_step files i n name step

  step_leads : (i n : ℕ) (name : List ℕ) (step : StepsDown files i name n) → Leads i (step_at i n name step).place n
  step_leads i n name step =
      let at_step = step_at i n name step in
      subst (λ (m : ℕ). Leads i at_step.place m) at_step.is (leads_at i step.1.0 at_step.place at_step.inside at_step.down)

  -- ---- where a file stands

  record Stands (i : ℕ) : Type 0 where
    pub named : is_nameless files homes i ≡ false
    pub ends : is_in_circle files homes i ≡ false
    pub counted : is_miscounted files homes i ≡ false

  stands : (i : ℕ) → IsFile files i → Stands i
  stands i there =
      let a : List Flaw = flaw_if (is_nameless files homes i) (flaw.Nameless i) in
      let b : List Flaw = flaw_if (is_in_circle files homes i) (flaw.Circle i) in
      let c : List Flaw = flaw_if (is_miscounted files homes i) (flaw.Miscounted i) in
      let one = nil_parts a (b ++ c) (at i there).1 in
      let two = nil_parts b c one.1 in
      record {
        named = nil_if (is_nameless files homes i) (flaw.Nameless i) one.0;
        ends = nil_if (is_in_circle files homes i) (flaw.Circle i) two.0;
        counted = nil_if (is_miscounted files homes i) (flaw.Miscounted i) two.1;
      }

  -- a file but the root has a home
  housed : (i : ℕ) → i ≢ 1 → IsFile files i → (from : ℕ) × (home_in homes i ≡ Some from) × IsHome files i from
  housed i ne there =
      let a : Bool = not (eqb i 1) in
      let b : Bool = not (is_none (file_in files i)) in
      let other : (a && b) ≡ true = and_from a b (not_from_false (eqb i 1) (ne_eqb i 1 ne)) (not_from_false (is_none (file_in files i)) (not_none (file_in files i) there)) in
      let home = some_home (home_in homes i) (right_false (a && b) (is_none (home_in homes i)) (stands i there).named other) in
      let found = position-Some (has_name_of i) files home.0 None (sym (home_at files i (inside i there)) ∙ home.1) in
      (home.0, home.1, is_home files i home.0 found.1)

  up_is : (i from : ℕ) → IsDirectory files i → parent_in homes i ≡ Some from → lookup (bytes i) parent_name ≡ Some from
  up_is i from is parent =
      same_other (lookup (bytes i) parent_name) from
      (sym (ap (λ (o : Option ℕ). at_home o false (is_other (lookup (bytes i) parent_name))) parent) ∙ (has_own i is).parent)

  directory_of : (i from : ℕ) → IsDirectory files i → parent_in homes i ≡ Some from → IsDirectoryOf (bytes i) i from
  directory_of i from is parent = record {
    tidy = tidy i is;
    own = same_other (lookup (bytes i) self_name) i (has_own i is).own;
    up = up_is i from is parent;
  }

  parent_other : (i from : ℕ) → i ≢ 1 → home_in homes i ≡ Some from → parent_in homes i ≡ Some from
  parent_other i from ne home = cond-false (eqb i 1) (Some 1) (home_in homes i) (ne_eqb i 1 ne) ∙ home

  depth : ℕ → ℕ
  depth i = height (length homes) homes i

  tree_by : IsTreeBy files depth
  unfolding depth
  tree_by = record {
    rooted = rooted;
    top = directory_of 1 1 rooted refl;
    below = λ from i name down step is.
        let leads = step_leads from i name (down, step) in directory_of i from is (parent_other i from leads.apart (leads.home is));
    shape = record {
      above = λ from i name step. directory_is_file files from step.1.0;
      lead = λ from i name step. let leads = step_leads from i name step in (leads.file, leads.apart);
      named = λ i ne there.
          let home = housed i ne there in
          let h = home.2 in
          let e : List ℕ = get_or (es home.0) h.place [] in (
            home.0,
            name_in e,
            subst (λ (n : ℕ). StepsDown files home.0 (name_in e) n) h.is
                (step_of_entry files home.0 h.place h.directory (tidy home.0 h.directory) h.inside h.down),
          );
      parent = λ a b i x y is at_a at_b.
          let same : Some a ≡ Some b = sym ((step_leads a i x at_a).home is) ∙ (step_leads b i y at_b).home is in cc same;
      name = λ a i x y is at_x at_y.
          let to_x = step_at a i x at_x in
          let to_y = step_at a i y at_y in
          let both_are : Some to_x.place ≡ Some to_y.place = sym ((step_leads a i x at_x).first is) ∙ (step_leads a i y at_y).first is in
          let same : to_x.place ≡ to_y.place = cc both_are in
          sym (name_of_entry x (get_or (es a) to_x.place []) to_x.is_for) ∙ ap (λ (k : ℕ). name_in (get_or (es a) k [])) same
          ∙ name_of_entry y (get_or (es a) to_y.place []) to_y.is_for;
      deeper = λ from i name is step.
          let leads = step_leads from i name step in
          let ends : climbs (length homes) homes i ≡ true =
          not-false (climbs (length homes) homes i)
          (right_false (eqb (kind_of (file_in files i)) 1) (not (climbs (length homes) homes i)) (stands i leads.file).ends (eq-eqb (kind_of (file_in files i)) 1 is)) in
          higher (length homes) homes i from leads.apart (leads.home is) ends;
    };
  }

  pub no_flaw_tree : IsTree files
  no_flaw_tree = steps_make_tree files depth tree_by

  -- ---- counts

  none_leads : (i : ℕ) → file_in files i ≡ None → (p : Place) → IsNameOf files i p → ⊥
  none_leads i gone p so =
      ⊎_elim
      (λ (up : bytes_eq p.1 parent_name ≡ true).
      let name_is : p.1 ≡ parent_name = (bytes_eq-Decides p.1 parent_name).0 up in
      let of = directory_by files (depth_in files no_flaw_tree) p.0 (tree_makes_steps files no_flaw_tree) so.1.0 in
      let two : Some i ≡ Some of.0 = sym so.1.1 ∙ ap (λ (name : List ℕ). lookup (bytes p.0) name) name_is ∙ of.1.up in
      let same : of.0 ≡ i = cc two in
      directory_is_file files i (subst (λ (k : ℕ). IsDirectory files k) same of.2) gone)
      (λ (other : bytes_eq p.1 parent_name ≡ false).
      (steps_lead files p.0 i p.1 no_flaw_tree
      (so.0, λ up. both_ways (bytes_eq p.1 parent_name) other ((bytes_eq-Decides p.1 parent_name).1 up)) so.1).0 gone)
      (cases_Bool (bytes_eq p.1 parent_name))

  counted_by : (i : ℕ) (o : Option File) → file_in files i ≡ o → HasNames files i (links_of (file_in files i))
  counted_by i None gone = subst (λ (o : Option File). HasNames files i (links_of o)) (sym gone) (count_none (IsNameOf files i) (none_leads i gone))
  counted_by i (Some file) is =
      let there : IsFile files i = λ gone. let two : Some file ≡ None = sym is ∙ gone in absurd (cc two) in
      let stand = stands i there in
      let a : Bool = not (is_none (file_in files i)) in
      let b : Bool = not (is_nameless files homes i) in
      let known : (a && b) ≡ true = and_from a b (not_from_false (is_none (file_in files i)) (not_none (file_in files i) there)) (not_from_false (is_nameless files homes i) stand.named) in
      let same : links_of (file_in files i) ≡ names_to files i = eqb-true (links_of (file_in files i)) (names_to files i)
      (not-false (eqb (links_of (file_in files i)) (names_to files i))
      (right_false (a && b) (not (eqb (links_of (file_in files i)) (names_to files i))) stand.counted known)) in
      subst (λ (n : ℕ). HasNames files i n) (sym same) (names_counted files i tidy)

  pub no_flaw_counted : AreCounted files
  no_flaw_counted i = counted_by i (file_in files i) refl
