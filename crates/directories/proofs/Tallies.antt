-- How many names lead to a number, as the entries of each directory tell.
use Rattle.std.proofs.Common.{◌≡◌, ◌≢◌, ◌⊎◌, inl, inr, ℕ, zero, suc, ◌+◌, ◌<◌, ◌≤◌, true, false, not, ◌||◌, eqb, List, [], length, get_or, take, Some, None, refl, sym, ap, ap₂, subst, ◌∙◌, ⊎_elim, arith}
use Rattle.std.specs.List.{sum_by}
use Rattle.std.specs.Prelude.{count_by}
use Rattle.std.specs.Str.{bytes_eq}
use Rattle.std.proofs.lemmas.Bool.{and_from, and_parts, both_ways, cases_Bool, cases_eq, cases_lt, cond-false, cond-true, eq-eqb, eqb-true, false_from_ne_true, ne_eqb, not-true, not_from_false, or_from, or_parts}
use Rattle.std.proofs.lemmas.List.{get_or_past, take_all}
use Rattle.std.proofs.lemmas.List.Sums.{count_by_more_no, count_by_more_yes, sum_by_more}
use Rattle.std.proofs.lemmas.Slice.Eq.{bytes_eq-Decides}
use Rattle.model.specs.Files.{Files, file_in}
use Rattle.directories.specs.Counts.{AreCount, HasNames, IsNameOf, Place}
use Rattle.directories.specs.Entries.{entries_of, is_for, is_free, lookup, name_in, number_in}
use Rattle.directories.specs.Tallying.{is_counted, leads_to, names_among, names_in, names_to}
use Rattle.directories.specs.Trees.{directory_in, kind_of, self_name, IsDirectory, IsTidy, IsTree}
use Rattle.directories.specs.Lemmas.EntryBytes.{name_of_entry}
use Rattle.directories.proofs.EntryPaths.{lookup_place}
use Rattle.directories.specs.Lemmas.Places.{count_more, count_none, count_same}
use Rattle.directories.specs.Lemmas.Standing.{lookup_at, stands_at}
use Rattle.directories.specs.Lemmas.TreeMeaning.{directories_are_tidy, for_itself, is_first}

-- ---- an entry that leads to a number

pub record LeadsTo (number : ℕ) (entry : List ℕ) : Type 0 where
  pub used : is_free entry ≡ false
  pub other : name_in entry ≢ self_name
  pub is : number_in entry ≡ number

leads_parts : (number : ℕ) (entry : List ℕ) → leads_to number entry ≡ true → LeadsTo number entry
leads_parts number entry leads =
    let parts = and_parts (is_counted entry) (eqb (number_in entry) number) leads in
    let neither = or_parts (is_free entry) (bytes_eq (name_in entry) self_name) (not-true (is_free entry || bytes_eq (name_in entry) self_name) parts.0) in
    record {
      used = neither.0;
      other = λ own. both_ways (bytes_eq (name_in entry) self_name) neither.1 ((bytes_eq-Decides (name_in entry) self_name).1 own);
      is = eqb-true (number_in entry) number parts.1;
    }

leads_from : (number : ℕ) (entry : List ℕ) → LeadsTo number entry → leads_to number entry ≡ true
leads_from number entry l =
    and_from (is_counted entry) (eqb (number_in entry) number)
    (not_from_false (is_free entry || bytes_eq (name_in entry) self_name)
    (or_from (is_free entry) (bytes_eq (name_in entry) self_name) l.used
    (false_from_ne_true (bytes_eq (name_in entry) self_name) (λ same. l.other ((bytes_eq-Decides (name_in entry) self_name).0 same)))))
    (eq-eqb (number_in entry) number l.is)

used_for : (name entry : List ℕ) → is_for name entry ≡ true → is_free entry ≡ false
used_for name entry is = not-true (is_free entry) (and_parts (not (is_free entry)) (bytes_eq (name_in entry) name) is).0

-- ---- the names of the first files, and of the first entries of the next one

-- one of the first entries has a name
pub record HasFirst (entries : List (List ℕ)) (j : ℕ) (name : List ℕ) : Type 0 where
  pub place : ℕ
  pub inside : place < j
  pub is : is_for name (get_or entries place []) ≡ true

first_more : (entries : List (List ℕ)) (j : ℕ) (name : List ℕ) → HasFirst entries j name → HasFirst entries (j + 1) name
first_more entries j name h = let low : h.place < j = h.inside in record { place = h.place; inside = omega arith; is = h.is }

-- the last of them, or one before
first_less : (entries : List (List ℕ)) (j : ℕ) (name : List ℕ) → HasFirst entries (j + 1) name → HasFirst entries j name ⊎ (is_for name (get_or entries j []) ≡ true)
first_less entries j name h =
    let low : h.place < j + 1 = h.inside in
    ⊎_elim (λ (before : h.place < j). inl (record { place = h.place; inside = before; is = h.is }))
    (λ (last : j ≤ h.place). let same : h.place ≡ j = omega arith in inr (subst (λ (i : ℕ). is_for name (get_or entries i []) ≡ true) same h.is))
    (cases_lt h.place j)

abbrev place_at : ℕ → List ℕ → Place
place_at from name = (from, name)

module _ (files : Files) (number : ℕ) where
  abbrev So : Place → Type 0
  So = IsNameOf files number

  abbrev entries : ℕ → List (List ℕ)
  entries from = entries_of (directory_in files from)

  abbrev IsWithin : ℕ → ℕ → Place → Type 0
  IsWithin k j p = So p × ((p.0 < k) ⊎ ((p.0 ≡ k) × HasFirst (entries k) j p.1))

  -- ---- one entry more

  module _ (k j : ℕ) (is : IsDirectory files k) (tidy : IsTidy (directory_in files k)) (inside : j < length (entries k)) where
    abbrev bytes : List ℕ
    bytes = directory_in files k

    abbrev entry : List ℕ
    entry = get_or (entries k) j []

    abbrev q : Place
    q = place_at k (name_in entry)

    led : (name : List ℕ) → is_for name entry ≡ true → lookup bytes name ≡ Some (number_in entry)
    led name here = lookup_at bytes name j (is_first bytes name j (tidy.once name) (inside, here))

    not_within : is_free entry ≡ false → IsWithin k j q → ⊥
    not_within used w =
        ⊎_elim (λ (low : k < k). absurd (omega arith))
        (λ (h : (k ≡ k) × HasFirst (entries k) j (name_in entry)).
        let low : h.1.place < j = h.1.inside in
        let same : h.1.place ≡ j = (tidy.once (name_in entry)).same h.1.place j (omega arith, h.1.is) (inside, for_itself entry used) in absurd (omega arith)) w.1

    now_within : LeadsTo number entry → IsWithin k (j + 1) q
    now_within l = (
      (l.other, (is, led (name_in entry) (for_itself entry l.used) ∙ ap (λ (n : ℕ). Some n) l.is)),
      inr (refl, record { place = j; inside = omega arith; is = for_itself entry l.used }),
    )

    within_on : (p : Place) → IsWithin k j p → IsWithin k (j + 1) p
    within_on p w = (
      w.0,
      ⊎_elim (λ (low : p.0 < k). inl low) (λ (h : (p.0 ≡ k) × HasFirst (entries k) j p.1). inr (h.0, first_more (entries k) j p.1 h.1)) w.1,
    )

    -- a name of these is one of those before, or that of the entry
    within_back : (p : Place) → IsWithin k (j + 1) p → IsWithin k j p ⊎ ((p.0 ≡ k) × (is_for p.1 entry ≡ true))
    within_back p w =
        ⊎_elim (λ (low : p.0 < k). inl (w.0, inl low))
        (λ (h : (p.0 ≡ k) × HasFirst (entries k) (j + 1) p.1).
        ⊎_elim (λ (before : HasFirst (entries k) j p.1). inl (w.0, inr (h.0, before))) (λ (last : is_for p.1 entry ≡ true). inr (h.0, last))
        (first_less (entries k) j p.1 h.1)) w.1

    counted_here : (p : Place) → So p → p.0 ≡ k → is_for p.1 entry ≡ true → LeadsTo number entry
    counted_here p so same here =
        let named : name_in entry ≡ p.1 = name_of_entry p.1 entry here in
        let to_number : lookup bytes p.1 ≡ Some number = subst (λ (from : ℕ). lookup (directory_in files from) p.1 ≡ Some number) same so.1.1 in
        let both : Some (number_in entry) ≡ Some number = sym (led p.1 here) ∙ to_number in
        record { used = used_for p.1 entry here; other = λ own. so.0 (sym named ∙ own); is = cc both }

    pub one_more : (n m : ℕ) → m ≡ n + 1 → leads_to number entry ≡ true → AreCount (IsWithin k j) n → AreCount (IsWithin k (j + 1)) m
    one_more n m more leads c =
        let l = leads_parts number entry leads in
        count_more (IsWithin k j) (IsWithin k (j + 1)) q n m more (not_within l.used) (now_within l) within_on
        (λ p w. ⊎_elim (λ (was : IsWithin k j p). inr was)
        (λ (h : (p.0 ≡ k) × (is_for p.1 entry ≡ true)). inl (ap₂ (λ (a : ℕ) (n : List ℕ). place_at a n) (sym h.0) (name_of_entry p.1 entry h.1)))
        (within_back p w)) c

    pub no_more : (n : ℕ) → leads_to number entry ≡ false → AreCount (IsWithin k j) n → AreCount (IsWithin k (j + 1)) n
    no_more n leads c =
        count_same (IsWithin k j) (IsWithin k (j + 1)) n within_on
        (λ p w. ⊎_elim (λ (was : IsWithin k j p). was)
        (λ (h : (p.0 ≡ k) × (is_for p.1 entry ≡ true)).
        absurd (both_ways (leads_to number entry) leads (leads_from number entry (counted_here p w.0 h.0 h.1)))) (within_back p w)) c

  -- ---- all entries of a directory

  count_in : (k base : ℕ) → IsDirectory files k → IsTidy (directory_in files k) → AreCount (IsWithin k 0) base → (j m : ℕ) → j ≤ length (entries k) →
      m ≡ base + count_by (leads_to number) (take j (entries k)) → AreCount (IsWithin k j) m
  count_in k base is tidy c zero m low many = let same : base ≡ m = omega arith in subst (λ (n : ℕ). AreCount (IsWithin k 0) n) same c
  count_in k base is tidy c (suc j) m low many =
      let next : suc j ≡ j + 1 = omega arith in
      let inside : j < length (entries k) = omega arith in
      let entry_here : List ℕ = get_or (entries k) j [] in
      let so_far : ℕ = base + count_by (leads_to number) (take j (entries k)) in
      let before = count_in k base is tidy c j so_far (omega arith) refl in
      let now : m ≡ base + count_by (leads_to number) (take (j + 1) (entries k)) =
      subst (λ (i : ℕ). m ≡ base + count_by (leads_to number) (take i (entries k))) next many in
      subst (λ (i : ℕ). AreCount (IsWithin k i) m) (sym next)
      (⊎_elim
      (λ (leads : leads_to number (get_or (entries k) j []) ≡ true).
      let more = count_by_more_yes (leads_to number) (entries k) j [] inside leads in
      one_more k j is tidy inside so_far m (omega arith) leads before)
      (λ (leads : leads_to number (get_or (entries k) j []) ≡ false).
      let more = count_by_more_no (leads_to number) (entries k) j [] inside leads in
      let same : so_far ≡ m = omega arith in
      subst (λ (n : ℕ). AreCount (IsWithin k (j + 1)) n) same (no_more k j is tidy inside so_far leads before))
      (cases_Bool (leads_to number (get_or (entries k) j []))))

  -- ---- all files

  -- an entry of each name of a directory
  entry_of : (k : ℕ) (p : Place) → So p → p.0 ≡ k → HasFirst (entries k) (length (entries k)) p.1
  entry_of k p so same =
      let to_number : lookup (directory_in files k) p.1 ≡ Some number = subst (λ (from : ℕ). lookup (directory_in files from) p.1 ≡ Some number) same so.1.1 in
      let found = lookup_place (directory_in files k) p.1 number to_number in
      let at = stands_at (is_for p.1) (entries k) found.0 found.1 in
      record { place = found.0; inside = at.within; is = at.passes }

  next_file : (k : ℕ) (p : Place) → IsWithin (k + 1) 0 p → So p × ((p.0 < k) ⊎ (p.0 ≡ k))
  next_file k p w = (
    w.0,
    ⊎_elim
        (λ (low : p.0 < k + 1). ⊎_elim (λ (before : p.0 < k). inl before) (λ (last : k ≤ p.0). inr (omega arith)) (cases_lt p.0 k))
        (λ (h : (p.0 ≡ k + 1) × HasFirst (entries (k + 1)) 0 p.1). let low : h.1.place < 0 = h.1.inside in absurd (omega arith)) w.1,
  )

  pub names_in_directory : (k : ℕ) → IsDirectory files k → names_in number (file_in files k) ≡ names_among (entries k) number
  unfolding names_in
  names_in_directory k is = cond-true (eqb (kind_of (file_in files k)) 1) (names_among (entries k) number) 0 (eq-eqb (kind_of (file_in files k)) 1 is)

  pub names_in_other : (k : ℕ) → (IsDirectory files k → ⊥) → names_in number (file_in files k) ≡ 0
  unfolding names_in
  names_in_other k not = cond-false (eqb (kind_of (file_in files k)) 1) (names_among (entries k) number) 0 (ne_eqb (kind_of (file_in files k)) 1 not)

  module _ (tidy : (from : ℕ) → IsDirectory files from → IsTidy (directory_in files from)) where
    count_file : (k n m : ℕ) → m ≡ n + names_in number (file_in files k) → AreCount (IsWithin k 0) n → AreCount (IsWithin (k + 1) 0) m
    count_file k n m many c =
        ⊎_elim
        (λ (is : IsDirectory files k).
        let here = names_in_directory k is in
        let whole = ap (λ (l : List (List ℕ)). count_by (leads_to number) l) (take_all (length (entries k)) (entries k) (omega arith)) in
        count_same (IsWithin k (length (entries k))) (IsWithin (k + 1) 0) m
        (λ p w. (
          w.0,
          inl (⊎_elim (λ (low : p.0 < k). omega arith) (λ (h : (p.0 ≡ k) × HasFirst (entries k) (length (entries k)) p.1). let same : p.0 ≡ k = h.0 in omega arith) w.1),
        ))
        (λ p w.
        let n_w = next_file k p w in
        (n_w.0, ⊎_elim (λ (low : p.0 < k). inl low) (λ (same : p.0 ≡ k). inr (same, entry_of k p n_w.0 same)) n_w.1))
        (count_in k n is (tidy k is) c (length (entries k)) m (omega arith) (omega arith)))
        (λ (not : IsDirectory files k → ⊥).
        let none = names_in_other k not in
        let same_count : n ≡ m = omega arith in
        subst (λ (i : ℕ). AreCount (IsWithin (k + 1) 0) i) same_count
        (count_same (IsWithin k 0) (IsWithin (k + 1) 0) n
        (λ p w. (
          w.0,
          ⊎_elim (λ (low : p.0 < k). inl (omega arith)) (λ (h : (p.0 ≡ k) × HasFirst (entries k) 0 p.1). let low : h.1.place < 0 = h.1.inside in absurd (omega arith)) w.1,
        ))
        (λ p w.
        let n_w = next_file k p w in
        (n_w.0, ⊎_elim (λ (low : p.0 < k). inl low) (λ (same : p.0 ≡ k). absurd (not (subst (λ (from : ℕ). IsDirectory files from) same n_w.0.1.0))) n_w.1))
        c))
        (cases_eq (kind_of (file_in files k)) 1)

    count_files : (k m : ℕ) → k ≤ length files → m ≡ sum_by (names_in number) (take k files) → AreCount (IsWithin k 0) m
    count_files zero m low many =
        let none : 0 ≡ m = omega arith in
        subst (λ (n : ℕ). AreCount (IsWithin 0 0) n) none
        (count_none (IsWithin 0 0)
        (λ p w. ⊎_elim (λ (low : p.0 < 0). omega arith) (λ (h : (p.0 ≡ 0) × HasFirst (entries 0) 0 p.1). let low : h.1.place < 0 = h.1.inside in omega arith) w.1))
    count_files (suc k) m low many =
        let next : suc k ≡ k + 1 = omega arith in
        let more = sum_by_more (names_in number) files k None (omega arith) in
        let now : m ≡ sum_by (names_in number) (take (k + 1) files) = subst (λ (i : ℕ). m ≡ sum_by (names_in number) (take i files)) next many in
        subst (λ (i : ℕ). AreCount (IsWithin i 0) m) (sym next)
        (count_file k (sum_by (names_in number) (take k files)) m (omega arith) (count_files k (sum_by (names_in number) (take k files)) (omega arith) refl))

    inside_files : (p : Place) → So p → p.0 < length files
    inside_files p so =
        ⊎_elim (λ (low : p.0 < length files). low)
        (λ (past : length files ≤ p.0).
        let free : 0 ≡ 1 = sym (ap kind_of (get_or_past files p.0 None past)) ∙ so.1.0 in absurd (omega arith)) (cases_lt p.0 (length files))

    pub names_counted : HasNames files number (names_to files number)
    names_counted =
        count_same (IsWithin (length files) 0) So (names_to files number) (λ p w. w.0) (λ p so. (so, inl (inside_files p so)))
        (count_files (length files) (names_to files number) (omega arith)
        (ap (λ (l : Files). sum_by (names_in number) l) (sym (take_all (length files) files (omega arith)))))

-- in a tree, so many names lead to each number
pub tree_names : (files : Files) (number : ℕ) → IsTree files → HasNames files number (names_to files number)
tree_names files number tree = names_counted files number (λ from is. (directories_are_tidy files from tree is).0)
