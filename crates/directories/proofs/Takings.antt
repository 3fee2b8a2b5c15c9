-- What is left of each number, where one was taken off for each name that leads to it.
use Rattle.std.proofs.Common.{◌≡◌, ◌≢◌, inl, ℕ, ◌+◌, ◌-◌, ◌<◌, ◌≤◌, true, false, cond, eqb, List, [], ◌∷◌, length, ◌++◌, get_or, map, drop, take, is_some, Option, Some, None, refl, sym, ap, subst, ◌∙◌, ⊎_elim, arith}
use Rattle.std.specs.List.{sum_by}
use Rattle.std.specs.Prelude.{IfNone, IfSome}
use Rattle.std.specs.Str.{bytes_eq}
use Rattle.std.proofs.lemmas.Bool.{and_from, and_left, and_right, both_ways, cases_Bool, cases_eq, cases_lt, eq-eqb, ne_eqb}
use Rattle.std.proofs.Math.ListN.{drop_of_length-le, get_or-append}
use Rattle.std.proofs.lemmas.List.{append-nil, get_or-append-add, get_or-map, get_or_past, get_or-set_other, get_or-set_same, length-map, length-set, take_all}
use Rattle.std.proofs.lemmas.List.Sums.{count_by_more_no, count_by_more_yes, sum_by_more, sum_by-take-le}
use Rattle.std.proofs.lemmas.Slice.Eq.{bytes_eq-Decides}
use Rattle.blocks.specs.Disk.{Image}
use Rattle.model.specs.Files.{Files, file_in, files_of}
use Rattle.model.specs.Lemmas.FileNumbers.{length-files_of}
use Rattle.model.specs.Log.{recovered}
use Rattle.offline.specs.Lemmas.Checked.{count_recovered}
use Rattle.offline.specs.Recovered.{IsRecoveredOf}
use Rattle.offline.specs.declared.recovered.Recovered.{Recovered}
use Rattle.directories.specs.Counts.{AreCounted, HasNames, IsIn, IsNameOf, Place}
use Rattle.directories.specs.Entries.{entries_of, lookup, number_in}
use Rattle.directories.specs.Tallying.{is_counted, leads_to, names_among, names_at, names_in, names_to, AreLinks, AreNameCounts, AreTaken, HasTooMany, IsMiscounted, Takes, TakesOne}
use Rattle.directories.specs.Trees.{directory_in, links_of, parent_name, IsDirectory, IsFile, IsTree}
use Rattle.directories.specs.Lemmas.Places.{count_unique}
use Rattle.directories.proofs.Tallies.{names_in_directory, names_in_other, tree_names}
use Rattle.directories.specs.Lemmas.TreeBy.{depth_in, directory_is_file, tree_makes_steps}
use Rattle.directories.specs.Lemmas.TreeMeaning.{directory_by, steps_lead}

-- ---- what was taken, where nothing was short

pub taken_by : (names : ℕ → ℕ) (old new : List ℕ) (short : Option ℕ) → ((n : ℕ) → short ≡ Some n → ⊥) → Takes names old new short → AreTaken names old new
taken_by names old new None not takes = takes
taken_by names old new (Some n) not takes = absurd (not n refl)

pub not_short : (short : Option ℕ) → is_some short ≡ false → (n : ℕ) → short ≡ Some n → ⊥
not_short short none n is = let some : true ≡ false = sym (ap is_some is) ∙ none in cc some

-- what a vector has, where a slice of it is left
pub written_whole : (after items : List ℕ) (n : ℕ) → length after ≡ length items → n ≡ length items → take n (after ++ drop (length after) items) ≡ after
written_whole after items n same all =
    ap (λ (l : List ℕ). take n (after ++ l)) (drop_of_length-le items (omega (arith, same)))
    ∙ ap (take n) (append-nil after) ∙ take_all n after (omega (arith, same, all))

-- ---- the names of some entries

-- how many of the first entries lead to a number
abbrev pub names_first : List (List ℕ) → ℕ → ℕ → ℕ
names_first entries k number = names_among (take k entries) number

pub none_first : (entries : List (List ℕ)) (left : List ℕ) → AreTaken (names_first entries 0) left left
none_first entries left = record { long = refl; taken = λ n. omega arith }

pub all_first : (entries : List (List ℕ)) (k : ℕ) (old left : List ℕ) → length entries ≤ k → AreTaken (names_first entries k) old left → AreTaken (names_among entries) old left
all_first entries k old left all takes = record {
  long = takes.long;
  taken = λ n.
      let was = takes.taken n in
      let same = ap (λ (l : List (List ℕ)). names_among l n) (take_all k entries all) in omega arith;
}

module _ (entries : List (List ℕ)) (k : ℕ) (old left : List ℕ) (inside : k < length entries) (before : AreTaken (names_first entries k) old left) where
  abbrev entry : List ℕ
  entry = get_or entries k []

  -- an entry that doesn't count
  pub takes_none : is_counted entry ≡ false → AreTaken (names_first entries (k + 1)) old left
  takes_none not = record {
    long = before.long;
    taken = λ n.
        let more = count_by_more_no (leads_to n) entries k [] inside (and_left (is_counted entry) (eqb (number_in entry) n) not) in
        let was = before.taken n in omega arith;
  }

  module _ (number : ℕ) (counted : is_counted entry ≡ true) (is : number_in entry ≡ number) where
    more_here : names_first entries (k + 1) number ≡ names_first entries k number + 1
    more_here = count_by_more_yes (leads_to number) entries k [] inside (and_from (is_counted entry) (eqb (number_in entry) number) counted (eq-eqb (number_in entry) number is))

    more_not : (n : ℕ) → n ≢ number → names_first entries (k + 1) n ≡ names_first entries k n
    more_not n other =
        count_by_more_no (leads_to n) entries k [] inside
        (and_right (is_counted entry) (eqb (number_in entry) n) (ne_eqb (number_in entry) n (λ same. other (sym same ∙ is))))

    -- one that does
    pub takes_one : (new : List ℕ) → TakesOne left new number true → AreTaken (names_first entries (k + 1)) old new
    takes_one new takes =
        let low : number < length left = takes.0 in
        let some : 0 < get_or left number 0 = takes.1 in
        record {
          long = ap length takes.2 ∙ length-set left number (get_or left number 0 - 1) ∙ before.long;
          taken = λ n.
              let was = before.taken n in
              ⊎_elim
              (λ (same : n ≡ number).
              let here : get_or new n 0 ≡ get_or left number 0 - 1 =
              ap (λ (i : ℕ). get_or new i 0) same ∙ ap (λ (l : List ℕ). get_or l number 0) takes.2 ∙ get_or-set_same left number (get_or left number 0 - 1) 0 low in
              let there : get_or left n 0 ≡ get_or left number 0 = ap (λ (i : ℕ). get_or left i 0) same in
              let more : names_first entries (k + 1) n ≡ names_first entries k n + 1 =
              subst (λ (i : ℕ). names_first entries (k + 1) i ≡ names_first entries k i + 1) (sym same) more_here in omega arith)
              (λ (other : n ≢ number).
              let here : get_or new n 0 ≡ get_or left n 0 =
              ap (λ (l : List ℕ). get_or l n 0) takes.2 ∙ get_or-set_other left number n (get_or left number 0 - 1) 0 other in
              let more = more_not n other in omega arith) (cases_eq n number);
        }

    -- one of a number that nothing is left of
    pub takes_short : get_or left number 0 ≡ 0 → get_or old number 0 < names_among entries number
    takes_short none =
        let was = before.taken number in
        let more = more_here in
        let most : names_first entries (k + 1) number ≤ names_among entries number =
        sum_by-take-le (λ (e : List ℕ). cond (leads_to number e) 1 0) entries (k + 1) in omega arith

-- ---- the names of one file

pub takes_by : (names other : ℕ → ℕ) (old new : List ℕ) (short : Option ℕ) → ((n : ℕ) → names n ≡ other n) → Takes names old new short → Takes other old new short
takes_by names other old new None same takes = record {
  long = takes.long;
  taken = λ n. let was = takes.taken n in let is = same n in omega arith;
}
takes_by names other old new (Some number) same takes = let is = same number in omega arith

pub takes_no_directory : (files : Files) (from : ℕ) (left : List ℕ) → (IsDirectory files from → ⊥) → AreTaken (names_at files from) left left
takes_no_directory files from left not = record { long = refl; taken = λ n. let none = names_in_other files n from not in omega arith }

pub takes_no_file : (files : Files) (from : ℕ) (left : List ℕ) → (IsFile files from → ⊥) → AreTaken (names_at files from) left left
takes_no_file files from left not = takes_no_directory files from left (λ is. not (directory_is_file files from is))

pub takes_directory : (files : Files) (from : ℕ) (bytes : List ℕ) (entries : List (List ℕ)) (old new : List ℕ) (short : Option ℕ) → IsDirectory files from →
    bytes ≡ directory_in files from → entries ≡ entries_of bytes → Takes (names_among entries) old new short → Takes (names_at files from) old new short
takes_directory files from bytes entries old new short is same are takes =
    takes_by (names_among entries) (names_at files from) old new short
    (λ n. ap (λ (l : List (List ℕ)). names_among l n) (are ∙ ap entries_of same) ∙ sym (names_in_directory files n from is)) takes

-- ---- the names of all files

-- how many names of the first files lead to a number
abbrev pub names_below : Files → ℕ → ℕ → ℕ
names_below files k number = sum_by (names_in number) (take k files)

pub none_below : (files : Files) (left : List ℕ) → AreTaken (names_below files 0) left left
none_below files left = record { long = refl; taken = λ n. omega arith }

module _ (files : Files) (k : ℕ) (old left : List ℕ) (inside : k < length files) (before : AreTaken (names_below files k) old left) where
  pub takes_file : (new : List ℕ) → AreTaken (names_at files k) left new → AreTaken (names_below files (k + 1)) old new
  takes_file new takes = record {
    long = takes.long ∙ before.long;
    taken = λ n.
        let was = before.taken n in
        let one = takes.taken n in
        let more = sum_by_more (names_in n) files k None inside in omega arith;
  }

  pub short_file : (number : ℕ) → get_or left number 0 < names_at files k number → get_or old number 0 < names_to files number
  short_file number short =
      let was = before.taken number in
      let more = sum_by_more (names_in number) files k None inside in
      let most = sum_by-take-le (names_in number) files (k + 1) in omega arith

pub takes_all : (files : Files) (k : ℕ) (old left : List ℕ) → length files ≤ k → AreTaken (names_below files k) old left → AreTaken (names_to files) old left
takes_all files k old left all takes = record {
  long = takes.long;
  taken = λ n.
      let was = takes.taken n in
      let same = ap (λ (l : Files). sum_by (names_in n) l) (take_all k files all) in omega arith;
}

-- as many as the image has
pub counted_files : (x : Image) (image : Recovered) → IsRecoveredOf x image → length (files_of (recovered x)) ≡ image.sup.ninodes
counted_files x image is = length-files_of (recovered x) ∙ sym (count_recovered x image is)

-- ---- the counts of links

pub links_more : (files : Files) (i links : ℕ) (counts new : List ℕ) → length counts ≡ i → ((k : ℕ) → k < i → get_or counts k 0 ≡ links_of (file_in files k)) →
    links ≡ links_of (file_in files i) → new ≡ counts ++ links ∷ [] → (k : ℕ) → k < i + 1 → get_or new k 0 ≡ links_of (file_in files k)
links_more files i links counts new long before here are k low =
    ap (λ (l : List ℕ). get_or l k 0) are
    ∙ ⊎_elim (λ (less : k < i). get_or-append counts (links ∷ []) 0 k (omega arith) ∙ before k less)
    (λ (last : i ≤ k).
    let same : k ≡ length counts + 0 = omega arith in
    let there : i ≡ k = omega arith in
    ap (λ (j : ℕ). get_or (counts ++ links ∷ []) j 0) same ∙ get_or-append-add counts (links ∷ []) 0 0 ∙ here ∙ ap (λ (j : ℕ). links_of (file_in files j)) there)
    (cases_lt k i)

pub links_all : (files : Files) (i : ℕ) (counts : List ℕ) → length counts ≡ i → length files ≡ i → ((k : ℕ) → k < i → get_or counts k 0 ≡ links_of (file_in files k)) →
    AreLinks files counts
links_all files i counts long many each = record {
  long = long ∙ sym many;
  links = λ k.
      ⊎_elim (λ (low : k < i). each k low)
      (λ (past : i ≤ k). get_or_past counts k 0 (omega arith) ∙ sym (ap links_of (get_or_past files k None (omega arith)))) (cases_lt k i);
}

-- ---- what is told of the counts

module _ (files : Files) (tree : IsTree files) (counts left : List ℕ) (links : AreLinks files counts) where
  wrong : (number : ℕ) → get_or counts number 0 ≢ names_to files number → HasNames files number (links_of (file_in files number)) → ⊥
  wrong number differ right =
      differ (links.links number ∙ count_unique (IsNameOf files number) (links_of (file_in files number)) (names_to files number) right (tree_names files number tree))

  pub wrong_by_short : (number : ℕ) → get_or counts number 0 < names_to files number → HasNames files number (links_of (file_in files number)) → ⊥
  wrong_by_short number short = wrong number (λ same. omega arith)

  pub wrong_by_left : (number : ℕ) → AreTaken (names_to files) counts left → get_or left number 0 ≢ 0 → HasNames files number (links_of (file_in files number)) → ⊥
  wrong_by_left number takes some = wrong number (λ same. let was = takes.taken number in absurd (some (omega arith)))

  pub all_right : AreTaken (names_to files) counts left → ((number : ℕ) → get_or left number 0 ≡ 0) → AreCounted files
  all_right takes none number =
      let was = takes.taken number in
      let nothing = none number in
      let is = links.links number in
      let same : names_to files number ≡ links_of (file_in files number) = omega arith in
      subst (λ (n : ℕ). HasNames files number n) same (tree_names files number tree)

  pub told_by : AreTaken (names_to files) counts left → (found : Option ℕ) → IfNone found ((number : ℕ) → get_or left number 0 ≡ 0) →
      IfSome found (λ number. get_or left number 0 ≢ 0) → IsMiscounted files found
  told_by takes None none some = all_right takes none
  told_by takes (Some number) none some = wrong_by_left number takes some

-- ---- how many names there are

some_place : (So : Place → Type 0) (places : List Place) (n : ℕ) → length places ≡ n → 0 < n → ((p : Place) → IsIn places p → So p) → (p : Place) × So p
some_place So [] n many some so = absurd (omega arith)
some_place So (p ∷ places) n many some so = (p, so p (inl refl))

-- a name of a tree leads to a file
name_leads : (files : Files) (number : ℕ) (p : Place) → IsTree files → IsNameOf files number p → IsFile files number
name_leads files number p tree so =
    ⊎_elim
    (λ (up : bytes_eq p.1 parent_name ≡ true).
    let of = directory_by files (depth_in files tree) p.0 (tree_makes_steps files tree) so.1.0 in
    let both : Some of.0 ≡ Some number =
    sym of.1.up ∙ ap (lookup (directory_in files p.0)) (sym ((bytes_eq-Decides p.1 parent_name).0 up)) ∙ so.1.1 in
    let same : of.0 ≡ number = cc both in
    subst (λ (i : ℕ). IsFile files i) same (directory_is_file files of.0 of.2))
    (λ (other : bytes_eq p.1 parent_name ≡ false).
    (steps_lead files p.0 number p.1 tree (so.0, λ up. both_ways (bytes_eq p.1 parent_name) other ((bytes_eq-Decides p.1 parent_name).1 up)) so.1).0)
    (cases_Bool (bytes_eq p.1 parent_name))

module _ (files : Files) (tree : IsTree files) (old : List ℕ) (long : length old ≡ length files) (most : (i : ℕ) → i < length old → get_or old i 0 ≡ 32767) where
  pub too_many : (number : ℕ) → get_or old number 0 < names_to files number → HasTooMany files
  too_many number short =
      let c = tree_names files number tree in
      let one = some_place (IsNameOf files number) c.places (names_to files number) c.many (omega arith) c.so in
      let there = name_leads files number one.0 tree one.1 in
      let low : number < length files =
      ⊎_elim (λ (inside : number < length files). inside) (λ (past : length files ≤ number). absurd (there (get_or_past files number None past)))
      (cases_lt number (length files)) in
      let is = most number (omega arith) in
      record { number = number; count = names_to files number; names = c; many = omega arith }

  pub too_many_by : (new : List ℕ) (short : Option ℕ) → is_some short ≡ true → Takes (names_to files) old new short → HasTooMany files
  too_many_by new None some takes = absurd (cc some)
  too_many_by new (Some number) some takes = too_many number takes

  pub turned_counts : (left new : List ℕ) → AreTaken (names_to files) old left → new ≡ map (λ n. 32767 - n) left → AreNameCounts files new
  turned_counts left new takes are =
      let few : length left ≡ length old = takes.long in
      record {
        long = ap length are ∙ length-map left (λ n. 32767 - n) ∙ few ∙ long;
        names = λ number low.
            let is = most number (omega arith) in
            let was = takes.taken number in
            let here : get_or new number 0 ≡ 32767 - get_or left number 0 =
            ap (λ (l : List ℕ). get_or l number 0) are ∙ get_or-map (λ n. 32767 - n) left number 0 0 (omega arith) in
            let same : names_to files number ≡ get_or new number 0 = omega arith in
            subst (λ (n : ℕ). HasNames files number n) same (tree_names files number tree);
      }

  -- what is left is no more than there was
  pub few_left : (left : List ℕ) → AreTaken (names_to files) old left → (i : ℕ) → i < length left → get_or left i 0 ≤ 32767
  few_left left takes i low =
      let few : length left ≡ length old = takes.long in
      let is = most i (omega arith) in let was = takes.taken i in omega arith
