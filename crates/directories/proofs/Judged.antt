-- Files that are seen one after the other from the root on, and whether they are a tree.
use Rattle.std.proofs.Common.{◌≡◌, ℕ, suc, ◌+◌, ◌<◌, ◌≤◌, Bool, true, false, eqb, List, [], ◌∷◌, length, take, get_or, refl, sym, subst, ◌∙◌, ⊎_elim, arith}
use Rattle.std.specs.Prelude.{◌↔◌, IsTrue}
use Rattle.std.specs.List.{AllByRecursion, IsDistinct, list_any}
use Rattle.std.proofs.lemmas.Bool.{eqb-true, ne_eqb, or_cases}
use Rattle.std.proofs.lemmas.List.{get_or-take, length-take-le}
use Rattle.std.proofs.lemmas.Map.Steps.{length-le_from_distinct_below}
use Rattle.model.specs.Files.{Files}
use Rattle.directories.specs.Checks.{AddsChildren, AreApart, HasFound, IsAmong}
use Rattle.directories.specs.Entries.{entries_of}
use Rattle.directories.specs.Judging.{AreAmong, ArePlain, HasLookedThrough, IsSeen, TakesIn}
use Rattle.directories.specs.Trees.{directory_in, IsDirectory, IsDirectoryOf, IsFile, IsTree}
use Rattle.directories.specs.declared.judging.Seen.{Seen}
use Rattle.directories.specs.declared.judging.Seen.TheVariants.{Nothing, Plain, Directory}
use Rattle.directories.proofs.FoundFiles.{again_plain, all_found, found_directory, found_each, found_file}
use Rattle.directories.proofs.FoundDirectory.{next_directory}
use Rattle.directories.specs.Lemmas.FoundNext.{next_plain}
use Rattle.directories.specs.Lemmas.Apart.{apart_first, apart_rest, stands_first, stands_more}

-- ---- one more is looked into

module _ (files : Files) (k number parent : ℕ) (numbers parents again new up rest : List ℕ) (found : HasFound files k numbers parents again) (inside : k < length numbers)
    (is : get_or numbers k 0 ≡ number) (up_is : get_or parents k 0 ≡ parent) where
  -- in a tree, what is there is a file, and a directory as it should be
  file_there : IsTree files → IsFile files number
  file_there tree = subst (λ (i : ℕ). IsFile files i) is (found_file files k numbers parents again found tree k inside)

  directory_there : IsTree files → IsDirectory files number → IsDirectoryOf (directory_in files number) number parent
  directory_there tree directory =
      subst (λ (i : ℕ). IsDirectoryOf (directory_in files number) number i) up_is
      (subst (λ (i : ℕ). IsDirectoryOf (directory_in files i) i (get_or parents k 0)) is
      (found_directory files k numbers parents again found tree k inside (subst (λ (i : ℕ). IsDirectory files i) (sym is) directory)))

  plain_next : IsFile files number → (IsDirectory files number → ⊥) → new ≡ numbers → up ≡ parents → rest ≡ again → HasFound files (k + 1) new up rest
  plain_next there plain same same_up same_rest =
      let next = next_plain files k numbers parents again found inside (subst (λ (i : ℕ). IsFile files i) (sym is) there)
      (λ directory. plain (subst (λ (i : ℕ). IsDirectory files i) is directory)) in
      subst (λ (l : List ℕ). HasFound files (k + 1) l up rest) (sym same) (subst (λ (l : List ℕ). HasFound files (k + 1) numbers l rest) (sym same_up)
      (subst (λ (l : List ℕ). HasFound files (k + 1) numbers parents l) (sym same_rest) next))

  pub next_found : (seen : Seen) → IsSeen files number seen → TakesIn seen number parent numbers parents again new up rest true → HasFound files (k + 1) new up rest
  next_found Nothing here takes = absurd (cc takes)
  next_found Plain here takes = plain_next here.0 here.1 takes.1 takes.2 takes.3
  next_found (Directory bytes) here takes =
      next_directory files k number numbers parents again new up rest found inside is here.0
      (subst (λ (i : ℕ). IsDirectoryOf (directory_in files number) number i) (sym up_is) (subst (λ (b : List ℕ). IsDirectoryOf b number parent) here.1 takes.0))
      (subst (λ (b : List ℕ). AddsChildren (entries_of b) number numbers parents again new up rest) here.1 takes.1)

  pub no_tree : (seen : Seen) → IsSeen files number seen → TakesIn seen number parent numbers parents again new up rest false → IsTree files → ⊥
  no_tree Nothing here takes tree = here (file_there tree)
  no_tree Plain here takes tree = let other : false ≡ true = takes.0 in cc other
  no_tree (Directory bytes) here other tree = other (subst (λ (b : List ℕ). IsDirectoryOf b number parent) (sym here.1) (directory_there tree here.0))

-- ---- how many are found

others : (n : ℕ) (numbers : List ℕ) → (IsAmong numbers n → ⊥) → AllByRecursion (λ y. eqb n y ≡ false) numbers
others n [] none = tt
others n (x ∷ numbers) none = (
  ne_eqb n x (λ same. none (subst (λ (m : ℕ). IsAmong (x ∷ numbers) m) (sym same) (stands_first x numbers))),
  others n numbers (λ s. none (stands_more x numbers n s)),
)

distinct : (numbers : List ℕ) → AreApart numbers → IsDistinct eqb numbers
unfolding IsDistinct
distinct [] apart = tt
distinct (n ∷ numbers) apart = (others n numbers (apart_first n numbers apart), distinct numbers (apart_rest n numbers apart))

below : (numbers : List ℕ) (most : ℕ) → ((j : ℕ) → j < length numbers → get_or numbers j 0 < most) → (q : ℕ) → list_any (eqb q) numbers ≡ true → q < most
below [] most low q any = let none : false ≡ true = any in cc none
below (n ∷ numbers) most low q any =
    let more : length (n ∷ numbers) ≡ suc (length numbers) = refl in
    ⊎_elim (λ (here : eqb q n ≡ true). let same : q ≡ n = eqb-true q n here in let first : n < most = low 0 (omega arith) in omega arith)
    (λ (there : list_any (eqb q) numbers ≡ true). below numbers most (λ j inside. low (suc j) (omega arith)) q there)
    (or_cases (eqb q n) (list_any (eqb q) numbers) any)

-- no more are looked into than there are numbers for files
pub few_looked : (files : Files) (k most : ℕ) (numbers parents again : List ℕ) → HasFound files k numbers parents again → ((i : ℕ) → IsFile files i → i < most) → k ≤ most
few_looked files k most numbers parents again found inside =
    let low : k ≤ length numbers = found.low in
    let long : length (take k numbers) ≡ k = length-take-le k numbers low in
    let at : (j : ℕ) → j < k → get_or (take k numbers) j 0 ≡ get_or numbers j 0 = λ j seen. get_or-take k numbers j 0 seen in
    let apart : AreApart (take k numbers) =
    record { same = λ i j at_i at_j e. found.apart.same i j (omega arith) (omega arith) (sym (at i (omega arith)) ∙ e ∙ at j (omega arith)) } in
    let few = length-le_from_distinct_below (take k numbers) most (distinct (take k numbers) apart)
    (below (take k numbers) most
    (λ j seen. subst (λ (i : ℕ). i < most) (sym (at j (omega arith))) (inside (get_or numbers j 0) (found.there j (omega arith))))) in
    omega (arith, long, few)

-- ---- all are looked into

-- once all that were found are looked into, and no directory was found again, each file is among them exactly where the files are a tree
pub told_by : (files : Files) (numbers again : List ℕ) (are : Bool) → IsDirectory files 1 → HasLookedThrough files numbers again true → ArePlain files again →
    IsTrue are ↔ AreAmong files numbers → IsTrue are ↔ IsTree files
told_by files numbers again are rooted looked plain among = (
  λ yes. all_found files numbers looked.0 again looked.1 rooted (among.0 yes) plain,
  λ tree. among.1 (found_each files numbers looked.0 again looked.1 tree),
)

-- and where one was, they are none
pub not_plain : (files : Files) (numbers again : List ℕ) → HasLookedThrough files numbers again true → (ArePlain files again → ⊥) → IsTree files → ⊥
not_plain files numbers again looked not tree = not (λ i s. again_plain files tree i (looked.1.twice i s).1)
