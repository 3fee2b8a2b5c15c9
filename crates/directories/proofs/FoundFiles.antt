-- Files that were all found from the root on are a tree, and in a tree all are found.
use Rattle.std.proofs.Common.{◌≡◌, ◌≢◌, ℕ, ◌<◌, eqb, List, [], ◌∷◌, length, get_or, sym, ap, subst, ◌∙◌, ⊎_elim, arith}
use Rattle.std.specs.List.{position_or_len}
use Rattle.std.proofs.lemmas.Bool.{cases_eq, eq-eqb, ne_eqb}
use Rattle.std.proofs.lemmas.List.Sums.{position_or_len_is}
use Rattle.model.specs.Files.{Files}
use Rattle.directories.specs.Checks.{AreApart, HasFound, IsAmong, IsNamedAgain, WasFound}
use Rattle.directories.specs.Trees.{directory_in, HasOtherName, IsDirectory, IsDirectoryOf, IsFile, IsPath, IsTree, StepsDown}
use Rattle.directories.specs.Lemmas.TreeBy.{directory_is_file, directory_named_once, not_named_once, steps_make_tree, tree_makes_steps, IsTreeBy}

-- the place of a number, which is its depth
pub place_in : List ℕ → ℕ → ℕ
place_in numbers number = position_or_len (λ n. eqb n number) numbers

pub place_is : (numbers : List ℕ) (number m : ℕ) → AreApart numbers → m < length numbers → get_or numbers m 0 ≡ number → place_in numbers number ≡ m
unfolding place_in
place_is numbers number m apart inside is =
    position_or_len_is (λ n. eqb n number) numbers m 0 (omega arith)
    (λ k below.
    ne_eqb (get_or numbers k 0) number
    (λ same. let one : k ≡ m = apart.same k m (omega arith) inside (same ∙ sym is) in omega arith))
    (λ h. eq-eqb (get_or numbers m 0) number is)

pub directory_at : (files : Files) (looked : ℕ) (numbers parents again : List ℕ) → HasFound files looked numbers parents again → (j from parent : ℕ) → j < looked →
    get_or numbers j 0 ≡ from → get_or parents j 0 ≡ parent → IsDirectory files from → IsDirectoryOf (directory_in files from) from parent
directory_at files looked numbers parents again found j from parent seen is up directory =
    subst (λ (k : ℕ). IsDirectoryOf (directory_in files from) from k) up
    (subst (λ (k : ℕ). IsDirectoryOf (directory_in files k) k (get_or parents j 0)) is
    (found.directories j seen (subst (λ (k : ℕ). IsDirectory files k) (sym is) directory)))

pub step_at : (files : Files) (j from to : ℕ) (numbers : List ℕ) (name : List ℕ) → get_or numbers j 0 ≡ from → StepsDown files from name to →
    StepsDown files (get_or numbers j 0) name to
step_at files j from to numbers name is step = subst (λ (k : ℕ). StepsDown files k name to) (sym is) step

-- ---- all found are a tree

module _ (files : Files) (numbers parents again : List ℕ) (found : HasFound files (length numbers) numbers parents again) (rooted : IsDirectory files 1)
    (all : (i : ℕ) → IsFile files i → IsAmong numbers i) (plain : (i : ℕ) → IsAmong again i → IsDirectory files i → ⊥) where
  some : 0 < length numbers
  some = found.some

  place : (from to : ℕ) (name : List ℕ) → StepsDown files from name to → IsAmong numbers from
  place from to name step = all from (directory_is_file files from step.1.0)

  -- a directory was found by the one name that leads down to it
  was_found : (from to : ℕ) (name : List ℕ) → IsDirectory files to → (step : StepsDown files from name to) →
      WasFound numbers parents (place from to name step).place to
  was_found from to name is step =
      let at = place from to name step in
      ⊎_elim (λ (w : WasFound numbers parents at.place to). w) (λ (s : IsAmong again to). absurd (plain to s is))
      (found.down at.place to name at.inside (step_at files at.place from to numbers name at.is step))

  all_by : IsTreeBy files (place_in numbers)
  all_by = record {
    rooted = rooted;
    top = directory_at files (length numbers) numbers parents again found 0 1 1 some found.first found.top rooted;
    below = λ from to name down step is.
        let at = place from to name (down, step) in
        let w = was_found from to name is (down, step) in
        directory_at files (length numbers) numbers parents again found w.place to from w.inside w.is (w.parent ∙ at.is) is;
    shape = record {
      above = λ from to name step. directory_is_file files from step.1.0;
      lead = λ from to name step.
          let at = place from to name step in
          ⊎_elim
          (λ (w : WasFound numbers parents at.place to). (
            subst (λ (k : ℕ). IsFile files k) w.is (found.there w.place w.inside),
            λ is_root.
                let same : w.place ≡ 0 = found.apart.same w.place 0 w.inside some (w.is ∙ is_root ∙ sym found.first) in
                let behind : at.place < w.place = w.behind in absurd (omega arith),
          ))
          (λ (s : IsAmong again to).
          let there = (found.twice to s).0 in (
            subst (λ (k : ℕ). IsFile files k) there.is (found.there there.place there.inside),
            λ is_root. plain to s (subst (λ (k : ℕ). IsDirectory files k) (sym is_root) rooted),
          ))
          (found.down at.place to name at.inside (step_at files at.place from to numbers name at.is step));
      named = λ i ne there.
          let at = all i there in
          let behind : at.place ≢ 0 = λ same. ne (sym at.is ∙ ap (λ (k : ℕ). get_or numbers k 0) same ∙ found.first) in
          let up = found.up at.place (omega (arith, behind)) at.inside in
          (get_or numbers up.from 0, up.name, subst (λ (k : ℕ). StepsDown files (get_or numbers up.from 0) up.name k) at.is up.step);
      parent = λ a b i x y is at_a at_b.
          let in_a = place a i x at_a in
          let in_b = place b i y at_b in
          let w_a = was_found a i x is at_a in
          let w_b = was_found b i y is at_b in
          let same : w_a.place ≡ w_b.place = found.apart.same w_a.place w_b.place w_a.inside w_b.inside (w_a.is ∙ sym w_b.is) in
          sym in_a.is ∙ sym w_a.parent ∙ ap (λ (k : ℕ). get_or parents k 0) same ∙ w_b.parent ∙ in_b.is;
      name = λ a i x y is at_x at_y.
          let in_a = place a i x at_x in
          ⊎_elim (λ (same : x ≡ y). same) (λ (s : IsAmong again i). absurd (plain i s is))
          (found.names in_a.place i x y in_a.inside (step_at files in_a.place a i numbers x in_a.is at_x)
          (step_at files in_a.place a i numbers y in_a.is at_y));
      deeper = λ from to name is step.
          let at = place from to name step in
          let w = was_found from to name is step in
          let here = place_is numbers from at.place found.apart at.inside at.is in
          let there = place_is numbers to w.place found.apart w.inside w.is in
          let behind : at.place < w.place = w.behind in omega arith;
    };
  }

  pub all_found : IsTree files
  all_found = steps_make_tree files (place_in numbers) all_by

-- ---- in a tree

-- a number that was found is that of a file
pub found_file : (files : Files) (looked : ℕ) (numbers parents again : List ℕ) → HasFound files looked numbers parents again → IsTree files →
    (m : ℕ) → m < length numbers → IsFile files (get_or numbers m 0)
found_file files looked numbers parents again found tree m inside =
    ⊎_elim
    (λ (at_root : m ≡ 0).
    subst (λ (k : ℕ). IsFile files k) (sym (ap (λ (k : ℕ). get_or numbers k 0) at_root ∙ found.first)) (directory_is_file files 1 tree.rooted))
    (λ (behind : m ≢ 0).
    let up = found.up m (omega (arith, behind)) inside in
    ((tree_makes_steps files tree).shape.lead (get_or numbers up.from 0) (get_or numbers m 0) up.name up.step).0)
    (cases_eq m 0)

-- and a directory among them has its own two entries
pub found_directory : (files : Files) (looked : ℕ) (numbers parents again : List ℕ) → HasFound files looked numbers parents again → IsTree files →
    (m : ℕ) → m < length numbers → IsDirectory files (get_or numbers m 0) →
    IsDirectoryOf (directory_in files (get_or numbers m 0)) (get_or numbers m 0) (get_or parents m 0)
found_directory files looked numbers parents again found tree m inside is =
    ⊎_elim
    (λ (at_root : m ≡ 0).
    let number : get_or numbers m 0 ≡ 1 = ap (λ (k : ℕ). get_or numbers k 0) at_root ∙ found.first in
    let parent : get_or parents m 0 ≡ 1 = ap (λ (k : ℕ). get_or parents k 0) at_root ∙ found.top in
    subst (λ (k : ℕ). IsDirectoryOf (directory_in files (get_or numbers m 0)) (get_or numbers m 0) k) (sym parent)
    (subst (λ (k : ℕ). IsDirectoryOf (directory_in files k) k 1) (sym number) tree.top))
    (λ (behind : m ≢ 0).
    let up = found.up m (omega (arith, behind)) inside in
    subst (λ (k : ℕ). IsDirectoryOf (directory_in files (get_or numbers m 0)) (get_or numbers m 0) k) up.parent
    (tree.below (get_or numbers up.from 0) (get_or numbers m 0) up.name up.step.0 up.step.1 is))
    (cases_eq m 0)

path_found : (files : Files) (numbers parents again : List ℕ) → HasFound files (length numbers) numbers parents again →
    (names : List (List ℕ)) (i : ℕ) → IsPath files 1 names i → IsAmong numbers i
path_found files numbers parents again found [] i path = record { place = 0; inside = found.some; is = found.first ∙ path }
path_found files numbers parents again found (name ∷ names) i path =
    let up = path_found files numbers parents again found names path.0 path.2 in
    ⊎_elim (λ (w : WasFound numbers parents up.place i). record { place = w.place; inside = w.inside; is = w.is })
    (λ (s : IsAmong again i). (found.twice i s).0)
    (found.down up.place i name up.inside (step_at files up.place path.0 i numbers name up.is (path.1, path.3)))

-- each file was found, once all that were are looked into
pub found_each : (files : Files) (numbers parents again : List ℕ) → HasFound files (length numbers) numbers parents again → IsTree files →
    (i : ℕ) → IsFile files i → IsAmong numbers i
found_each files numbers parents again found tree i there =
    let path = tree.reach i there in path_found files numbers parents again found path.0 i path.1

-- what was found again is no directory
pub again_plain : (files : Files) → IsTree files → (i : ℕ) → IsNamedAgain files i → IsDirectory files i → ⊥
again_plain files tree i has is =
    ⊎_elim (λ (at_root : i ≡ 1). ((tree_makes_steps files tree).shape.lead has.from i has.name has.leads).1 at_root)
    (λ (other : HasOtherName files has.from has.name i). not_named_once files has.from i has.name has.leads other (directory_named_once files tree i is))
    has.again
