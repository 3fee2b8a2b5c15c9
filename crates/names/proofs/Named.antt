-- What a file's count says of the names that lead to it.
use Rattle.std.proofs.Common.{◌≡◌, ◌≢◌, ℕ, ◌<◌, ◌≤◌, List, Some, sym, ap, ap₂, subst, ◌∙◌, ⊎_elim, arith}
use Rattle.std.proofs.lemmas.Bool.{cases_eq}
use Rattle.model.specs.Files.{Files, file_in}
use Rattle.directories.specs.Counts.{AreCounted, HasLinks, HasNames, IsNameOf, Place}
use Rattle.directories.specs.Trees.{directory_in, links_of, number_of, parent_name, HasOtherName, IsDirectory, IsFile, IsNamedOnce, IsTree, Steps, StepsDown}
use Rattle.directories.specs.Lemmas.CountedChanges.{parent_counts}
use Rattle.directories.specs.Lemmas.Moving.{same_entry, IsOther}
use Rattle.directories.specs.Lemmas.Places.{count_one, count_other, count_some}
use Rattle.names.proofs.Renamed.{lookup_used}
use Rattle.directories.specs.Lemmas.TreeBy.{depth_in, directory_is_file, tree_makes_steps}
use Rattle.directories.specs.Lemmas.TreeMeaning.{directory_by}

same_place : (p : Place) (from : ℕ) (name : List ℕ) → p.0 ≡ from → p.1 ≡ name → p ≡ (from, name)
same_place p from name same named = ap₂ (λ (a : ℕ) (n : List ℕ). (a, n)) same named

named : (files : Files) (from i : ℕ) (name : List ℕ) → StepsDown files from name i → IsNameOf files i (from, name)
named files from i name step = (step.0.0, step.1)

-- one name alone leads to a file whose count is 1
pub once_counted : (files : Files) (i : ℕ) → AreCounted files → links_of (file_in files i) ≡ 1 → IsNamedOnce files i
once_counted files i counted one =
    let same : (a b : ℕ) (x y : List ℕ) → StepsDown files a x i → StepsDown files b y i → (a, x) ≡ (b, y) =
    λ a b x y at_a at_b.
    count_one (IsNameOf files i) (a, x) (b, y) (named files a i x at_a) (named files b i y at_b) (subst (λ (n : ℕ). HasNames files i n) one (counted i)) in
    record {
      directory = λ a b x y at_a at_b. ap (λ (p : Place). p.0) (same a b x y at_a at_b);
      name = λ a b x y at_a at_b. ap (λ (p : Place). p.1) (same a b x y at_a at_b);
    }

-- and another one to a file whose count is more, if it is no directory
pub other_counted : (files : Files) (from i : ℕ) (name : List ℕ) → IsTree files → AreCounted files → (IsDirectory files i → ⊥) →
    StepsDown files from name i → 2 ≤ links_of (file_in files i) → HasOtherName files from name i
other_counted files from i name tree counted plain step two =
    let other = count_other (IsNameOf files i) (from, name) (links_of (file_in files i)) two (named files from i name step) (counted i) in
    let p : Place = other.0 in
    let leads : Steps files p.0 p.1 i = other.1.1 in
    record {
      other = p.0;
      second = p.1;
      apart = ⊎_elim
          (λ (same : (p.0 ≡ from) × (p.1 ≡ name)).
          absurd (other.2 (same_place p from name same.0 same.1)))
          (λ (o : IsOther p.0 p.1 from name). o) (same_entry p.0 from p.1 name);
      leads = (
        (
          other.1.0,
          λ up.
              let of = directory_by files (depth_in files tree) p.0 (tree_makes_steps files tree) leads.0 in
              let both : Some i ≡ Some of.0 = sym leads.1 ∙ ap (number_of files p.0) up ∙ of.1.up in
              let same : i ≡ of.0 = cc both in plain (subst (λ (k : ℕ). IsDirectory files k) (sym same) of.2),
        ),
        leads,
      );
    }

-- a directory has a count: its own name's, or the root's name for its parent
pub directory_counts : (files : Files) (i : ℕ) → IsTree files → AreCounted files → IsDirectory files i → HasLinks files i
directory_counts files i tree counted is =
    ⊎_elim
    (λ (at_root : i ≡ 1).
    let up : number_of files 1 parent_name ≡ Some i = tree.top.up ∙ ap (λ (k : ℕ). Some k) (sym at_root) in
    count_some (IsNameOf files i) (1, parent_name) (links_of (file_in files i)) (parent_counts, (tree.rooted, up)) (counted i))
    (λ (ne : i ≢ 1).
    let by = (tree_makes_steps files tree).shape.named i ne (directory_is_file files i is) in
    count_some (IsNameOf files i) (by.0, by.1) (links_of (file_in files i)) (named files by.0 i by.1 by.2) (counted i))
    (cases_eq i 1)

-- a file of a tree has no number 0
pub file_is_used : (files : Files) (i : ℕ) → IsTree files → IsFile files i → 0 < i
file_is_used files i tree there =
    ⊎_elim
    (λ (at_root : i ≡ 1). omega arith)
    (λ (ne : i ≢ 1).
    let by = (tree_makes_steps files tree).shape.named i ne there in
    lookup_used (directory_in files by.0) by.1 i by.2.1.1)
    (cases_eq i 1)

-- what has a count is there
pub links_there : (files : Files) (i : ℕ) → HasLinks files i → IsFile files i
links_there files i some none = let zero : links_of (file_in files i) ≡ 0 = ap links_of none in absurd (omega arith)
