-- The laws of counts: what they say of names, and what keeps them right.
use Rattle.std.proofs.Common.{◌≡◌, ◌≢◌, ℕ, ◌<◌, ◌≤◌, List, Some, sym, ap, ap₂, subst, ◌∙◌, ⊎_elim}
use Rattle.std.proofs.lemmas.Bool.{cases_eq}
use Rattle.model.specs.Files.{Files, file_in}
use Rattle.directories.specs.Counts.{AreCounted, HasNames, IsNameOf, Place}
use Rattle.directories.specs.CountLaws.{AddingCounts, AddingDirectoryCounts, CountsAreOne, DroppingCounts, DroppingDirectoryCounts, KeepingCounts, LinkingKeeps, MovingCounts, MovingDirectoryCounts, RootCounts, UnlinkingKeeps}
use Rattle.directories.specs.Trees.{links_of, number_of, parent_name, HasOtherName, IsDirectory, IsNamedOnce, IsTree, Steps, StepsDown}
use Rattle.directories.specs.Lemmas.CountedChanges.{counted_added, counted_directory_added, counted_directory_dropped, counted_directory_moved, counted_dropped, counted_kept, counted_linked, counted_moved, counted_unlinked, parent_counts, root_is_counted}
use Rattle.directories.specs.Lemmas.Linked.{linked_tree, unlinked_tree}
use Rattle.directories.specs.Lemmas.Moving.{same_entry, IsOther}
use Rattle.directories.specs.Lemmas.Places.{count_one, count_other, count_some, count_unique}
use Rattle.directories.specs.Lemmas.TreeBy.{depth_in, directory_is_file, tree_makes_steps}
use Rattle.directories.specs.Lemmas.TreeMeaning.{directory_by}

same_place : (p : Place) (from : ℕ) (name : List ℕ) → p.0 ≡ from → p.1 ≡ name → p ≡ (from, name)
same_place p from name same named = ap₂ (λ (a : ℕ) (n : List ℕ). (a, n)) same named

named : (files : Files) (from i : ℕ) (name : List ℕ) → StepsDown files from name i → IsNameOf files i (from, name)
named files from i name step = (step.0.0, step.1)

-- one name alone leads to a file whose count is 1
pub once_counted : (files : Files) (i : ℕ) → AreCounted files → links_of (file_in files i) ≡ 1 → IsNamedOnce files i
once_counted files i counted one =
    let same : (a b : ℕ) (x y : List ℕ) → StepsDown files a x i → StepsDown files b y i → (a, x) ≡ (b, y) =
    λ a b x y at_a at_b.
    count_one (IsNameOf files i) (a, x) (b, y) (named files a i x at_a) (named files b i y at_b) (subst (λ (n : ℕ). HasNames files i n) one (counted i)) in
    record {
      directory = λ a b x y at_a at_b. ap (λ (p : Place). p.0) (same a b x y at_a at_b);
      name = λ a b x y at_a at_b. ap (λ (p : Place). p.1) (same a b x y at_a at_b);
    }

-- and another one to a file whose count is more, if it is no directory
pub other_counted : (files : Files) (from i : ℕ) (name : List ℕ) → IsTree files → AreCounted files → (IsDirectory files i → ⊥) →
    StepsDown files from name i → 2 ≤ links_of (file_in files i) → HasOtherName files from name i
other_counted files from i name tree counted plain step two =
    let other = count_other (IsNameOf files i) (from, name) (links_of (file_in files i)) two (named files from i name step) (counted i) in
    let p : Place = other.0 in
    let leads : Steps files p.0 p.1 i = other.1.1 in
    record {
      other = p.0;
      second = p.1;
      apart = ⊎_elim
          (λ (same : (p.0 ≡ from) × (p.1 ≡ name)).
          absurd (other.2 (same_place p from name same.0 same.1)))
          (λ (o : IsOther p.0 p.1 from name). o) (same_entry p.0 from p.1 name);
      leads = (
        (
          other.1.0,
          λ up.
              let of = directory_by files (depth_in files tree) p.0 (tree_makes_steps files tree) leads.0 in
              let both : Some i ≡ Some of.0 = sym leads.1 ∙ ap (number_of files p.0) up ∙ of.1.up in
              let same : i ≡ of.0 = cc both in plain (subst (λ (k : ℕ). IsDirectory files k) (sym same) of.2),
        ),
        leads,
      );
    }

-- a directory has a count: its own name's, or the root's name for its parent
pub directory_counts : (files : Files) (i : ℕ) → IsTree files → AreCounted files → IsDirectory files i → 0 < links_of (file_in files i)
directory_counts files i tree counted is =
    ⊎_elim
    (λ (at_root : i ≡ 1).
    let up : number_of files 1 parent_name ≡ Some i = tree.top.up ∙ ap (λ (k : ℕ). Some k) (sym at_root) in
    count_some (IsNameOf files i) (1, parent_name) (links_of (file_in files i)) (parent_counts, (tree.rooted, up)) (counted i))
    (λ (ne : i ≢ 1).
    let by = (tree_makes_steps files tree).shape.named i ne (directory_is_file files i is) in
    count_some (IsNameOf files i) (by.0, by.1) (links_of (file_in files i)) (named files by.0 i by.1 by.2) (counted i))
    (cases_eq i 1)

-- ---- the laws

pub linking_keeps : LinkingKeeps
linking_keeps files new from i name counted tree is down links linked =
    let tree_new = linked_tree files new from i name tree is down linked in
    (tree_new, counted_linked files new from i name counted tree_new is down.0 links linked)

pub unlinking_keeps : UnlinkingKeeps
unlinking_keeps files new from i name counted tree is down other links unlinked =
    let tree_new = unlinked_tree files new from i name tree is down other unlinked in
    (tree_new, counted_unlinked files new from i name counted tree_new is down.0 links unlinked)

pub adding_counts : AddingCounts
adding_counts files new from i name file counted tree is down plain one links adds =
    counted_added files new from i name file counted tree is down.0 plain one links adds

pub adding_directory_counts : AddingDirectoryCounts
adding_directory_counts files new from i name counted tree is down fresh links adds =
    counted_directory_added files new from i name is down.0 fresh adds counted tree links

pub dropping_counts : DroppingCounts
dropping_counts files new from i name counted tree is down plain links drops =
    counted_dropped files new from i name counted tree is down.0 plain links drops

pub dropping_directory_counts : DroppingDirectoryCounts
dropping_directory_counts files new from i name counted tree tree_new is down links drops =
    counted_directory_dropped files new from i name tree is down drops counted tree_new links

pub moving_counts : MovingCounts
moving_counts files new from to i old name counted is is_to old_down down links moves =
    counted_moved files new from to i old name counted is is_to old_down.0 down.0 links moves

pub moving_directory_counts : MovingDirectoryCounts
moving_directory_counts files new from to i old name counted tree is is_to apart directory old_down down less more links moves =
    counted_directory_moved files new from to i old name tree is is_to apart directory old_down down moves counted less more links

pub keeping_counts : KeepingCounts
keeping_counts files new counted links keeps = counted_kept files new counted links keeps

pub root_counts : RootCounts
root_counts files tree there none = root_is_counted files tree there none

pub counts_are_one : CountsAreOne
counts_are_one files i a b has_a has_b = count_unique (IsNameOf files i) a b has_a has_b
