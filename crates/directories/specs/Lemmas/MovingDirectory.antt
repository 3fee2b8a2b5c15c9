-- A tree stays one where a directory moves to another one that is not below it.
use Rattle.std.proofs.Common.{◌≡◌, ◌≢◌, inr, ℕ, suc, ◌+◌, ◌<◌, Bool, true, false, cond, List, Some, refl, sym, ap, ◌∙◌, ⊎_elim, arith}
use Rattle.std.specs.Str.{bytes_eq}
use Rattle.std.proofs.lemmas.Bool.{both_ways, cases_Bool, cases_eq}
use Rattle.std.proofs.lemmas.Slice.Eq.{bytes_eq-Decides}
use Rattle.model.specs.Files.{Files, file_in}
use Rattle.directories.specs.Trees.{directory_in, parent_name, self_name, IsDirectory, IsDirectoryOf, IsDown, IsOutside, IsTree, StepsDown}
use Rattle.directories.specs.TreeChanges.{MovesDirectory}
use Rattle.directories.specs.TreeLaws.{MovingDirectoryKeeps}
use Rattle.directories.specs.Lemmas.Adding.{directory_same}
use Rattle.directories.specs.Lemmas.Below.{below_along, below_itself, is_below, not_below}
use Rattle.directories.specs.Lemmas.Moves.{other_kinds, other_leads}
use Rattle.directories.specs.Lemmas.Moving.{moved_directory, moved_still, moved_was, moves_by, moves_once, MovesAt}
use Rattle.directories.specs.Lemmas.TreeBy.{depth_in, directory_is_file, steps_make_tree, tree_makes_steps, IsTreeBy}

-- the depths, where a file with those below it is put below another
depth_moved : (ℕ → ℕ) → (ℕ → Bool) → ℕ → ℕ → ℕ
depth_moved depth below parent i = depth i + cond (below i) (suc (depth parent)) 0

moved_below : (depth : ℕ → ℕ) (below : ℕ → Bool) (parent i : ℕ) → below i ≡ true → depth_moved depth below parent i ≡ depth i + suc (depth parent)
unfolding depth_moved
moved_below depth below parent i e = ap (λ (b : Bool). depth i + cond b (suc (depth parent)) 0) e

moved_outside : (depth : ℕ → ℕ) (below : ℕ → Bool) (parent i : ℕ) → below i ≡ false → depth_moved depth below parent i ≡ depth i
unfolding depth_moved
moved_outside depth below parent i e =
    let here : depth_moved depth below parent i ≡ depth i + 0 = ap (λ (b : Bool). depth i + cond b (suc (depth parent)) 0) e in omega arith

moved_same : (depth : ℕ → ℕ) (below : ℕ → Bool) (parent from to : ℕ) → below to ≡ below from → depth from < depth to →
    depth_moved depth below parent from < depth_moved depth below parent to
moved_same depth below parent from to same deep =
    ⊎_elim
    (λ (inside : below from ≡ true).
    let a = moved_below depth below parent from inside in let b = moved_below depth below parent to (same ∙ inside) in omega arith)
    (λ (out : below from ≡ false).
    let a = moved_outside depth below parent from out in let b = moved_outside depth below parent to (same ∙ out) in omega arith)
    (cases_Bool (below from))

moved_here : (depth : ℕ → ℕ) (below : ℕ → Bool) (parent i : ℕ) → below i ≡ true → below parent ≡ false →
    depth_moved depth below parent parent < depth_moved depth below parent i
moved_here depth below parent i inside out =
    let a = moved_below depth below parent i inside in let b = moved_outside depth below parent parent out in omega arith

self_apart : self_name ≢ parent_name
self_apart e = both_ways (bytes_eq self_name parent_name) refl ((bytes_eq-Decides self_name parent_name).1 e)

directory_moves : (files new : Files) (depth deep : ℕ → ℕ) (from to i : ℕ) (old name : List ℕ) → IsTreeBy files depth → IsDirectory files from →
    IsDirectory files to → IsDirectory files i → IsDown old → IsDown name → MovesDirectory files new from old to name i →
    deep to < deep i → ((at below : ℕ) (other : List ℕ) → IsDirectory files below → below ≢ i → StepsDown files at other below → deep at < deep below) →
    MovesAt files new from old to name i deep
directory_moves files new depth deep from to i old name tree is is_to directory old_down down moves here deeper =
    let mid : Files = moves.mid in
    let mid_is : IsDirectory mid i = moves.moves.kinds i ∙ directory in
    let mid_kinds = other_kinds mid new i parent_name (Some to) mid_is moves.up in
    let mid_leads = other_leads mid new i parent_name (Some to) moves.up in
    let mid_directory = moved_directory files mid from to i old name old_down down moves.moves in
    record {
      led = moves.moves.led;
      absent = moves.moves.absent;
      gone = mid_leads from old (inr old_down.1) ∙ moves.moves.gone;
      leads = mid_leads to name (inr down.1) ∙ moves.moves.leads;
      others = λ j other other_down not_old not_new. mid_leads j other (inr other_down.1) ∙ moves.moves.others j other not_old not_new;
      kinds = λ j. mid_kinds j ∙ moves.moves.kinds j;
      still = λ j there none.
          ⊎_elim (λ (here : j ≡ i). directory_is_file new i moves.up.changes.directory (ap (file_in new) (sym here) ∙ none))
          (λ (ne : j ≢ i). moved_still files mid from to i old name is is_to moves.moves j there (sym (moves.up.rest j ne) ∙ none)) (cases_eq j i);
      was = λ j there.
          moved_was files mid from to i old name is is_to moves.moves j
          (λ none.
          ⊎_elim (λ (here : j ≡ i). directory_is_file mid i mid_is (ap (file_in mid) (sym here) ∙ none))
          (λ (ne : j ≢ i). there (moves.up.rest j ne ∙ none)) (cases_eq j i));
      directories = λ j parent ne of. directory_same mid new j parent (moves.up.rest j ne) (mid_directory j parent of);
      itself = λ directory.
          let of : IsDirectoryOf (directory_in mid i) i from =
          mid_directory i from (tree.below from i old old_down (is, moves.moves.led) directory) in
          record { tidy = moves.up.changes.tidy; own = moves.up.changes.others self_name self_apart ∙ of.own; up = moves.up.leads };
      here = λ it. here;
      deeper = deeper;
    }

-- at depths where the directory lies below its new parent
module _ (files new : Files) (tree : IsTree files) (from to i : ℕ) (old name : List ℕ) (is : IsDirectory files from) (is_to : IsDirectory files to)
    (directory : IsDirectory files i) (old_down : IsDown old) (down : IsDown name) (outside : IsOutside files i to)
    (moves : MovesDirectory files new from old to name i) where
  abbrev depth : ℕ → ℕ
  depth = depth_in files tree

  abbrev deep : ℕ → ℕ
  deep = depth_moved depth (is_below files tree i) to

  by : IsTreeBy files depth
  by = tree_makes_steps files tree

  moved_at : MovesAt files new from old to name i deep
  moved_at =
      directory_moves files new depth deep from to i old name by is is_to directory old_down down moves
      (moved_here depth (is_below files tree i) to i (below_itself files tree i directory) (not_below files tree i to is_to outside))
      (λ at to_file other it ne step.
      moved_same depth (is_below files tree i) to at to_file (below_along files tree i at to_file other it ne step) (by.shape.deeper at to_file other it step))

pub moving_directory_keeps : MovingDirectoryKeeps
moving_directory_keeps files new from to i old name tree is is_to directory old_down down outside moves =
    let deep = deep files new tree from to i old name is is_to directory old_down down outside moves in
    let by = tree_makes_steps files tree in
    let at = moved_at files new tree from to i old name is is_to directory old_down down outside moves in
    record {
      tree = steps_make_tree new deep (moves_by files new (depth_in files tree) deep from to i old name by is is_to old_down down at);
      once = moves_once files new (depth_in files tree) deep from to i old name by is old_down at;
    }
