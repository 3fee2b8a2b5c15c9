-- A tree stays one where a file has another name in place of its old one.
use Rattle.std.proofs.Common.{◌≡◌, ◌≢◌, ◌⊎◌, inl, inr, ℕ, ◌<◌, List, Some, None, sym, ap, subst, ◌∙◌, ⊎_elim, arith}
use Rattle.std.proofs.lemmas.Bool.{cases_eq}
use Rattle.model.specs.Files.{Files, file_in}
use Rattle.directories.specs.Trees.{directory_in, kind_of, number_of, parent_name, self_name, IsDirectory, IsDirectoryOf, IsDown, IsFile, IsTree, KeepsOnce, StepsDown}
use Rattle.directories.specs.TreeChanges.{MovesName}
use Rattle.directories.specs.TreeLaws.{MovingKeeps}
use Rattle.directories.specs.Lemmas.Rooted.{rooted_moved, IsRooted, MovesDown}
use Rattle.directories.specs.Lemmas.TreeBy.{depth_in, directory_is_file, once_behind, once_by, steps_make_tree, tree_makes_steps, IsTreeBy}
use Rattle.directories.specs.Lemmas.Adding.{same_name}

-- the name of a directory is not that one
abbrev pub IsOther : ℕ → List ℕ → ℕ → List ℕ → Type 0
IsOther i other from name = (i ≢ from) ⊎ (other ≢ name)

pub same_entry : (i from : ℕ) (other name : List ℕ) → ((i ≡ from) × (other ≡ name)) ⊎ IsOther i other from name
same_entry i from other name =
    ⊎_elim
    (λ (in_from : i ≡ from).
    ⊎_elim (λ (this : other ≡ name). inl (in_from, this)) (λ (another : other ≢ name). inr (inr another)) (same_name other name))
    (λ (elsewhere : i ≢ from). inr (inl elsewhere)) (cases_eq i from)

-- What a move leaves of the files, and depths at which it leaves a tree: as the lemma below wants it.
pub record MovesAt (files new : Files) (from : ℕ) (old : List ℕ) (to : ℕ) (name : List ℕ) (number : ℕ) (deep : ℕ → ℕ) : Type 0 where
  pub led : number_of files from old ≡ Some number
  pub absent : number_of files to name ≡ None
  pub gone : number_of new from old ≡ None
  pub leads : number_of new to name ≡ Some number
  pub others : (i : ℕ) (other : List ℕ) → IsDown other → IsOther i other from old → IsOther i other to name →
      number_of new i other ≡ number_of files i other
  pub kinds : (i : ℕ) → kind_of (file_in new i) ≡ kind_of (file_in files i)
  pub still : (i : ℕ) → IsFile files i → IsFile new i
  pub was : (i : ℕ) → IsFile new i → IsFile files i
  pub directories : (i parent : ℕ) → i ≢ number → IsDirectoryOf (directory_in files i) i parent → IsDirectoryOf (directory_in new i) i parent
  pub itself : IsDirectory files number → IsDirectoryOf (directory_in new number) number to
  pub here : IsDirectory files number → deep to < deep number
  pub deeper : (at below : ℕ) (other : List ℕ) → IsDirectory files below → below ≢ number → StepsDown files at other below → deep at < deep below

old_steps : (files new : Files) (depth deep : ℕ → ℕ) (from to i : ℕ) (old name : List ℕ) → IsTreeBy files depth → IsDirectory files from →
    IsDown old → MovesAt files new from old to name i deep → (at below : ℕ) (other : List ℕ) → StepsDown new at other below →
    ((below ≡ i) × (at ≡ to) × (other ≡ name)) ⊎ ((IsDirectory files below → below ≢ i) × StepsDown files at other below)
old_steps files new depth deep from to i old name tree is old_down moves at below other step =
    ⊎_elim
    (λ (here : (at ≡ to) × (other ≡ name)).
    let led : number_of new to name ≡ Some below = ap (λ (k : ℕ). number_of new k name) (sym here.0) ∙ ap (number_of new at) (sym here.1) ∙ step.1.1 in
    let both : Some i ≡ Some below = sym moves.leads ∙ led in
    let same : below ≡ i = cc both in
    inl (same, here.0, here.1))
    (λ (not_new : IsOther at other to name).
    ⊎_elim
    (λ (there : (at ≡ from) × (other ≡ old)).
    let led : number_of new from old ≡ Some below = ap (λ (k : ℕ). number_of new k old) (sym there.0) ∙ ap (number_of new at) (sym there.1) ∙ step.1.1 in
    let both : None ≡ Some below = sym moves.gone ∙ led in absurd (cc both))
    (λ (not_old : IsOther at other from old).
    let was : StepsDown files at other below =
    (step.0, (sym (moves.kinds at) ∙ step.1.0, sym (moves.others at other step.0 not_old not_new) ∙ step.1.1)) in
    inr (
      λ directory same.
          let it : IsDirectory files i = subst (λ (k : ℕ). IsDirectory files k) same directory in
          let this : StepsDown files at other i = subst (λ (k : ℕ). StepsDown files at other k) same was in
          let that : StepsDown files from old i = (old_down, (is, moves.led)) in
          let parents : at ≡ from = tree.shape.parent at from i other old it this that in
          let names : other ≡ old = tree.shape.name from i other old it (subst (λ (k : ℕ). StepsDown files k other i) parents this) that in
          ⊎_elim (λ (differ : at ≢ from). differ parents) (λ (differ : other ≢ old). differ names) not_old,
      was,
    ))
    (same_entry at from other old))
    (same_entry at to other name)

moves_down : (files new : Files) (depth deep : ℕ → ℕ) (from to i : ℕ) (old name : List ℕ) → IsTreeBy files depth → IsDirectory files from →
    IsDirectory files to → IsDown old → IsDown name → MovesAt files new from old to name i deep →
    MovesDown (StepsDown files) (StepsDown new) (IsFile files) (IsDirectory files) deep to name i
moves_down files new depth deep from to i old name tree is is_to old_down down moves =
    let led = tree.shape.lead from i old (old_down, (is, moves.led)) in
    record {
      in_parent = directory_is_file files to is_to;
      apart = led.1;
      there = led.0;
      is = (down, (moves.kinds to ∙ is_to, moves.leads));
      still = λ at below other ne step.
          let not_old : IsOther at other from old =
          ⊎_elim
          (λ (there : (at ≡ from) × (other ≡ old)).
          let led : number_of files from old ≡ Some below = ap (λ (k : ℕ). number_of files k old) (sym there.0) ∙ ap (number_of files at) (sym there.1) ∙ step.1.1 in
          let both : Some i ≡ Some below = sym moves.led ∙ led in let same : below ≡ i = cc both in absurd (ne same))
          (λ (o : IsOther at other from old). o) (same_entry at from other old) in
          let not_new : IsOther at other to name =
          ⊎_elim
          (λ (here : (at ≡ to) × (other ≡ name)).
          let led : number_of files to name ≡ Some below = ap (λ (k : ℕ). number_of files k name) (sym here.0) ∙ ap (number_of files at) (sym here.1) ∙ step.1.1 in
          let both : None ≡ Some below = sym moves.absent ∙ led in absurd (cc both))
          (λ (o : IsOther at other to name). o) (same_entry at to other name) in
          (step.0, (moves.kinds at ∙ step.1.0, moves.others at other step.0 not_old not_new ∙ step.1.1));
      were = old_steps files new depth deep from to i old name tree is old_down moves;
      here = moves.here;
      deeper = moves.deeper;
    }

-- the same files are there
there_again : (Down : ℕ → List ℕ → ℕ → Type 0) (Was Is WasOne IsOne : ℕ → Type 0) (depth : ℕ → ℕ) → ((i : ℕ) → Was i → Is i) → ((i : ℕ) → Is i → Was i) →
    ((i : ℕ) → IsOne i → WasOne i) → IsRooted Down Was WasOne depth → IsRooted Down Is IsOne depth
there_again Down Was Is WasOne IsOne depth still was one tree = record {
  above = λ from to name d. still from (tree.above from to name d);
  lead = λ from to name d. let led = tree.lead from to name d in (still to led.0, led.1);
  named = λ i ne is. tree.named i ne (was i is);
  parent = λ a b i x y is. tree.parent a b i x y (one i is);
  name = λ a i x y is. tree.name a i x y (one i is);
  deeper = λ from to name is. tree.deeper from to name (one to is);
}

pub moves_by : (files new : Files) (depth deep : ℕ → ℕ) (from to i : ℕ) (old name : List ℕ) → IsTreeBy files depth → IsDirectory files from →
    IsDirectory files to → IsDown old → IsDown name → MovesAt files new from old to name i deep → IsTreeBy new deep
moves_by files new depth deep from to i old name tree is is_to old_down down moves =
    let not_root : 1 ≢ i = λ same. (tree.shape.lead from i old (old_down, (is, moves.led))).1 (sym same) in
    record {
      rooted = moves.kinds 1 ∙ tree.rooted;
      top = moves.directories 1 1 not_root tree.top;
      below = λ at to_file other other_down step now.
          let was : IsDirectory files to_file = sym (moves.kinds to_file) ∙ now in
          ⊎_elim
          (λ (this : (to_file ≡ i) × (at ≡ to) × (other ≡ name)).
          let own : IsDirectoryOf (directory_in new i) i to = moves.itself (ap (λ (k : ℕ). kind_of (file_in files k)) (sym this.0) ∙ was) in
          subst (λ (k : ℕ). IsDirectoryOf (directory_in new to_file) to_file k) (sym this.1)
          (subst (λ (k : ℕ). IsDirectoryOf (directory_in new k) k to) (sym this.0) own))
          (λ (that : (IsDirectory files to_file → to_file ≢ i) × StepsDown files at other to_file).
          moves.directories to_file at (that.0 was) (tree.below at to_file other other_down that.1.1 was))
          (old_steps files new depth deep from to i old name tree is old_down moves at to_file other (other_down, step));
      shape = there_again (StepsDown new) (IsFile files) (IsFile new) (IsDirectory files) (IsDirectory new) deep moves.still moves.was
          (λ j now. sym (moves.kinds j) ∙ now)
          (rooted_moved (StepsDown files) (StepsDown new) (IsFile files) (IsDirectory files) depth deep to name i tree.shape
          (moves_down files new depth deep from to i old name tree is is_to old_down down moves));
    }

-- ---- a name alone

-- a directory's own two names stay
pub moved_directory : (files new : Files) (from to i : ℕ) (old name : List ℕ) → IsDown old → IsDown name → MovesName files new from old to name i →
    (j parent : ℕ) → IsDirectoryOf (directory_in files j) j parent → IsDirectoryOf (directory_in new j) j parent
moved_directory files new from to i old name old_down down moves j parent is = record {
  tidy = moves.tidy j is.tidy;
  own = moves.others j self_name (inr (λ same. old_down.0 (sym same))) (inr (λ same. down.0 (sym same))) ∙ is.own;
  up = moves.others j parent_name (inr (λ same. old_down.1 (sym same))) (inr (λ same. down.1 (sym same))) ∙ is.up;
}

pub moved_still : (files new : Files) (from to i : ℕ) (old name : List ℕ) → IsDirectory files from → IsDirectory files to →
    MovesName files new from old to name i → (j : ℕ) → IsFile files j → IsFile new j
moved_still files new from to i old name is is_to moves j there none =
    ⊎_elim (λ (in_from : j ≡ from). directory_is_file new from (moves.kinds from ∙ is) (ap (file_in new) (sym in_from) ∙ none))
    (λ (not_from : j ≢ from).
    ⊎_elim (λ (in_to : j ≡ to). directory_is_file new to (moves.kinds to ∙ is_to) (ap (file_in new) (sym in_to) ∙ none))
    (λ (not_to : j ≢ to). there (sym (moves.rest j not_from not_to) ∙ none)) (cases_eq j to)) (cases_eq j from)

pub moved_was : (files new : Files) (from to i : ℕ) (old name : List ℕ) → IsDirectory files from → IsDirectory files to →
    MovesName files new from old to name i → (j : ℕ) → IsFile new j → IsFile files j
moved_was files new from to i old name is is_to moves j there none =
    ⊎_elim (λ (in_from : j ≡ from). directory_is_file files from is (ap (file_in files) (sym in_from) ∙ none))
    (λ (not_from : j ≢ from).
    ⊎_elim (λ (in_to : j ≡ to). directory_is_file files to is_to (ap (file_in files) (sym in_to) ∙ none))
    (λ (not_to : j ≢ to). there (moves.rest j not_from not_to ∙ none)) (cases_eq j to)) (cases_eq j from)

name_moves : (files new : Files) (depth deep : ℕ → ℕ) (from to i : ℕ) (old name : List ℕ) → IsTreeBy files depth → IsDirectory files from →
    IsDirectory files to → IsDown old → IsDown name → (IsDirectory files i → from ≡ to) → MovesName files new from old to name i →
    (IsDirectory files i → deep to < deep i) → ((at below : ℕ) (other : List ℕ) → IsDirectory files below → below ≢ i → StepsDown files at other below → deep at < deep below) →
    MovesAt files new from old to name i deep
name_moves files new depth deep from to i old name tree is is_to old_down down within moves here deeper = record {
  led = moves.led;
  absent = moves.absent;
  gone = moves.gone;
  leads = moves.leads;
  others = λ j other other_down not_old not_new. moves.others j other not_old not_new;
  kinds = moves.kinds;
  still = moved_still files new from to i old name is is_to moves;
  was = moved_was files new from to i old name is is_to moves;
  directories = λ j parent ne. moved_directory files new from to i old name old_down down moves j parent;
  itself = λ directory.
      moved_directory files new from to i old name old_down down moves i to
      (subst (λ (k : ℕ). IsDirectoryOf (directory_in files i) i k) (within directory) (tree.below from i old old_down (is, moves.led) directory));
  here = here;
  deeper = deeper;
}

within_here : (files : Files) (depth : ℕ → ℕ) (from to i : ℕ) (old : List ℕ) → IsTreeBy files depth → from ≡ to → IsDirectory files i →
    StepsDown files from old i → depth to < depth i
within_here files depth from to i old tree same directory step =
    let deep = tree.shape.deeper from i old directory step in let e : depth from ≡ depth to = ap depth same in omega arith

moved_at : (files new : Files) (tree : IsTree files) (from to i : ℕ) (old name : List ℕ) → IsDirectory files from → IsDirectory files to → IsDown old → IsDown name →
    (IsDirectory files i → from ≡ to) → MovesName files new from old to name i → MovesAt files new from old to name i (depth_in files tree)
moved_at files new tree from to i old name is is_to old_down down within moves =
    let depth : ℕ → ℕ = depth_in files tree in
    let by = tree_makes_steps files tree in
    name_moves files new depth depth from to i old name by is is_to old_down down within moves
    (λ directory. within_here files depth from to i old by (within directory) directory (old_down, (is, moves.led)))
    (λ at below other directory ne step. by.shape.deeper at below other directory step)

-- ---- names of the files

-- what had one name has one still
pub moves_once : (files new : Files) (depth deep : ℕ → ℕ) (from to i : ℕ) (old name : List ℕ) → IsTreeBy files depth → IsDirectory files from →
    IsDown old → MovesAt files new from old to name i deep → KeepsOnce files new
moves_once files new depth deep from to i old name tree is old_down moves j once =
    let steps = old_steps files new depth deep from to i old name tree is old_down moves in
    ⊎_elim
    (λ (same : j ≡ i).
    let that : StepsDown files from old j = subst (λ (k : ℕ). StepsDown files from old k) (sym same) (old_down, (is, moves.led)) in
    once_by new to j name
    (λ at other step.
    ⊎_elim (λ (this : (j ≡ i) × (at ≡ to) × (other ≡ name)). (this.1, this.2))
    (λ (was : (IsDirectory files j → j ≢ i) × StepsDown files at other j).
    let at_old : at ≡ from = once.directory at from other old was.1 that in
    let old_name : other ≡ old = once.name at from other old was.1 that in
    let led : number_of new from old ≡ Some j = ap (λ (k : ℕ). number_of new k old) (sym at_old) ∙ ap (number_of new at) (sym old_name) ∙ step.1.1 in
    let both : None ≡ Some j = sym moves.gone ∙ led in absurd (cc both)) (steps at j other step)))
    (λ (ne : j ≢ i).
    once_behind files new j once
    (λ at other step.
    ⊎_elim (λ (this : (j ≡ i) × (at ≡ to) × (other ≡ name)). absurd (ne this.0))
    (λ (was : (IsDirectory files j → j ≢ i) × StepsDown files at other j). was.1) (steps at j other step)))
    (cases_eq j i)

-- ---- the tree

pub moving_keeps : MovingKeeps
moving_keeps files new from to i old name tree is is_to old_down down within moves =
    let depth : ℕ → ℕ = depth_in files tree in
    let by = tree_makes_steps files tree in
    let at = moved_at files new tree from to i old name is is_to old_down down within moves in
    record {
      tree = steps_make_tree new depth (moves_by files new depth depth from to i old name by is is_to old_down down at);
      once = moves_once files new depth depth from to i old name by is old_down at;
    }
