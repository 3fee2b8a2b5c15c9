-- A tree stays one where a name is dropped with its file, and where the files that are no directories are written.
use Rattle.std.proofs.Common.{◌≡◌, ◌≢◌, ℕ, List, Some, None, sym, ap, subst, ◌∙◌, ⊎_elim, arith}
use Rattle.std.proofs.lemmas.Bool.{cases_eq}
use Rattle.model.specs.Files.{Files, file_in}
use Rattle.directories.specs.Trees.{directory_in, kind_of, number_of, IsDirectory, IsDirectoryOf, IsDown, IsEmpty, IsFile, IsNamedOnce, Steps, StepsDown}
use Rattle.directories.specs.TreeChanges.{ChangesName, DropsName, KeepsNames}
use Rattle.directories.specs.TreeLaws.{DroppingKeeps, KeepingKeeps}
use Rattle.directories.specs.Lemmas.Rooted.{DropsDown, rooted_dropped}
use Rattle.directories.specs.Lemmas.TreeBy.{depth_in, directory_is_file, once_behind, steps_make_tree, tree_makes_steps, IsTreeBy}
use Rattle.directories.specs.Lemmas.Adding.{directory_changed, directory_same, step_same}

-- what a name leads to lies deeper, and is another
pub apart_below : (files : Files) (depth : ℕ → ℕ) (from i : ℕ) (name : List ℕ) → IsTreeBy files depth → StepsDown files from name i → i ≢ from
apart_below files depth from i name tree step same =
    let deep = tree.shape.deeper from i name (subst (λ (k : ℕ). IsDirectory files k) (sym same) step.1.0) step in let e : depth i ≡ depth from = ap depth same in absurd (omega arith)

pub no_kind : (files : Files) (i : ℕ) → file_in files i ≡ None → IsDirectory files i → ⊥
no_kind files i free is = let none : kind_of (file_in files i) ≡ 0 = ap kind_of free in let one : kind_of (file_in files i) ≡ 1 = is in absurd (omega arith)

-- a name that leads down in the new files led so before, and to another file than the one dropped
pub was_step : (files new : Files) (from i : ℕ) (name : List ℕ) → IsDirectory files from → IsDown name → IsNamedOnce files i →
    DropsName files new from name i → (at to : ℕ) (other : List ℕ) → StepsDown new at other to → (to ≢ i) × StepsDown files at other to
was_step files new from i name is down once drops at to other step =
    let here : StepsDown files from name i = (down, (is, drops.led)) in
    ⊎_elim
    (λ (in_from : at ≡ from).
    let led : number_of new from other ≡ Some to = ap (λ (k : ℕ). number_of new k other) (sym in_from) ∙ step.1.1 in
    let another : other ≢ name = λ this. let both : None ≡ Some to = sym drops.gone ∙ ap (number_of new from) (sym this) ∙ led in absurd (cc both) in
    let old : number_of files from other ≡ Some to = sym (drops.changes.others other another) ∙ led in (
      λ same. another (once.name from from other name (step.0, (is, old ∙ ap (λ (k : ℕ). Some k) same)) here),
      (
        step.0,
        (ap (λ (k : ℕ). kind_of (file_in files k)) in_from ∙ is, ap (λ (k : ℕ). number_of files k other) in_from ∙ old),
      ),
    ))
    (λ (elsewhere : at ≢ from).
    let not_gone : at ≢ i = λ same. no_kind new at (ap (file_in new) same ∙ drops.free) step.1.0 in
    let old : Steps files at other to = step_same new files at to other (sym (drops.rest at elsewhere not_gone)) step.1 in (
      λ same. elsewhere (once.directory at from other name (subst (λ (k : ℕ). StepsDown files at other k) same (step.0, old)) here),
      (step.0, old),
    ))
    (cases_eq at from)

kept_kind : (files new : Files) (from i : ℕ) (name : List ℕ) → IsDirectory files from → DropsName files new from name i →
    (j : ℕ) → j ≢ i → IsDirectory new j → IsDirectory files j
kept_kind files new from i name is drops j ne now =
    ⊎_elim (λ (in_from : j ≡ from). ap (λ (k : ℕ). kind_of (file_in files k)) in_from ∙ is)
    (λ (elsewhere : j ≢ from). ap kind_of (sym (drops.rest j elsewhere ne)) ∙ now) (cases_eq j from)

drops_down : (files new : Files) (depth : ℕ → ℕ) (from i : ℕ) (name : List ℕ) → IsTreeBy files depth → IsDirectory files from → IsDown name →
    IsNamedOnce files i → (IsDirectory files i → IsEmpty (directory_in files i)) → DropsName files new from name i →
    DropsDown (StepsDown files) (StepsDown new) (IsFile files) (IsFile new) (IsDirectory files) (IsDirectory new) i
drops_down files new depth from i name tree is down once empty drops =
    let nothing : (to : ℕ) (other : List ℕ) → StepsDown files i other to → ⊥ =
    λ to other step. let both : None ≡ Some to = sym (empty step.1.0 other step.0) ∙ step.1.1 in cc both in
    record {
      empty = nothing;
      still = λ at to other ne step.
          ⊎_elim
          (λ (in_from : at ≡ from).
          let led : number_of files from other ≡ Some to = ap (λ (k : ℕ). number_of files k other) (sym in_from) ∙ step.1.1 in
          let another : other ≢ name =
          λ this. let both : Some i ≡ Some to = sym drops.led ∙ ap (number_of files from) (sym this) ∙ led in
          let same : to ≡ i = cc both in ne same in (
            step.0,
            (
              ap (λ (k : ℕ). kind_of (file_in new k)) in_from ∙ drops.changes.directory,
              ap (λ (k : ℕ). number_of new k other) in_from ∙ drops.changes.others other another ∙ led,
            ),
          ))
          (λ (elsewhere : at ≢ from).
          let not_gone : at ≢ i = λ same. nothing to other (subst (λ (k : ℕ). StepsDown files k other to) same step) in
          (step.0, step_same files new at to other (drops.rest at elsewhere not_gone) step.1))
          (cases_eq at from);
      were = was_step files new from i name is down once drops;
      one = kept_kind files new from i name is drops;
      stay = λ j ne there none.
          ⊎_elim (λ (in_from : j ≡ from). directory_is_file new from drops.changes.directory (ap (file_in new) (sym in_from) ∙ none))
          (λ (elsewhere : j ≢ from). there (sym (drops.rest j elsewhere ne) ∙ none)) (cases_eq j from);
      was = λ j there.
          let ne : j ≢ i = λ same. there (ap (file_in new) same ∙ drops.free) in (
            ne,
            λ none.
                ⊎_elim (λ (in_from : j ≡ from). directory_is_file files from is (ap (file_in files) (sym in_from) ∙ none))
                (λ (elsewhere : j ≢ from). there (drops.rest j elsewhere ne ∙ none)) (cases_eq j from),
          );
    }

kept_directory : (files new : Files) (from i : ℕ) (name : List ℕ) → IsDown name → DropsName files new from name i →
    (j parent : ℕ) → j ≢ i → IsDirectoryOf (directory_in files j) j parent → IsDirectoryOf (directory_in new j) j parent
kept_directory files new from i name down drops j parent ne is =
    ⊎_elim (λ (in_from : j ≡ from).
    directory_changed files new j parent name down (subst (λ (k : ℕ). ChangesName files new k name) (sym in_from) drops.changes) is)
    (λ (elsewhere : j ≢ from). directory_same files new j parent (drops.rest j elsewhere ne) is) (cases_eq j from)

drops_by : (files new : Files) (depth : ℕ → ℕ) (from i : ℕ) (name : List ℕ) → IsTreeBy files depth → IsDirectory files from → IsDown name →
    IsNamedOnce files i → (IsDirectory files i → IsEmpty (directory_in files i)) → DropsName files new from name i → IsTreeBy new depth
drops_by files new depth from i name tree is down once empty drops =
    let not_root : 1 ≢ i = λ same. (tree.shape.lead from i name (down, (is, drops.led))).1 (sym same) in
    record {
      rooted =
          ⊎_elim (λ (in_from : 1 ≡ from). ap (λ (k : ℕ). kind_of (file_in new k)) in_from ∙ drops.changes.directory)
          (λ (elsewhere : 1 ≢ from). ap kind_of (drops.rest 1 elsewhere not_root) ∙ tree.rooted) (cases_eq 1 from);
      top = kept_directory files new from i name down drops 1 1 not_root tree.top;
      below = λ at to other other_down step now.
          let old = was_step files new from i name is down once drops at to other (other_down, step) in
          kept_directory files new from i name down drops to at old.0
          (tree.below at to other other_down old.1.1 (kept_kind files new from i name is drops to old.0 now));
      shape = rooted_dropped (StepsDown files) (StepsDown new) (IsFile files) (IsFile new) (IsDirectory files) (IsDirectory new) depth i tree.shape
          (drops_down files new depth from i name tree is down once empty drops);
    }

pub dropping_keeps : DroppingKeeps
dropping_keeps files new from i name tree is down once empty drops =
    let depth : ℕ → ℕ = depth_in files tree in
    record {
      tree = steps_make_tree new depth (drops_by files new depth from i name (tree_makes_steps files tree) is down once empty drops);
      once = λ j only. once_behind files new j only (λ at other step. (was_step files new from i name is down once drops at j other step).1);
    }

-- ---- files that are no directories

keeps_by : (files new : Files) (depth : ℕ → ℕ) → IsTreeBy files depth → KeepsNames files new → IsTreeBy new depth
keeps_by files new depth tree keeps =
    let now : (at to : ℕ) (other : List ℕ) → StepsDown files at other to → StepsDown new at other to =
    λ at to other step. (step.0, step_same files new at to other (keeps.directories at step.1.0) step.1) in
    let old : (at to : ℕ) (other : List ℕ) → StepsDown new at other to → StepsDown files at other to =
    λ at to other step.
    let was : IsDirectory files at = sym (keeps.kinds at) ∙ step.1.0 in
    (step.0, step_same new files at to other (sym (keeps.directories at was)) step.1) in
    record {
      rooted = keeps.kinds 1 ∙ tree.rooted;
      top = directory_same files new 1 1 (keeps.directories 1 tree.rooted) tree.top;
      below = λ at to other down step is.
          let was : IsDirectory files to = sym (keeps.kinds to) ∙ is in
          directory_same files new to at (keeps.directories to was) (tree.below at to other down (old at to other (down, step)).1 was);
      shape = record {
        above = λ at to other step. keeps.still at (tree.shape.above at to other (old at to other step));
        lead = λ at to other step. let led = tree.shape.lead at to other (old at to other step) in (keeps.still to led.0, led.1);
        named = λ i ne there. let n = tree.shape.named i ne (keeps.was i there) in (n.0, n.1, now n.0 i n.1 n.2);
        parent = λ a b i x y is at_a at_b. tree.shape.parent a b i x y (sym (keeps.kinds i) ∙ is) (old a i x at_a) (old b i y at_b);
        name = λ a i x y is at_x at_y. tree.shape.name a i x y (sym (keeps.kinds i) ∙ is) (old a i x at_x) (old a i y at_y);
        deeper = λ at to other is step. tree.shape.deeper at to other (sym (keeps.kinds to) ∙ is) (old at to other step);
      };
    }

pub keeping_keeps : KeepingKeeps
keeping_keeps files new tree keeps =
    let depth : ℕ → ℕ = depth_in files tree in
    record {
      tree = steps_make_tree new depth (keeps_by files new depth (tree_makes_steps files tree) keeps);
      once = λ j once. once_behind files new j once
          (λ at other step. (step.0, step_same new files at j other (sym (keeps.directories at (sym (keeps.kinds at) ∙ step.1.0))) step.1));
    }
