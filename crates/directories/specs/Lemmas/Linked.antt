-- A tree stays one where a file that is no directory has another name, or one of several no more.
use Rattle.std.proofs.Common.{◌≡◌, ◌≢◌, ◌⊎◌, inl, inr, ℕ, ◌+◌, List, Some, sym, ap, subst, ◌∙◌, ⊎_elim}
use Rattle.std.proofs.lemmas.Bool.{cases_eq}
use Rattle.model.specs.declared.types.image.File.{File}
use Rattle.model.specs.Files.{Files, file_in}
use Rattle.model.specs.Operations.{with_links}
use Rattle.directories.specs.TreeChanges.{ChangesName, LinksName, UnlinksName}
use Rattle.directories.specs.Trees.{directory_in, kind_of, HasOtherName, IsDirectory, IsDirectoryOf, IsDown, IsFile, IsTree, Steps, StepsDown}
use Rattle.directories.specs.Lemmas.Adding.{directory_changed, directory_same}
use Rattle.directories.specs.Lemmas.CountedChanges.{links_appears, unlinks_vanishes}
use Rattle.directories.specs.Lemmas.Counting.{Appears, Vanishes}
use Rattle.directories.specs.Lemmas.Moving.{same_entry, IsOther}
use Rattle.directories.specs.Lemmas.TreeBy.{depth_in, directory_is_file, steps_make_tree, tree_makes_steps, IsTreeBy}
use Rattle.directories.specs.Lemmas.Unnamed.{some_ne_none}

-- ---- files that stay but for the count of one that is no directory

module _ (files new : Files) (from number n : ℕ) (name : List ℕ) (file : File) (is : IsDirectory files from) (changes : ChangesName files new from name)
    (was : file_in files number ≡ Some file) (now : file_in new number ≡ with_links file n) (plain : file.kind ≢ 1)
    (rest : (i : ℕ) → i ≢ from → i ≢ number → file_in new i ≡ file_in files i) where
  kinds : (j : ℕ) → kind_of (file_in new j) ≡ kind_of (file_in files j)
  kinds j =
      ⊎_elim
      (λ (same : j ≡ number).
      ap (λ (k : ℕ). kind_of (file_in new k)) same ∙ ap kind_of now ∙ sym (ap (λ (k : ℕ). kind_of (file_in files k)) same ∙ ap kind_of was))
      (λ (apart : j ≢ number).
      ⊎_elim
      (λ (in_from : j ≡ from).
      ap (λ (k : ℕ). kind_of (file_in new k)) in_from ∙ changes.directory ∙ sym (ap (λ (k : ℕ). kind_of (file_in files k)) in_from ∙ is))
      (λ (elsewhere : j ≢ from). ap kind_of (rest j elsewhere apart)) (cases_eq j from))
      (cases_eq j number)

  still : (j : ℕ) → IsFile files j → IsFile new j
  still j there none =
      ⊎_elim
      (λ (same : j ≡ number). let both = sym (ap (file_in new) (sym same) ∙ none) ∙ now in absurd (cc both))
      (λ (apart : j ≢ number).
      ⊎_elim (λ (in_from : j ≡ from). directory_is_file new from changes.directory (ap (file_in new) (sym in_from) ∙ none))
      (λ (elsewhere : j ≢ from). there (sym (rest j elsewhere apart) ∙ none)) (cases_eq j from))
      (cases_eq j number)

  was_there : (j : ℕ) → IsFile new j → IsFile files j
  was_there j there none =
      ⊎_elim
      (λ (same : j ≡ number). some_ne_none file (sym was ∙ ap (file_in files) (sym same) ∙ none))
      (λ (apart : j ≢ number).
      ⊎_elim (λ (in_from : j ≡ from). directory_is_file files from is (ap (file_in files) (sym in_from) ∙ none))
      (λ (elsewhere : j ≢ from). there (rest j elsewhere apart ∙ none)) (cases_eq j from))
      (cases_eq j number)

  not_plain : (j : ℕ) → IsDirectory files j → j ≢ number
  not_plain j directory same = plain (sym (ap (λ (k : ℕ). kind_of (file_in files k)) same ∙ ap kind_of was) ∙ directory)

  kept : IsDown name → (j parent : ℕ) → IsDirectory files j → IsDirectoryOf (directory_in files j) j parent → IsDirectoryOf (directory_in new j) j parent
  kept down j parent directory of =
      ⊎_elim
      (λ (in_from : j ≡ from).
      directory_changed files new j parent name down (subst (λ (k : ℕ). ChangesName files new k name) (sym in_from) changes) of)
      (λ (elsewhere : j ≢ from). directory_same files new j parent (rest j elsewhere (not_plain j directory)) of) (cases_eq j from)

-- ---- one name less

module _ (files new : Files) (from number : ℕ) (name : List ℕ) (tree : IsTree files) (is : IsDirectory files from) (down : IsDown name)
    (other : HasOtherName files from name number) (u : UnlinksName files new from name number) where
  lost : Vanishes (Steps files) (Steps new) from name number
  lost = unlinks_vanishes files new from number name is down.0 u

  kinds_less : (j : ℕ) → kind_of (file_in new j) ≡ kind_of (file_in files j)
  kinds_less = kinds files new from number u.left name u.file is u.changes u.was u.is u.plain u.rest

  back_less : (at to : ℕ) (x : List ℕ) → StepsDown new at x to → StepsDown files at x to
  back_less at to x step =
      ⊎_elim
      (λ (here : (at ≡ from) × (x ≡ name)).
      absurd (lost.none to (subst (λ (n : List ℕ). Steps new from n to) here.1 (subst (λ (k : ℕ). Steps new k x to) here.0 step.1))))
      (λ (o : IsOther at x from name). (step.0, lost.keeps.back at to x step.0.0 o step.1))
      (same_entry at from x name)

  named_less : IsTreeBy files (depth_in files tree) → (i : ℕ) → i ≢ 1 → IsFile new i → (at : ℕ) × (x : List ℕ) × StepsDown new at x i
  named_less by i ne there =
      let named = by.shape.named i ne (was_there files new from number u.left name u.file is u.changes u.was u.is u.plain u.rest i there) in
      ⊎_elim
      (λ (here : (named.0 ≡ from) × (named.1 ≡ name)).
      let step : Steps files from name i =
      subst (λ (n : List ℕ). Steps files from n i) here.1 (subst (λ (k : ℕ). Steps files k named.1 i) here.0 named.2.1) in
      let same : i ≡ number = lost.only i step in
      let leads : StepsDown files other.other other.second i = subst (λ (k : ℕ). StepsDown files other.other other.second k) (sym same) other.leads in
      (other.other, other.second, (leads.0, lost.keeps.on other.other i other.second leads.0.0 other.apart leads.1)))
      (λ (o : IsOther named.0 named.1 from name).
      (named.0, named.1, (named.2.0, lost.keeps.on named.0 i named.1 named.2.0.0 o named.2.1)))
      (same_entry named.0 from named.1 name)

  pub unlinked_tree : IsTree new
  unlinked_tree =
      let depth : ℕ → ℕ = depth_in files tree in
      let by = tree_makes_steps files tree in
      let keep = kept files new from number u.left name u.file is u.changes u.was u.is u.plain u.rest down in
      steps_make_tree new depth (record {
        rooted = kinds_less 1 ∙ by.rooted;
        top = keep 1 1 by.rooted by.top;
        below = λ at to x x_down step now.
            let directory : IsDirectory files to = sym (kinds_less to) ∙ now in
            keep to at directory (by.below at to x x_down (back_less at to x (x_down, step)).1 directory);
        shape = record {
          above = λ at to x step. directory_is_file new at step.1.0;
          lead = λ at to x step.
              let led = by.shape.lead at to x (back_less at to x step) in
              (still files new from number u.left name u.file is u.changes u.was u.is u.plain u.rest to led.0, led.1);
          named = named_less by;
          parent = λ a b i x y now at_a at_b. by.shape.parent a b i x y (sym (kinds_less i) ∙ now) (back_less a i x at_a) (back_less b i y at_b);
          name = λ a i x y now at_x at_y. by.shape.name a i x y (sym (kinds_less i) ∙ now) (back_less a i x at_x) (back_less a i y at_y);
          deeper = λ at to x now step. by.shape.deeper at to x (sym (kinds_less to) ∙ now) (back_less at to x step);
        };
      })

-- ---- one name more

module _ (files new : Files) (from number : ℕ) (name : List ℕ) (tree : IsTree files) (is : IsDirectory files from) (down : IsDown name)
    (l : LinksName files new from name number) where
  gained : Appears (Steps files) (Steps new) from name number
  gained = links_appears files new from number name is down.0 l

  kinds_more : (j : ℕ) → kind_of (file_in new j) ≡ kind_of (file_in files j)
  kinds_more = kinds files new from number (l.file.links + 1) name l.file is l.changes l.was l.is l.plain l.rest

  not_the_file : (j : ℕ) → IsDirectory new j → j ≢ number
  not_the_file j now = not_plain files new from number (l.file.links + 1) name l.file is l.changes l.was l.is l.plain l.rest j (sym (kinds_more j) ∙ now)

  on_more : (at to : ℕ) (x : List ℕ) → StepsDown files at x to → StepsDown new at x to
  on_more at to x step =
      ⊎_elim
      (λ (here : (at ≡ from) × (x ≡ name)).
      absurd (gained.none to (subst (λ (n : List ℕ). Steps files from n to) here.1 (subst (λ (k : ℕ). Steps files k x to) here.0 step.1))))
      (λ (o : IsOther at x from name). (step.0, gained.keeps.on at to x step.0.0 o step.1))
      (same_entry at from x name)

  back_more : (at to : ℕ) (x : List ℕ) → StepsDown new at x to → (to ≡ number) ⊎ StepsDown files at x to
  back_more at to x step =
      ⊎_elim
      (λ (here : (at ≡ from) × (x ≡ name)).
      inl (gained.only to (subst (λ (n : List ℕ). Steps new from n to) here.1 (subst (λ (k : ℕ). Steps new k x to) here.0 step.1))))
      (λ (o : IsOther at x from name). inr (step.0, gained.keeps.back at to x step.0.0 o step.1))
      (same_entry at from x name)

  -- a directory has no name but those that it had
  back_directory : (at to : ℕ) (x : List ℕ) → IsDirectory new to → StepsDown new at x to → StepsDown files at x to
  back_directory at to x now step =
      ⊎_elim (λ (it : to ≡ number). absurd (not_the_file to now it)) (λ (old : StepsDown files at x to). old) (back_more at to x step)

  pub linked_tree : IsTree new
  linked_tree =
      let depth : ℕ → ℕ = depth_in files tree in
      let by = tree_makes_steps files tree in
      let more : ℕ = l.file.links + 1 in
      let keep = kept files new from number more name l.file is l.changes l.was l.is l.plain l.rest down in
      let stays = still files new from number more name l.file is l.changes l.was l.is l.plain l.rest in
      let there : IsFile files number = λ none. some_ne_none l.file (sym l.was ∙ none) in
      let root_now : IsDirectory new 1 = kinds_more 1 ∙ by.rooted in
      steps_make_tree new depth (record {
        rooted = root_now;
        top = keep 1 1 by.rooted by.top;
        below = λ at to x x_down step now.
            let directory : IsDirectory files to = sym (kinds_more to) ∙ now in
            keep to at directory (by.below at to x x_down (back_directory at to x now (x_down, step)).1 directory);
        shape = record {
          above = λ at to x step. directory_is_file new at step.1.0;
          lead = λ at to x step.
              ⊎_elim
              (λ (it : to ≡ number).
              (subst (λ (k : ℕ). IsFile new k) (sym it) (stays number there), λ is_root. not_the_file 1 root_now (sym is_root ∙ it)))
              (λ (old : StepsDown files at x to). let led = by.shape.lead at to x old in (stays to led.0, led.1))
              (back_more at to x step);
          named = λ i ne now.
              let named = by.shape.named i ne (was_there files new from number more name l.file is l.changes l.was l.is l.plain l.rest i now) in
              (named.0, named.1, on_more named.0 i named.1 named.2);
          parent = λ a b i x y now at_a at_b.
              by.shape.parent a b i x y (sym (kinds_more i) ∙ now) (back_directory a i x now at_a) (back_directory b i y now at_b);
          name = λ a i x y now at_x at_y.
              by.shape.name a i x y (sym (kinds_more i) ∙ now) (back_directory a i x now at_x) (back_directory a i y now at_y);
          deeper = λ at to x now step. by.shape.deeper at to x (sym (kinds_more to) ∙ now) (back_directory at to x now step);
        };
      })
