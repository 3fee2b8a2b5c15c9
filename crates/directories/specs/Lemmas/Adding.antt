-- A tree stays one where a file is added under a name.
use Rattle.std.proofs.Common.{◌≡◌, ◌≢◌, ◌⊎◌, inl, inr, true, false, ℕ, List, Option, Some, None, sym, ap, subst, ◌∙◌, ⊎_elim}
use Rattle.std.proofs.lemmas.Bool.{cases_eq, both_ways, cases_Bool}
use Rattle.std.specs.Str.{bytes_eq}
use Rattle.std.proofs.lemmas.Slice.Eq.{bytes_eq-Decides}
use Rattle.model.specs.declared.types.image.File.{File}
use Rattle.model.specs.Files.{Files, file_in}
use Rattle.directories.specs.Entries.{lookup}
use Rattle.directories.specs.Trees.{bytes_of, directory_in, kind_of, number_of, parent_name, self_name, IsDirectory, IsDirectoryOf, IsDown, IsFile, IsTree, KeepsOnce, Steps, StepsDown}
use Rattle.directories.specs.TreeChanges.{AddsName, ChangesName}
use Rattle.directories.specs.TreeLaws.{AddingKeeps, IsNew}
use Rattle.directories.specs.Lemmas.Rooted.{AddsDown, depth_with, rooted_added}
use Rattle.directories.specs.Lemmas.TreeBy.{depth_in, directory_is_file, once_behind, once_by, steps_make_tree, tree_makes_steps, IsTreeBy}
use Rattle.directories.specs.Lemmas.Unnamed.{apart_from, some_ne_none}

pub same_name : (a b : List ℕ) → (a ≡ b) ⊎ (a ≢ b)
same_name a b =
    ⊎_elim (λ (same : bytes_eq a b ≡ true). inl ((bytes_eq-Decides a b).0 same))
    (λ (differ : bytes_eq a b ≡ false). inr (λ e. both_ways (bytes_eq a b) differ ((bytes_eq-Decides a b).1 e))) (cases_Bool (bytes_eq a b))

-- ---- what stays

-- a directory of which no name but one that leads down was changed
pub directory_changed : (files new : Files) (i parent : ℕ) (name : List ℕ) → IsDown name → ChangesName files new i name →
    IsDirectoryOf (directory_in files i) i parent → IsDirectoryOf (directory_in new i) i parent
directory_changed files new i parent name down changes is = record {
  tidy = changes.tidy;
  own = changes.others self_name (λ same. down.0 (sym same)) ∙ is.own;
  up = changes.others parent_name (λ same. down.1 (sym same)) ∙ is.up;
}

pub directory_same : (files new : Files) (i parent : ℕ) → file_in new i ≡ file_in files i →
    IsDirectoryOf (directory_in files i) i parent → IsDirectoryOf (directory_in new i) i parent
directory_same files new i parent e is = subst (λ (o : Option File). IsDirectoryOf (bytes_of o) i parent) (sym e) is

pub step_same : (files new : Files) (i to : ℕ) (name : List ℕ) → file_in new i ≡ file_in files i → Steps files i name to → Steps new i name to
step_same files new i to name e step = (ap kind_of e ∙ step.0, ap (λ (o : Option File). lookup (bytes_of o) name) e ∙ step.1)

pub number_same : (files new : Files) (i : ℕ) (name : List ℕ) → file_in new i ≡ file_in files i → number_of new i name ≡ number_of files i name
number_same files new i name e = ap (λ (o : Option File). lookup (bytes_of o) name) e

-- ---- an added name

-- what the added file is, or the file that was
from_old : (files new : Files) (from i : ℕ) (name : List ℕ) (file : File) → IsDirectory files from → IsNew file i from →
    AddsName files new from name i file → (at to : ℕ) (other : List ℕ) → StepsDown new at other to →
    ((to ≡ i) × (at ≡ from) × (other ≡ name)) ⊎ StepsDown files at other to
from_old files new from i name file is is_new adds at to other step =
    ⊎_elim
    (λ (here : at ≡ i).
    let bytes : directory_in new at ≡ file.bytes = ap (directory_in new) here ∙ ap bytes_of adds.there in
    let kind : file.kind ≡ 1 = sym (ap (λ (k : ℕ). kind_of (file_in new k)) here ∙ ap kind_of adds.there) ∙ step.1.0 in
    let none : None ≡ Some to = sym ((is_new kind).1 other step.0) ∙ ap (λ (b : List ℕ). lookup b other) (sym bytes) ∙ step.1.1 in absurd (cc none))
    (λ (not_new : at ≢ i).
    ⊎_elim
    (λ (in_from : at ≡ from).
    let led : number_of new from other ≡ Some to = ap (λ (k : ℕ). number_of new k other) (sym in_from) ∙ step.1.1 in
    ⊎_elim
    (λ (this : other ≡ name).
    let both : Some i ≡ Some to = sym adds.leads ∙ ap (number_of new from) (sym this) ∙ led in
    let same : to ≡ i = cc both in
    inl (same, in_from, this))
    (λ (another : other ≢ name).
    inr (
      step.0,
      (
        ap (λ (k : ℕ). kind_of (file_in files k)) in_from ∙ is,
        ap (λ (k : ℕ). number_of files k other) in_from ∙ sym (adds.changes.others other another) ∙ led,
      ),
    ))
    (same_name other name))
    (λ (elsewhere : at ≢ from). inr (step.0, step_same new files at to other (sym (adds.rest at elsewhere not_new)) step.1))
    (cases_eq at from))
    (cases_eq at i)

old_kind : (files new : Files) (from i : ℕ) (name : List ℕ) (file : File) → IsDirectory files from → AddsName files new from name i file →
    (j : ℕ) → j ≢ i → IsDirectory new j → IsDirectory files j
old_kind files new from i name file is adds j not_new now =
    ⊎_elim (λ (in_from : j ≡ from). ap (λ (k : ℕ). kind_of (file_in files k)) in_from ∙ is)
    (λ (elsewhere : j ≢ from). ap kind_of (sym (adds.rest j elsewhere not_new)) ∙ now) (cases_eq j from)

adds_down : (files new : Files) (depth : ℕ → ℕ) (from i : ℕ) (name : List ℕ) (file : File) → IsTreeBy files depth → IsDirectory files from →
    IsDown name → IsNew file i from → AddsName files new from name i file →
    AddsDown (StepsDown files) (StepsDown new) (IsFile files) (IsFile new) (IsDirectory files) (IsDirectory new) from name i
adds_down files new depth from i name file tree is down is_new adds = record {
  in_parent = directory_is_file files from is;
  fresh = λ was. was adds.free;
  there = λ none. some_ne_none file (sym adds.there ∙ none);
  apart = λ is_root. apart_from files i 1 adds.free tree.rooted (sym is_root);
  is = (down, (adds.changes.directory, adds.leads));
  still = λ at to other step.
      ⊎_elim
      (λ (in_from : at ≡ from).
      let led : number_of files from other ≡ Some to = ap (λ (k : ℕ). number_of files k other) (sym in_from) ∙ step.1.1 in
      let another : other ≢ name = λ this. let both : None ≡ Some to = sym adds.absent ∙ ap (number_of files from) (sym this) ∙ led in absurd (cc both) in (
        step.0,
        (
          ap (λ (k : ℕ). kind_of (file_in new k)) in_from ∙ adds.changes.directory,
          ap (λ (k : ℕ). number_of new k other) in_from ∙ adds.changes.others other another ∙ led,
        ),
      ))
      (λ (elsewhere : at ≢ from).
      (step.0, step_same files new at to other (adds.rest at elsewhere (apart_from files i at adds.free step.1.0)) step.1))
      (cases_eq at from);
  were = from_old files new from i name file is is_new adds;
  stay = λ j was none.
      ⊎_elim (λ (here : j ≡ i). was (ap (file_in files) here ∙ adds.free))
      (λ (not_new : j ≢ i).
      ⊎_elim (λ (in_from : j ≡ from). directory_is_file new from adds.changes.directory (ap (file_in new) (sym in_from) ∙ none))
      (λ (elsewhere : j ≢ from). was (sym (adds.rest j elsewhere not_new) ∙ none)) (cases_eq j from)) (cases_eq j i);
  was = λ j not_new there none.
      ⊎_elim (λ (in_from : j ≡ from). directory_is_file files from is (ap (file_in files) (sym in_from) ∙ none))
      (λ (elsewhere : j ≢ from). there (adds.rest j elsewhere not_new ∙ none)) (cases_eq j from);
  one = old_kind files new from i name file is adds;
}

-- a directory that was there is one still, with the same number and parent
old_directory : (files new : Files) (from i : ℕ) (name : List ℕ) (file : File) → IsDown name → AddsName files new from name i file →
    (j parent : ℕ) → j ≢ i → IsDirectoryOf (directory_in files j) j parent → IsDirectoryOf (directory_in new j) j parent
old_directory files new from i name file down adds j parent not_new is =
    ⊎_elim (λ (in_from : j ≡ from).
    directory_changed files new j parent name down (subst (λ (k : ℕ). ChangesName files new k name) (sym in_from) adds.changes) is)
    (λ (elsewhere : j ≢ from). directory_same files new j parent (adds.rest j elsewhere not_new) is) (cases_eq j from)

adds_by : (files new : Files) (depth : ℕ → ℕ) (from i : ℕ) (name : List ℕ) (file : File) → IsTreeBy files depth → IsDirectory files from →
    IsDown name → IsNew file i from → AddsName files new from name i file → IsTreeBy new (depth_with depth from i)
adds_by files new depth from i name file tree is down is_new adds =
    let not_root : 1 ≢ i = apart_from files i 1 adds.free tree.rooted in
    record {
      rooted =
          ⊎_elim (λ (in_from : 1 ≡ from). ap (λ (k : ℕ). kind_of (file_in new k)) in_from ∙ adds.changes.directory)
          (λ (elsewhere : 1 ≢ from). ap kind_of (adds.rest 1 elsewhere not_root) ∙ tree.rooted) (cases_eq 1 from);
      top = old_directory files new from i name file down adds 1 1 not_root tree.top;
      below = λ at to other other_down step now.
          ⊎_elim
          (λ (this : (to ≡ i) × (at ≡ from) × (other ≡ name)).
          let kind : file.kind ≡ 1 = ap kind_of (sym adds.there) ∙ ap (λ (k : ℕ). kind_of (file_in new k)) (sym this.0) ∙ now in
          let bytes : file.bytes ≡ directory_in new to = ap bytes_of (sym adds.there) ∙ ap (directory_in new) (sym this.0) in
          let fresh : IsDirectoryOf (directory_in new to) i from = subst (λ (b : List ℕ). IsDirectoryOf b i from) bytes (is_new kind).0 in
          let own : IsDirectoryOf (directory_in new to) to from = subst (λ (k : ℕ). IsDirectoryOf (directory_in new to) k from) (sym this.0) fresh in
          subst (λ (k : ℕ). IsDirectoryOf (directory_in new to) to k) (sym this.1) own)
          (λ (old : StepsDown files at other to).
          let not_new : to ≢ i = λ same. (tree.shape.lead at to other old).0 (ap (file_in files) same ∙ adds.free) in
          old_directory files new from i name file down adds to at not_new
          (tree.below at to other other_down old.1 (old_kind files new from i name file is adds to not_new now)))
          (from_old files new from i name file is is_new adds at to other (other_down, step));
      shape = rooted_added (StepsDown files) (StepsDown new) (IsFile files) (IsFile new) (IsDirectory files) (IsDirectory new) depth from name i tree.shape
          (adds_down files new depth from i name file tree is down is_new adds);
    }

-- ---- names of the files

-- what had one name has one still
adding_keeps_once : (files new : Files) (from number : ℕ) (name : List ℕ) (file : File) → IsTree files → IsDirectory files from → IsDown name → IsNew file number from →
    AddsName files new from name number file → KeepsOnce files new
adding_keeps_once files new from i name file tree is down is_new adds j once =
    let by = tree_makes_steps files tree in
    let steps = from_old files new from i name file is is_new adds in
    ⊎_elim
    (λ (same : j ≡ i).
    once_by new from j name
    (λ at other step.
    ⊎_elim (λ (this : (j ≡ i) × (at ≡ from) × (other ≡ name)). (this.1, this.2))
    (λ (was : StepsDown files at other j). absurd ((by.shape.lead at j other was).0 (ap (file_in files) same ∙ adds.free))) (steps at j other step)))
    (λ (ne : j ≢ i).
    once_behind files new j once
    (λ at other step.
    ⊎_elim (λ (this : (j ≡ i) × (at ≡ from) × (other ≡ name)). absurd (ne this.0)) (λ (was : StepsDown files at other j). was) (steps at j other step)))
    (cases_eq j i)

pub adding_keeps : AddingKeeps
adding_keeps files new from i name file tree is down is_new adds =
    let depth : ℕ → ℕ = depth_in files tree in
    record {
      tree = steps_make_tree new (depth_with depth from i) (adds_by files new depth from i name file (tree_makes_steps files tree) is down is_new adds);
      once = adding_keeps_once files new from i name file tree is down is_new adds;
    }
