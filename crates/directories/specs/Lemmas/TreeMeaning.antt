-- What a tree says of its directories, and that no half of a change leaves one.
use Rattle.std.proofs.Common.{◌≡◌, ◌≢◌, inr, ℕ, ◌<◌, true, false, not, List, [], length, get_or, Option, Some, None, refl, sym, ap, subst, ◌∙◌, ⊎_elim, arith}
use Rattle.std.specs.Str.{bytes_eq}
use Rattle.std.proofs.lemmas.Bool.{cases_eq, and_from, not_from_false, false_from_ne_true}
use Rattle.std.proofs.lemmas.Slice.Eq.{bytes_eq-Decides}
use Rattle.model.specs.Files.{Files}
use Rattle.directories.specs.Entries.{entries_of, entry_at, name_in, is_free, is_for, HasOnce, IsFor}
use Rattle.directories.specs.Trees.{directory_in, number_of, parent_name, IsDirectory, IsDirectoryOf, IsFile, IsNamedOnce, IsTree, Steps, StepsDown}
use Rattle.directories.specs.TreeChanges.{LeadsTo}
use Rattle.directories.specs.TreeMeaning.{name_at, number_at, DirectoriesAreTidy, EntriesLead, IsUsed, NoHalfIsTree, NumbersStandOnce, StepsLead}
use Rattle.directories.specs.Lemmas.Standing.{StandsAt, lookup_at}
use Rattle.directories.specs.Lemmas.Adding.{step_same}
use Rattle.directories.specs.Lemmas.Dropping.{apart_below}
use Rattle.directories.specs.Lemmas.Moves.{other_kinds, other_leads}
use Rattle.directories.specs.Lemmas.Moving.{same_entry, IsOther}
use Rattle.directories.specs.Lemmas.TreeBy.{depth_in, directory_is_file, directory_named_once, not_named_once, tree_makes_steps, IsTreeBy}
use Rattle.directories.specs.Lemmas.Unnamed.{apart_from}

-- ---- directories

-- a directory has a parent, which is a directory
pub directory_by : (files : Files) (depth : ℕ → ℕ) (i : ℕ) → IsTreeBy files depth → IsDirectory files i →
    (parent : ℕ) × IsDirectoryOf (directory_in files i) i parent × IsDirectory files parent
directory_by files depth i tree is =
    ⊎_elim (λ (at_root : i ≡ 1). (1, subst (λ (k : ℕ). IsDirectoryOf (directory_in files k) k 1) (sym at_root) tree.top, tree.rooted))
    (λ (ne : i ≢ 1). let named = tree.shape.named i ne (directory_is_file files i is) in
    (named.0, tree.below named.0 i named.1 named.2.0 named.2.1 is, named.2.1.0)) (cases_eq i 1)

pub directories_are_tidy : DirectoriesAreTidy
directories_are_tidy files from tree is =
    let of = directory_by files (depth_in files tree) from (tree_makes_steps files tree) is in (of.1.tidy, (of.0, of.1))

pub steps_lead : StepsLead
steps_lead files from i name tree down step =
    let by = tree_makes_steps files tree in
    let led = by.shape.lead from i name (down, step) in (led.0, led.1, apart_below files (depth_in files tree) from i name by (down, step))

-- ---- entries

pub for_itself : (entry : List ℕ) → is_free entry ≡ false → is_for (name_in entry) entry ≡ true
for_itself entry used =
    and_from (not (is_free entry)) (bytes_eq (name_in entry) (name_in entry)) (not_from_false (is_free entry) used)
    ((bytes_eq-Decides (name_in entry) (name_in entry)).1 refl)

pub is_first : (bytes name : List ℕ) (j : ℕ) → HasOnce bytes name → IsFor bytes name j → StandsAt (is_for name) (entries_of bytes) j
is_first bytes name j once is =
    let within : j < length (entries_of bytes) = is.0 in
    record {
      within = is.0;
      passes = is.1;
      first = λ i below.
          false_from_ne_true (is_for name (get_or (entries_of bytes) i []))
          (λ good. let same : i ≡ j = once.same i j (omega arith, good) is in absurd (omega arith));
    }

pub entries_lead : EntriesLead
entries_lead files from j tree used =
    let bytes : List ℕ = directory_in files from in
    let name : List ℕ = name_in (entry_at bytes j) in
    lookup_at bytes name j
    (is_first bytes name j ((directories_are_tidy files from tree used.directory).0.once name) (used.inside, for_itself (entry_at bytes j) used.used))

same_place : (files : Files) (from j k : ℕ) → IsTree files → IsUsed files from j → IsUsed files from k → name_at files from j ≡ name_at files from k → j ≡ k
same_place files from j k tree at_j at_k same =
    let bytes : List ℕ = directory_in files from in
    ((directories_are_tidy files from tree at_j.directory).0.once (name_at files from k)).same j k
    (at_j.inside, subst (λ (name : List ℕ). is_for name (entry_at bytes j) ≡ true) same (for_itself (entry_at bytes j) at_j.used))
    (at_k.inside, for_itself (entry_at bytes k) at_k.used)

pub numbers_stand_once : NumbersStandOnce
numbers_stand_once files from j other k tree at_j down_j at_k down_k same is =
    let by = tree_makes_steps files tree in
    let i : ℕ = number_at files other k in
    let here : StepsDown files from (name_at files from j) i =
    (down_j, (at_j.directory, entries_lead files from j tree at_j ∙ ap (λ (n : ℕ). Some n) same)) in
    let there : StepsDown files other (name_at files other k) i = (down_k, (at_k.directory, entries_lead files other k tree at_k)) in
    let parents : from ≡ other = by.shape.parent from other i (name_at files from j) (name_at files other k) is here there in
    let at_other : IsUsed files other j = subst (λ (d : ℕ). IsUsed files d j) parents at_j in
    let names : name_at files from j ≡ name_at files other k =
    by.shape.name other i (name_at files from j) (name_at files other k) is
    (subst (λ (d : ℕ). StepsDown files d (name_at files from j) i) parents here) there in
    (parents, same_place files other j k tree at_other at_k (ap (λ (d : ℕ). name_at files d j) (sym parents) ∙ names))

-- ---- halves

-- by the change of one name, each other leads as before
step_before : (files half : Files) (from : ℕ) (name : List ℕ) (o : Option ℕ) → IsDirectory files from → LeadsTo files half from name o →
    (at to : ℕ) (other : List ℕ) → IsOther at other from name → StepsDown half at other to → StepsDown files at other to
step_before files half from name o is led at to other apart step =
    (step.0, (sym (other_kinds files half from name o is led at) ∙ step.1.0, sym (other_leads files half from name o led at other apart) ∙ step.1.1))

step_behind : (files half : Files) (from : ℕ) (name : List ℕ) (o : Option ℕ) → IsDirectory files from → LeadsTo files half from name o →
    (at to : ℕ) (other : List ℕ) → IsOther at other from name → StepsDown files at other to → StepsDown half at other to
step_behind files half from name o is led at to other apart step =
    (step.0, (other_kinds files half from name o is led at ∙ step.1.0, other_leads files half from name o led at other apart ∙ step.1.1))

-- the one step to a file is not another
no_other_step : (files : Files) (from at i : ℕ) (name other : List ℕ) → IsNamedOnce files i → StepsDown files from name i →
    StepsDown files at other i → IsOther at other from name → ⊥
no_other_step files from at i name other once here there apart =
    not_named_once files from i name here (record { other = at; second = other; apart = apart; leads = there }) once

-- where a name leads nowhere, another name leads to a file
not_nowhere : (files : Files) (from at to : ℕ) (name other : List ℕ) → number_of files from name ≡ None → StepsDown files at other to →
    IsOther at other from name
not_nowhere files from at to name other absent step =
    ⊎_elim
    (λ (this : (at ≡ from) × (other ≡ name)).
    let both : None ≡ Some to = sym absent ∙ ap (λ (k : ℕ). number_of files k name) (sym this.0) ∙ ap (number_of files at) (sym this.1) ∙ step.1.1 in
    absurd (cc both))
    (λ (o : IsOther at other from name). o) (same_entry at from other name)

pub no_half_is_tree : NoHalfIsTree
no_half_is_tree files half tree =
    let depth : ℕ → ℕ = depth_in files tree in
    let by = tree_makes_steps files tree in
    record {
      made = λ i file unnamed half_tree.
          let half_by = tree_makes_steps half half_tree in
          let not_root : i ≢ 1 = λ same. apart_from files i 1 unnamed.free by.rooted (sym same) in
          let there : IsFile half i = λ none. let both : None ≡ Some file = sym none ∙ unnamed.there in cc both in
          let named = half_by.shape.named i not_root there in
          let apart : named.0 ≢ i = λ same. apart_below half (depth_in half half_tree) named.0 i named.1 half_by named.2 (sym same) in
          let old : Steps files named.0 named.1 i = step_same half files named.0 i named.1 (sym (unnamed.rest named.0 apart)) named.2.1 in
          (by.shape.lead named.0 i named.1 (named.2.0, old)).0 unnamed.free;
      freed = λ from i name down step once led half_tree.
          let half_by = tree_makes_steps half half_tree in
          let here = by.shape.lead from i name (down, step) in
          let apart = apart_below files depth from i name by (down, step) in
          let named = half_by.shape.named i here.1 (λ none. here.0 (sym (led.rest i apart) ∙ none)) in
          let differ = not_nowhere half from named.0 i name named.1 led.leads named.2 in
          no_other_step files from named.0 i name named.1 once (down, step)
          (step_before files half from name None step.0 led named.0 i named.1 differ named.2) differ;
      removed = λ from i name down step gone rest half_tree.
          let apart = apart_below files depth from i name by (down, step) in
          let now : Steps half from name i = step_same files half from i name (rest from (λ same. apart (sym same))) step in
          ((tree_makes_steps half half_tree).shape.lead from i name (down, now)).0 gone;
      linked = λ from i name down is directory absent led half_tree.
          let half_by = tree_makes_steps half half_tree in
          let here : StepsDown half from name i = (down, (led.changes.directory, led.leads)) in
          let named = by.shape.named i (half_by.shape.lead from i name here).1 (directory_is_file files i directory) in
          let still : IsDirectory half i = other_kinds files half from name (Some i) is led i ∙ directory in
          let differ = not_nowhere files from named.0 i name named.1 absent named.2 in
          no_other_step half from named.0 i name named.1 (directory_named_once half half_tree i still) here
          (step_behind files half from name (Some i) is led named.0 i named.1 differ named.2) differ;
      moved = λ from to i old name old_down down is is_to directory differ moves half_tree.
          let half_by = tree_makes_steps half half_tree in
          let was : number_of files i parent_name ≡ Some from = (by.below from i old old_down (is, moves.led) directory).up in
          let now : number_of half i parent_name ≡ Some to =
          (half_by.below to i name down (moves.kinds to ∙ is_to, moves.leads) (moves.kinds i ∙ directory)).up in
          let stays : number_of half i parent_name ≡ number_of files i parent_name =
          moves.others i parent_name (inr (λ same. old_down.1 (sym same))) (inr (λ same. down.1 (sym same))) in
          let both : Some from ≡ Some to = sym was ∙ sym stays ∙ now in
          differ (cc both);
    }
