-- Walks by names, and paths of a tree.
use Rattle.std.proofs.Common.{◌≡◌, ◌≢◌, ℕ, Bool, true, false, cond, eqb, List, [], ◌∷◌, ◌++◌, reverse, Option, Some, None, Result, Ok, Err, refl, sym, ap, subst, ◌∙◌, ⊎_elim}
use Rattle.std.proofs.lemmas.Bool.{cond-true, eq-eqb, eqb-true}
use Rattle.std.proofs.lemmas.Grind.{reverse_onto}
use Rattle.std.proofs.lemmas.List.{reverse-reverse}
use Rattle.model.specs.Files.{Files, file_in}
use Rattle.directories.specs.declared.refusal.Refusal.{Refusal}
use Rattle.directories.specs.declared.refusal.Refusal.TheVariants.{NotADirectory}
use Rattle.directories.specs.Trees.{kind_of, number_of, parent_name, self_name, IsDown, IsFile, IsPath, IsTree, Steps}
use Rattle.directories.specs.PathLaws.{AreDown, DirectoriesAreNamedOnce, FilesAreReached, NamesAreOne, NamesLead}
use Rattle.directories.specs.Walks.{and_on, found_or, stepped, walked}
use Rattle.directories.specs.Lemmas.Adding.{same_name}
use Rattle.directories.specs.Lemmas.TreeBy.{depth_in, directory_is_file, directory_named_once, named_once_one_path, tree_makes_steps}
use Rattle.directories.specs.Lemmas.TreeMeaning.{directory_by}

-- ---- steps

found_some : (o : Option ℕ) (i : ℕ) → found_or o ≡ Ok i → o ≡ Some i
found_some None i h = absurd (cc h)
found_some (Some k) i h = let same : k ≡ i = cc h in ap (λ (n : ℕ). Some n) same

step_by : (b : Bool) (o : Option ℕ) (i : ℕ) → cond b (found_or o) (Err NotADirectory) ≡ Ok i → (b ≡ true) × (o ≡ Some i)
step_by true o i h = (refl, found_some o i h)
step_by false o i h = absurd (cc h)

pub step_from : (files : Files) (from : ℕ) (name : List ℕ) (i : ℕ) → stepped files from name ≡ Ok i → Steps files from name i
step_from files from name i h =
    let both = step_by (eqb (kind_of (file_in files from)) 1) (number_of files from name) i h in
    (eqb-true (kind_of (file_in files from)) 1 both.0, both.1)

pub step_to : (files : Files) (from : ℕ) (name : List ℕ) (i : ℕ) → Steps files from name i → stepped files from name ≡ Ok i
step_to files from name i step =
    cond-true (eqb (kind_of (file_in files from)) 1) (found_or (number_of files from name)) (Err NotADirectory)
    (eq-eqb (kind_of (file_in files from)) 1 step.0)
    ∙ ap found_or step.1

-- ---- walks

first_step : (r : Result ℕ Refusal) (on : ℕ → Result ℕ Refusal) (i : ℕ) → and_on r on ≡ Ok i → (next : ℕ) × (r ≡ Ok next) × (on next ≡ Ok i)
first_step (Ok next) on i h = (next, refl, h)
first_step (Err cause) on i h = absurd (cc h)

on_from : (r : Result ℕ Refusal) (on : ℕ → Result ℕ Refusal) (next i : ℕ) → r ≡ Ok next → on next ≡ Ok i → and_on r on ≡ Ok i
on_from r on next i is h = ap (λ (s : Result ℕ Refusal). and_on s on) is ∙ h

walk_on : (files : Files) (from : ℕ) (names : List (List ℕ)) (name : List ℕ) (up i : ℕ) → walked files from names ≡ Ok up → Steps files up name i →
    walked files from (names ++ name ∷ []) ≡ Ok i
walk_on files from [] name up i h step =
    let here : from ≡ up = cc h in
    on_from (stepped files from name) (λ n. Ok n) i i (step_to files from name i (subst (λ (k : ℕ). Steps files k name i) (sym here) step)) refl
walk_on files from (x ∷ names) name up i h step =
    let first = first_step (stepped files from x) (λ n. walked files n names) up h in
    on_from (stepped files from x) (λ n. walked files n (names ++ name ∷ [])) first.0 i first.1 (walk_on files first.0 names name up i first.2 step)

-- a path is walked
pub path_walked : (files : Files) (from : ℕ) (names : List (List ℕ)) (i : ℕ) → IsPath files from names i → walked files from (reverse names) ≡ Ok i
path_walked files from [] i path = ap (λ (k : ℕ). Ok k) path
path_walked files from (name ∷ names) i path =
    ap (λ (l : List (List ℕ)). walked files from l) (reverse_onto names name [])
    ∙ walk_on files from (reverse names) name path.0 i (path_walked files from names path.0 path.2) path.3

path_before : (files : Files) (from next : ℕ) (name : List ℕ) (names : List (List ℕ)) (i : ℕ) → IsDown name → Steps files from name next →
    IsPath files next names i → IsPath files from (names ++ name ∷ []) i
path_before files from next name [] i down step path = (from, down, refl, subst (λ (k : ℕ). Steps files from name k) path step)
path_before files from next name (x ∷ names) i down step path =
    (path.0, path.1, path_before files from next name names path.0 down step path.2, path.3)

-- and a walk by names that lead down is a path
pub walked_path : (files : Files) (from : ℕ) (names : List (List ℕ)) (i : ℕ) → AreDown names → walked files from names ≡ Ok i →
    IsPath files from (reverse names) i
walked_path files from [] i down h = let same : from ≡ i = cc h in same
walked_path files from (name ∷ names) i down h =
    let first = first_step (stepped files from name) (λ n. walked files n names) i h in
    subst (λ (l : List (List ℕ)). IsPath files from l i) (sym (reverse_onto names name []))
    (path_before files from first.0 name (reverse names) i down.0 (step_from files from name first.0 first.1)
    (walked_path files first.0 names i down.1 first.2))

-- ---- names that lead down

down_on : (names : List (List ℕ)) (name : List ℕ) → AreDown names → IsDown name → AreDown (names ++ name ∷ [])
down_on [] name down last = (last, tt)
down_on (x ∷ names) name down last = (down.0, down_on names name down.1 last)

path_down : (files : Files) (from : ℕ) (names : List (List ℕ)) (i : ℕ) → IsPath files from names i → AreDown (reverse names)
path_down files from [] i path = tt
path_down files from (name ∷ names) i path =
    subst (λ (l : List (List ℕ)). AreDown l) (sym (reverse_onto names name []))
    (down_on (reverse names) name (path_down files from names path.0 path.2) path.1)

-- ---- in a tree

pub step_leads : (files : Files) → IsTree files → (from i : ℕ) (name : List ℕ) → Steps files from name i → IsFile files i
step_leads files tree from i name step =
    let by = tree_makes_steps files tree in
    let of = directory_by files (depth_in files tree) from by step.0 in
    ⊎_elim
    (λ (own : name ≡ self_name).
    let both : Some from ≡ Some i = sym of.1.own ∙ ap (number_of files from) (sym own) ∙ step.1 in
    let same : from ≡ i = cc both in
    subst (λ (k : ℕ). IsFile files k) same (directory_is_file files from step.0))
    (λ (not_own : name ≢ self_name).
    ⊎_elim
    (λ (up : name ≡ parent_name).
    let both : Some of.0 ≡ Some i = sym of.1.up ∙ ap (number_of files from) (sym up) ∙ step.1 in
    let same : of.0 ≡ i = cc both in
    subst (λ (k : ℕ). IsFile files k) same (directory_is_file files of.0 of.2))
    (λ (not_up : name ≢ parent_name). (by.shape.lead from i name ((not_own, not_up), step)).0)
    (same_name name parent_name))
    (same_name name self_name)

walk_leads : (files : Files) → IsTree files → (names : List (List ℕ)) (from i : ℕ) → IsFile files from → walked files from names ≡ Ok i → IsFile files i
walk_leads files tree [] from i there h = let same : from ≡ i = cc h in subst (λ (k : ℕ). IsFile files k) same there
walk_leads files tree (name ∷ names) from i there h =
    let first = first_step (stepped files from name) (λ n. walked files n names) i h in
    walk_leads files tree names first.0 i (step_leads files tree from first.0 name (step_from files from name first.0 first.1)) first.2

pub names_lead : NamesLead
names_lead files names i tree h = walk_leads files tree names 1 i (directory_is_file files 1 tree.rooted) h

-- the file that a walk told is there, where the walk changed no file
pub walk_told : (files seen : Files) (names : List (List ℕ)) (told : Result ℕ Refusal) (i : ℕ) → IsTree files → seen ≡ files → told ≡ walked files 1 names → told ≡ Ok i → IsFile seen i
walk_told files seen names told i tree same led is = subst (λ (f : Files). IsFile f i) (sym same) (names_lead files names i tree (sym led ∙ is))

pub files_are_reached : FilesAreReached
files_are_reached files i tree there =
    let path = tree.reach i there in (reverse path.0, path_down files 1 path.0 i path.1, path_walked files 1 path.0 i path.1)

pub names_are_one : NamesAreOne
names_are_one files a b i tree once a_down b_down to_a to_b =
    sym (reverse-reverse a)
    ∙ ap (λ (l : List (List ℕ)). reverse l)
    (named_once_one_path files tree (reverse a) (reverse b) i once (walked_path files 1 a i a_down to_a) (walked_path files 1 b i b_down to_b))
    ∙ reverse-reverse b

pub directories_are_named_once : DirectoriesAreNamedOnce
directories_are_named_once files i tree is = directory_named_once files tree i is
