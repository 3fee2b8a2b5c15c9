-- Which files are below another: their paths go through it.
use Rattle.std.proofs.Common.{◌≡◌, ◌≢◌, ℕ, Bool, true, false, ◌||◌, eqb, List, [], ◌∷◌, Option, Some, None, refl, sym, ap, ap₂, subst, ◌∙◌, ⊎_elim}
use Rattle.std.proofs.lemmas.Bool.{eqb-true, eq-eqb, false_from_ne_true, ne_eqb, or_cases}
use Rattle.model.specs.declared.types.image.File.{File}
use Rattle.model.specs.Files.{Files, file_in}
use Rattle.directories.specs.Trees.{number_of, parent_name, IsDirectory, IsOutside, IsPath, IsTree, StepsDown}
use Rattle.directories.specs.TreeMeaning.{ParentsDecide, RootIsOutside}
use Rattle.directories.specs.Lemmas.TreeBy.{directory_is_file, one_number, tree_makes_steps}

-- names lead from the root through a file
pub passes : (files : Files) (number : ℕ) (names : List (List ℕ)) (i : ℕ) → IsPath files 1 names i → Bool
passes files number [] i path = eqb i number
passes files number (name ∷ names) i path = eqb i number || passes files number names path.0 path.2

passes_same : (files : Files) (number : ℕ) (names : List (List ℕ)) (i j : ℕ) (to_i : IsPath files 1 names i) (to_j : IsPath files 1 names j) →
    i ≡ j → passes files number names i to_i ≡ passes files number names j to_j
unfolding passes
passes_same files number [] i j to_i to_j same = ap (λ (k : ℕ). eqb k number) same
passes_same files number (name ∷ names) i j to_i to_j same =
    ap₂ (λ (a b : Bool). a || b) (ap (λ (k : ℕ). eqb k number) same)
    (passes_same files number names to_i.0 to_j.0 to_i.2 to_j.2 (one_number files 1 names to_i.0 to_j.0 to_i.2 to_j.2))

passes_any : (files : Files) (number : ℕ) (a b : List (List ℕ)) (i : ℕ) → a ≡ b → (at_a : IsPath files 1 a i) (at_b : IsPath files 1 b i) →
    passes files number a i at_a ≡ passes files number b i at_b
passes_any files number a b i same at_a at_b =
    subst (λ (l : List (List ℕ)). (at_l : IsPath files 1 l i) → passes files number a i at_a ≡ passes files number l i at_l) same
    (λ at_l. passes_same files number a i i at_a at_l refl) at_b

-- then names lead from that file
passed : (files : Files) (number : ℕ) (names : List (List ℕ)) (i : ℕ) (path : IsPath files 1 names i) → passes files number names i path ≡ true →
    (rest : List (List ℕ)) × IsPath files number rest i
unfolding passes
passed files number [] i path h = ([], sym (eqb-true i number h))
passed files number (name ∷ names) i path h =
    ⊎_elim (λ (here : eqb i number ≡ true). ([], sym (eqb-true i number here)))
    (λ (above : passes files number names path.0 path.2 ≡ true).
    let up = passed files number names path.0 path.2 above in (name ∷ up.0, (path.0, path.1, up.1, path.3)))
    (or_cases (eqb i number) (passes files number names path.0 path.2) h)

passes_itself : (files : Files) (number : ℕ) (names : List (List ℕ)) (path : IsPath files 1 names number) → passes files number names number path ≡ true
unfolding passes
passes_itself files number [] path = eq-eqb number number refl
passes_itself files number (name ∷ names) path =
    ap (λ (b : Bool). b || passes files number names path.0 path.2) (eq-eqb number number refl)

-- ---- of files

below_by : (files : Files) (tree : IsTree files) (number i : ℕ) (o : Option File) → file_in files i ≡ o → Bool
below_by files tree number i None is = false
below_by files tree number i (Some file) is =
    let path = tree.reach i (λ none. let both : Some file ≡ None = sym is ∙ none in absurd (cc both)) in passes files number path.0 i path.1

-- a file is below another, or is it
pub is_below : (files : Files) → IsTree files → ℕ → ℕ → Bool
is_below files tree number i = below_by files tree number i (file_in files i) refl

below_by_path : (files : Files) (tree : IsTree files) (number i : ℕ) (o : Option File) (is : file_in files i ≡ o) (names : List (List ℕ))
    (path : IsPath files 1 names i) → IsDirectory files i → below_by files tree number i o is ≡ passes files number names i path
unfolding below_by
below_by_path files tree number i None is names path directory = absurd (tree.lead names i path is)
below_by_path files tree number i (Some file) is names path directory =
    let reached = tree.reach i (λ none. let both : Some file ≡ None = sym is ∙ none in absurd (cc both)) in
    passes_any files number reached.0 names i (tree.one reached.0 names i directory reached.1 path) reached.1 path

pub below_path : (files : Files) (tree : IsTree files) (number i : ℕ) (names : List (List ℕ)) (path : IsPath files 1 names i) →
    IsDirectory files i → is_below files tree number i ≡ passes files number names i path
unfolding is_below
below_path files tree number i names path directory = below_by_path files tree number i (file_in files i) refl names path directory

pub below_itself : (files : Files) (tree : IsTree files) (number : ℕ) → IsDirectory files number → is_below files tree number number ≡ true
below_itself files tree number is =
    let path = tree.reach number (directory_is_file files number is) in
    below_path files tree number number path.0 path.1 is ∙ passes_itself files number path.0 path.1

-- what is not below a file is outside
pub not_below : (files : Files) (tree : IsTree files) (number i : ℕ) → IsDirectory files i → IsOutside files number i → is_below files tree number i ≡ false
not_below files tree number i is outside =
    let path = tree.reach i (directory_is_file files i is) in
    false_from_ne_true (is_below files tree number i)
    (λ below. let rest = passed files number path.0 i path.1 (sym (below_path files tree number i path.0 path.1 is) ∙ below) in outside rest.0 rest.1)

or_else : (a b : Bool) → a ≡ false → (a || b) ≡ b
or_else a b none = ap (λ (c : Bool). c || b) none

-- a directory is below a file where its parent is, unless it is that itself
pub below_along : (files : Files) (tree : IsTree files) (number from i : ℕ) (name : List ℕ) → IsDirectory files i → i ≢ number → StepsDown files from name i →
    is_below files tree number i ≡ is_below files tree number from
unfolding passes
below_along files tree number from i name is ne step =
    let up = tree.reach from (directory_is_file files from step.1.0) in
    below_path files tree number i (name ∷ up.0) (from, step.0, up.1, step.1) is
    ∙ or_else (eqb i number) (passes files number up.0 from up.1) (ne_eqb i number ne)
    ∙ sym (below_path files tree number from up.0 up.1 step.1.0)

-- ---- decided by the parents

pub root_is_outside : RootIsOutside
root_is_outside files number tree ne [] path = ne path
root_is_outside files number tree ne (name ∷ names) path =
    ((tree_makes_steps files tree).shape.lead path.0 1 name (path.1, path.3)).1 refl

-- a directory's name for its parent leads to the one that has it
parent_is : (files : Files) → IsTree files → (from parent up : ℕ) (name : List ℕ) → IsDirectory files from → number_of files from parent_name ≡ Some parent →
    StepsDown files up name from → up ≡ parent
parent_is files tree from parent up name is leads step =
    let of : number_of files from parent_name ≡ Some up = (tree.below up from name step.0 step.1 is).up in
    let both : Some up ≡ Some parent = sym of ∙ leads in cc both

outside_above : (files : Files) → IsTree files → (number from parent : ℕ) → IsDirectory files from → number_of files from parent_name ≡ Some parent →
    from ≢ number → IsOutside files number parent → IsOutside files number from
outside_above files tree number from parent is leads ne outside [] path = ne (sym path)
outside_above files tree number from parent is leads ne outside (name ∷ names) path =
    let up = parent_is files tree from parent path.0 name is leads (path.1, path.3) in
    outside names (subst (λ (k : ℕ). IsPath files number names k) up path.2)

pub parents_decide : ParentsDecide
parents_decide files number from parent tree is not_root leads =
    let by = tree_makes_steps files tree in
    let named = by.shape.named from not_root (directory_is_file files from is) in
    let up : named.0 ≡ parent = parent_is files tree from parent named.0 named.1 is leads named.2 in (
      λ ne outside. outside_above files tree number from parent is leads ne outside,
      λ inside outside.
          inside (λ names path. outside (named.1 ∷ names) (named.0, named.2.0, subst (λ (k : ℕ). IsPath files number names k) (sym up) path, named.2.1)),
      subst (λ (k : ℕ). IsDirectory files k) up named.2.1.0,
    )
