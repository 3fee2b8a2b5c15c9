-- A tree step by step, with a depth of each file, and a tree by its paths: each gives the other.
use Rattle.std.proofs.Common.{◌≡◌, ◌≢◌, ℕ, zero, suc, ◌≤◌, List, [], ◌∷◌, length, Option, Some, None, refl, sym, ap, ap₂, subst, ◌∙◌, ⊎_elim, arith}
use Rattle.std.proofs.lemmas.Bool.{cases_eq}
use Rattle.model.specs.declared.types.image.File.{File}
use Rattle.model.specs.Files.{Files, file_in}
use Rattle.directories.specs.Trees.{directory_in, kind_of, number_of, root, IsDirectory, IsDirectoryOf, IsDown, IsFile, IsNamedOnce, IsPath, IsTree, HasOtherName, Steps, StepsDown}
use Rattle.directories.specs.Lemmas.Rooted.{IsRooted}

-- a tree, step by step, as a proof of a change wants it
pub record IsTreeBy (files : Files) (depth : ℕ → ℕ) : Type 0 where
  pub rooted : IsDirectory files root
  pub top : IsDirectoryOf (directory_in files root) root root
  pub below : (from number : ℕ) (name : List ℕ) → IsDown name → Steps files from name number → IsDirectory files number →
      IsDirectoryOf (directory_in files number) number from
  pub shape : IsRooted (StepsDown files) (IsFile files) (IsDirectory files) depth

pub directory_is_file : (files : Files) (i : ℕ) → IsDirectory files i → IsFile files i
directory_is_file files i is none =
    let one : kind_of (file_in files i) ≡ 1 = is in let gone : kind_of (file_in files i) ≡ 0 = ap kind_of none in absurd (omega arith)

-- ---- paths from steps

leads : (files : Files) (depth : ℕ → ℕ) → IsTreeBy files depth → (names : List (List ℕ)) (i : ℕ) → IsPath files 1 names i → IsFile files i
leads files depth tree [] i path = subst (λ (k : ℕ). IsFile files k) path (directory_is_file files 1 tree.rooted)
leads files depth tree (name ∷ names) i path = (tree.shape.lead path.0 i name (path.1, path.3)).0

-- from a directory up to the root
reaches_directory : (files : Files) (depth : ℕ → ℕ) → IsTreeBy files depth → (n i : ℕ) → depth i ≤ n → IsDirectory files i →
    (names : List (List ℕ)) × IsPath files 1 names i
reaches_directory files depth tree zero i low is =
    ⊎_elim (λ (e : i ≡ 1). ([], sym e))
    (λ (ne : i ≢ 1). let named = tree.shape.named i ne (directory_is_file files i is) in
    let deep = tree.shape.deeper named.0 i named.1 is named.2 in absurd (omega arith)) (cases_eq i 1)
reaches_directory files depth tree (suc n) i low is =
    ⊎_elim (λ (e : i ≡ 1). ([], sym e))
    (λ (ne : i ≢ 1). let named = tree.shape.named i ne (directory_is_file files i is) in
    let deep = tree.shape.deeper named.0 i named.1 is named.2 in
    let up = reaches_directory files depth tree n named.0 (omega arith) named.2.1.0 in
    (named.1 ∷ up.0, (named.0, named.2.0, up.1, named.2.1))) (cases_eq i 1)

reaches : (files : Files) (depth : ℕ → ℕ) → IsTreeBy files depth → (i : ℕ) → IsFile files i → (names : List (List ℕ)) × IsPath files 1 names i
reaches files depth tree i there =
    ⊎_elim (λ (e : i ≡ 1). ([], sym e))
    (λ (ne : i ≢ 1). let named = tree.shape.named i ne there in
    let up = reaches_directory files depth tree (depth named.0) named.0 (omega arith) named.2.1.0 in
    (named.1 ∷ up.0, (named.0, named.2.0, up.1, named.2.1))) (cases_eq i 1)

root_has_no_name : (files : Files) (depth : ℕ → ℕ) → IsTreeBy files depth → (i : ℕ) (name : List ℕ) (names : List (List ℕ)) → 1 ≡ i →
    IsPath files 1 (name ∷ names) i → ⊥
root_has_no_name files depth tree i name names is path = (tree.shape.lead path.0 i name (path.1, path.3)).1 (sym is)

one_path : (files : Files) (depth : ℕ → ℕ) → IsTreeBy files depth → (a b : List (List ℕ)) (i : ℕ) → IsDirectory files i →
    IsPath files 1 a i → IsPath files 1 b i → a ≡ b
one_path files depth tree [] [] i is at_a at_b = refl
one_path files depth tree [] (y ∷ b) i is at_a at_b = absurd (root_has_no_name files depth tree i y b at_a at_b)
one_path files depth tree (x ∷ a) [] i is at_a at_b = absurd (root_has_no_name files depth tree i x a at_b at_a)
one_path files depth tree (x ∷ a) (y ∷ b) i is at_a at_b =
    let same : at_a.0 ≡ at_b.0 = tree.shape.parent at_a.0 at_b.0 i x y is (at_a.1, at_a.3) (at_b.1, at_b.3) in
    let names : x ≡ y = tree.shape.name at_b.0 i x y is (at_a.1, subst (λ (k : ℕ). Steps files k x i) same at_a.3) (at_b.1, at_b.3) in
    let rest : a ≡ b = one_path files depth tree a b at_b.0 at_b.3.0 (subst (λ (k : ℕ). IsPath files 1 a k) same at_a.2) at_b.2 in
    ap₂ (λ (n : List ℕ) (l : List (List ℕ)). n ∷ l) names rest

pub steps_make_tree : (files : Files) (depth : ℕ → ℕ) → IsTreeBy files depth → IsTree files
steps_make_tree files depth tree = record {
  rooted = tree.rooted;
  top = tree.top;
  below = tree.below;
  lead = leads files depth tree;
  reach = reaches files depth tree;
  one = one_path files depth tree;
}

-- ---- steps from paths

-- names lead to one number at most
pub one_number : (files : Files) (from : ℕ) (names : List (List ℕ)) (i j : ℕ) → IsPath files from names i → IsPath files from names j → i ≡ j
one_number files from [] i j to_i to_j = sym to_i ∙ to_j
one_number files from (name ∷ names) i j to_i to_j =
    let up : to_i.0 ≡ to_j.0 = one_number files from names to_i.0 to_j.0 to_i.2 to_j.2 in
    let both : Some i ≡ Some j = sym to_i.3.1 ∙ ap (λ (k : ℕ). number_of files k name) up ∙ to_j.3.1 in cc both

-- how far below the root a file is; 0 where there is none
depth_by : (files : Files) → IsTree files → (i : ℕ) (o : Option File) → file_in files i ≡ o → ℕ
depth_by files tree i None is = 0
depth_by files tree i (Some file) is = length (tree.reach i (λ none. let both : Some file ≡ None = sym is ∙ none in absurd (cc both))).0

pub depth_in : (files : Files) → IsTree files → ℕ → ℕ
depth_in files tree i = depth_by files tree i (file_in files i) refl

depth_by_path : (files : Files) (tree : IsTree files) (i : ℕ) (o : Option File) (is : file_in files i ≡ o) (names : List (List ℕ)) →
    IsDirectory files i → IsPath files 1 names i → depth_by files tree i o is ≡ length names
unfolding depth_by
depth_by_path files tree i None is names directory path = absurd (tree.lead names i path is)
depth_by_path files tree i (Some file) is names directory path =
    let there : IsFile files i = λ none. let both : Some file ≡ None = sym is ∙ none in absurd (cc both) in
    ap length (tree.one (tree.reach i there).0 names i directory (tree.reach i there).1 path)

depth_of_path : (files : Files) (tree : IsTree files) (i : ℕ) (names : List (List ℕ)) → IsDirectory files i → IsPath files 1 names i →
    depth_in files tree i ≡ length names
unfolding depth_in
depth_of_path files tree i names directory path = depth_by_path files tree i (file_in files i) refl names directory path

-- a directory's path, and that of what a name leads to
path_of : (files : Files) → IsTree files → (from to : ℕ) (name : List ℕ) → StepsDown files from name to →
    (names : List (List ℕ)) × IsPath files 1 names from × IsPath files 1 (name ∷ names) to
path_of files tree from to name step =
    let up = tree.reach from (directory_is_file files from step.1.0) in (up.0, up.1, (from, step.0, up.1, step.1))

named_by : (files : Files) (names : List (List ℕ)) (i : ℕ) → i ≢ 1 → IsPath files 1 names i → (from : ℕ) × (name : List ℕ) × StepsDown files from name i
named_by files [] i ne path = absurd (ne (sym path))
named_by files (name ∷ names) i ne path = (path.0, name, (path.1, path.3))

first_same : (x y : List ℕ) (a b : List (List ℕ)) → x ∷ a ≡ y ∷ b → x ≡ y
first_same x y a b e = cc e

rest_same : (x y : List ℕ) (a b : List (List ℕ)) → x ∷ a ≡ y ∷ b → a ≡ b
rest_same x y a b e = cc e

pub tree_makes_steps : (files : Files) (tree : IsTree files) → IsTreeBy files (depth_in files tree)
tree_makes_steps files tree = record {
  rooted = tree.rooted;
  top = tree.top;
  below = tree.below;
  shape = record {
    above = λ from to name step. directory_is_file files from step.1.0;
    lead = λ from to name step.
        let path = path_of files tree from to name step in (
          tree.lead (name ∷ path.0) to path.2,
          λ is_root.
              let here : [] ≡ name ∷ path.0 = tree.one [] (name ∷ path.0) to (subst (λ (k : ℕ). IsDirectory files k) (sym is_root) tree.rooted) (sym is_root) path.2 in absurd (cc here),
        );
    named = λ i ne there. let path = tree.reach i there in named_by files path.0 i ne path.1;
    parent = λ a b i x y is at_a at_b.
        let to_a = path_of files tree a i x at_a in
        let to_b = path_of files tree b i y at_b in
        let same = rest_same x y to_a.0 to_b.0 (tree.one (x ∷ to_a.0) (y ∷ to_b.0) i is to_a.2 to_b.2) in
        one_number files 1 to_b.0 a b (subst (λ (names : List (List ℕ)). IsPath files 1 names a) same to_a.1) to_b.1;
    name = λ a i x y is at_x at_y.
        let to_x = path_of files tree a i x at_x in
        let to_y = path_of files tree a i y at_y in
        first_same x y to_x.0 to_y.0 (tree.one (x ∷ to_x.0) (y ∷ to_y.0) i is to_x.2 to_y.2);
    deeper = λ from to name is step.
        let path = path_of files tree from to name step in
        let a = depth_of_path files tree from path.0 step.1.0 path.1 in
        let b : depth_in files tree to ≡ suc (length path.0) = depth_of_path files tree to (name ∷ path.0) is path.2 in omega arith;
  };
}

-- ---- names of directories, and of other files

pub directory_named_once : (files : Files) → IsTree files → (i : ℕ) → IsDirectory files i → IsNamedOnce files i
directory_named_once files tree i is =
    let by = tree_makes_steps files tree in
    let parents : (a b : ℕ) (x y : List ℕ) → StepsDown files a x i → StepsDown files b y i → a ≡ b = λ a b x y at_a at_b. by.shape.parent a b i x y is at_a at_b in
    record {
      directory = parents;
      name = λ a b x y at_a at_b. by.shape.name b i x y is (subst (λ (k : ℕ). StepsDown files k x i) (parents a b x y at_a at_b) at_a) at_b;
    }

-- what has one name has one path
pub named_once_one_path : (files : Files) → IsTree files → (a b : List (List ℕ)) (i : ℕ) → IsNamedOnce files i → IsPath files 1 a i → IsPath files 1 b i → a ≡ b
named_once_one_path files tree [] [] i once at_a at_b = refl
named_once_one_path files tree [] (y ∷ b) i once at_a at_b =
    absurd (root_has_no_name files (depth_in files tree) (tree_makes_steps files tree) i y b at_a at_b)
named_once_one_path files tree (x ∷ a) [] i once at_a at_b =
    absurd (root_has_no_name files (depth_in files tree) (tree_makes_steps files tree) i x a at_b at_a)
named_once_one_path files tree (x ∷ a) (y ∷ b) i once at_a at_b =
    let same : at_a.0 ≡ at_b.0 = once.directory at_a.0 at_b.0 x y (at_a.1, at_a.3) (at_b.1, at_b.3) in
    let names : x ≡ y = once.name at_a.0 at_b.0 x y (at_a.1, at_a.3) (at_b.1, at_b.3) in
    let rest : a ≡ b = tree.one a b at_b.0 at_b.3.0 (subst (λ (k : ℕ). IsPath files 1 a k) same at_a.2) at_b.2 in
    ap₂ (λ (n : List ℕ) (l : List (List ℕ)). n ∷ l) names rest

-- where a name is not the only one, there is not one alone
pub not_named_once : (files : Files) (from i : ℕ) (name : List ℕ) → StepsDown files from name i → HasOtherName files from name i → IsNamedOnce files i → ⊥
not_named_once files from i name step has once =
    ⊎_elim (λ (differ : has.other ≢ from). differ (once.directory has.other from has.second name has.leads step))
    (λ (differ : has.second ≢ name). differ (once.name has.other from has.second name has.leads step)) has.apart

pub once_by : (files : Files) (from i : ℕ) (name : List ℕ) → ((at : ℕ) (other : List ℕ) → StepsDown files at other i → (at ≡ from) × (other ≡ name)) →
    IsNamedOnce files i
once_by files from i name all = record {
  directory = λ a b x y at_a at_b. (all a x at_a).0 ∙ sym (all b y at_b).0;
  name = λ a b x y at_a at_b. (all a x at_a).1 ∙ sym (all b y at_b).1;
}

-- no name is new
pub once_behind : (files new : Files) (i : ℕ) → IsNamedOnce files i → ((at : ℕ) (other : List ℕ) → StepsDown new at other i → StepsDown files at other i) →
    IsNamedOnce new i
once_behind files new i once old = record {
  directory = λ a b x y at_a at_b. once.directory a b x y (old a x at_a) (old b y at_b);
  name = λ a b x y at_a at_b. once.name a b x y (old a x at_a) (old b y at_b);
}
