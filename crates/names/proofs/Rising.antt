-- The way up from a directory of a tree, from parent to parent.
use Rattle.std.proofs.Common.{◌≡◌, ◌≢◌, ◌↔◌, ℕ, ◌+◌, ◌≤◌, List, [], Some, Ok, Result, sym, ap, subst, ◌∙◌}
use Rattle.blocks.specs.declared.disk.Disk.{Ghosts}
use Rattle.calls.specs.Calls.{call_count, image_on}
use Rattle.calls.specs.Stepping.{IsReached, Plain}
use Rattle.model.specs.Files.{Files}
use Rattle.directories.specs.declared.refusal.Refusal.{Refusal}
use Rattle.names.specs.Inside.{files_seen, IsUnderWay, StaysOn}
use Rattle.directories.specs.Trees.{number_of, parent_name, IsDirectory, IsOutside, IsTree}
use Rattle.directories.specs.Walks.{stepped}
use Rattle.directories.specs.Lemmas.Below.{parents_decide, root_is_outside}
use Rattle.directories.specs.Lemmas.PathLaws.{step_from, step_to}
use Rattle.directories.specs.Lemmas.TreeMeaning.{directories_are_tidy}

-- a directory has a parent
pub has_parent : (files : Files) (at : ℕ) (led : Result ℕ Refusal) → IsTree files → IsDirectory files at → led ≡ stepped files at parent_name →
    ((parent : ℕ) → led ≡ Ok parent → ⊥) → ⊥
has_parent files at led tree is leads not =
    let of = (directories_are_tidy files at tree is).1 in
    not of.0 (leads ∙ step_to files at parent_name of.0 (is, of.1.up))

module _ (files : Files) (number at parent : ℕ) (led : Result ℕ Refusal) (tree : IsTree files) (is : IsDirectory files at) (not_root : at ≢ 1)
    (leads : led ≡ stepped files at parent_name) (led_is : led ≡ Ok parent) where
  up : number_of files at parent_name ≡ Some parent
  up = (step_from files at parent_name parent (sym leads ∙ led_is)).1

  pub parent_there : IsDirectory files parent
  parent_there = (parents_decide files number at parent tree is not_root up).2

  -- it is outside another one where its parent is, unless it is that itself
  pub parent_decides : at ≢ number → IsOutside files number at ↔ IsOutside files number parent
  parent_decides other =
      let decide = parents_decide files number at parent tree is not_root up in
      (λ outside names path. decide.1 (λ above. above names path) outside, λ outside. decide.0 other outside)

-- a file is not outside itself
pub inside_itself : (files : Files) (number from at : ℕ) → IsOutside files number from ↔ IsOutside files number at → at ≡ number → IsOutside files number from → ⊥
inside_itself files number from at decides same outside = decides.0 outside [] (sym same)

-- the root is outside all others
pub root_decides : (files : Files) (number from at : ℕ) → IsTree files → number ≢ 1 → IsOutside files number from ↔ IsOutside files number at → at ≡ 1 →
    IsOutside files number from
root_decides files number from at tree below decides same =
    decides.1 (subst (λ (i : ℕ). IsOutside files number i) (sym same) (root_is_outside files number tree below))

-- directories were gone through from one up to another
pub record HasRisen {D N : Type 0} (disk : Ghosts D N) (k m : Plain D) (left steps number from at : ℕ) : Type 0 where
  pub way : IsUnderWay disk m left
  pub same : image_on disk.image m ≡ image_on disk.image k
  pub opening : m.opening ≡ k.opening
  pub files : files_seen disk.image m ≡ files_seen disk.image k
  pub stays : StaysOn disk k m
  pub reached : (o : Plain D) → IsReached disk o k → IsReached disk o m
  pub is : IsDirectory (files_seen disk.image k) at
  pub answered : call_count k + steps ≤ call_count m
  pub decides : IsOutside (files_seen disk.image k) number from ↔ IsOutside (files_seen disk.image k) number at

-- the name that was looked up is that of the parent
pub stepped_as : (led : Result ℕ Refusal) (seen files : Files) (at : ℕ) (name : List ℕ) → led ≡ stepped seen at name → seen ≡ files → name ≡ parent_name →
    led ≡ stepped files at parent_name
stepped_as led seen files at name leads same is = leads ∙ ap (λ (f : Files). stepped f at name) same ∙ ap (λ (n : List ℕ). stepped files at n) is
