-- Why a copy of a file may not be put at its path.
use Rattle.std.proofs.Common.{◌≡◌, ℕ, List, inr, subst}
use Rattle.std.specs.Prelude.{Ok}
use Rattle.directories.specs.Paths.{names_of}
use Rattle.directories.specs.Trees.{root}
use Rattle.directories.specs.Walks.{walked}
use Rattle.model.specs.Files.{Files}
use Rattle.tree_looks.specs.Copies.{path_of_copy, IsNoTarget, IsUncopied}
use Rattle.tree_looks.specs.declared.copying.CopyFault.{CopyFault}
use Rattle.tree_looks.specs.declared.copying.CopyFault.TheVariants.{Look, IsADevice, SameFile}

pub no_target_so : (files : Files) (from to path : List ℕ) (number : ℕ) → walked files root (names_of from) ≡ Ok number → path ≡ path_of_copy files (names_of from) to → (fault : CopyFault) → IsNoTarget files number path fault → IsUncopied files from to fault
no_target_so files from to path number led is fault why = so fault (subst (λ (p : List ℕ). IsNoTarget files number p fault) is why)
  where
    so : (f : CopyFault) → IsNoTarget files number (path_of_copy files (names_of from) to) f → IsUncopied files from to f
    so (Look r) none = inr (inr none)
    so IsADevice none = inr none
    so SameFile none = (number, led, none)
