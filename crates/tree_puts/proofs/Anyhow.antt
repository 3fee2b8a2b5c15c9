-- Why a change was not made, whatever is said of the output.
use Rattle.std.proofs.Common.{ℕ, Bool, Option}
use Rattle.std.specs.Prelude.{⊤}
use Rattle.blocks.specs.declared.disk.Disk.{Ghosts}
use Rattle.model.specs.Files.{Files}
use Rattle.model.specs.declared.types.image.Form.{Form}
use Rattle.tree_changes.specs.Copying.{Asked, HasNotCopied}
use Rattle.tree_changes.specs.declared.copying.CopyRefusal.{CopyRefusal}
use Rattle.tree_changes.specs.declared.copying.CopyRefusal.TheVariants as copy
use Rattle.tree_changes.specs.Changes.{HasNotChanged, Turn}
use Rattle.tree_changes.specs.declared.faults.ChangeRefusal.{ChangeRefusal}
use Rattle.tree_changes.specs.declared.faults.ChangeRefusal.TheVariants.{Unopened, Tree, Unwritten, Disk, Output}

pub unchanged_anyhow : {D N : Type 0} (disk : Ghosts D N) (makes : Form → Option ℕ → Files → Files → Type 0) (undone : Turn → ChangeRefusal → Type 0) (last : Bool) (d e : D) (none : Type 0) (r : ChangeRefusal) → HasNotChanged disk makes undone last d e none r → HasNotChanged disk makes undone last d e ⊤ r
unchanged_anyhow disk makes undone last d e none (Unopened cause) why = (why.0, tt)
unchanged_anyhow disk makes undone last d e none (Tree fault) why = (why.0, tt)
unchanged_anyhow disk makes undone last d e none (Unwritten fault) why = (why.0, tt)
unchanged_anyhow disk makes undone last d e none (Disk fault) why = (why.0, why.1, tt)
unchanged_anyhow disk makes undone last d e none Output why = why

-- the same of a copy
pub uncopied_anyhow : {D N : Type 0} (disk : Ghosts D N) (asked : Asked) (d e : D) (none : Type 0) (r : CopyRefusal) → HasNotCopied disk asked d e none r → HasNotCopied disk asked d e ⊤ r
uncopied_anyhow disk asked d e none (copy.Unplanned fault) why = (why.0, tt)
uncopied_anyhow disk asked d e none (copy.NoRoom refused) why = (why.0, tt)
uncopied_anyhow disk asked d e none (copy.Of refused) why = record {
  path = why.path;
  bytes = why.bytes;
  read = why.read;
  planned = why.planned;
  refused = unchanged_anyhow disk _ _ asked.last why.read e none refused why.refused;
  stops = why.stops;
}
