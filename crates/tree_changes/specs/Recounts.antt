-- Counts of links that were put right on a disk.
use Rattle.std.specs.Prelude.{◌≡◌, ◌≢◌, ℕ, Bool, IsTrue, List, Option}
use Rattle.std.specs.Io.KnownBytes.{Appends}
use Rattle.blocks.specs.Disk.{Rose}
use Rattle.blocks.specs.declared.disk.Disk.{Ghosts}
use Rattle.messages.specs.Output.{number_text}
use Rattle.names.specs.Opening.{IsUnopened}
use Rattle.names.specs.Recounting.{FailsToRecount, IsRecounted, IsTooMany}
use Rattle.names.specs.declared.recounting.RecountFault.{RecountFault}
use Rattle.names.specs.declared.recounting.RecountFault.TheVariants as recount
use Rattle.directories.specs.declared.refusal.Refusal.TheVariants as refusal
use Rattle.names.specs.declared.refusal.TreeFault.{TreeFault}
use Rattle.names.specs.declared.refusal.TreeFault.TheVariants as tree
use Rattle.transfer.specs.Ending.{SyncsIf}
use Rattle.wal.specs.Step.{FailsToSync}
use Rattle.tree_changes.specs.declared.faults.ChangeRefusal.{ChangeRefusal}
use Rattle.tree_changes.specs.declared.faults.ChangeRefusal.TheVariants.{Unopened, Tree, Unwritten, Disk, Output}

-- The counts of the disk d, now e, are right. The last call to it was a sync that was done where one is
-- asked for and some were wrong.
pub record HasRecounted {D N : Type 0} (disk : Ghosts D N) (last : Bool) (d e : D) (wrong : ℕ)
    : Type 0 where
  pub unsynced : D
  pub recounted : IsRecounted disk d unsynced wrong
  pub syncs : wrong ≢ 0 → SyncsIf last disk unsynced e
  pub same : wrong ≡ 0 → e ≡ unsynced

-- and how many were wrong was printed
pub record TellsRecount {D N : Type 0} (disk : Ghosts D N) (last : Bool) (d e : D)
    (old new : Option (List ℕ)) : Type 0 where
  pub wrong : ℕ
  pub recounted : HasRecounted disk last d e wrong
  pub told : Appends old new (number_text wrong)

-- they are right, and the sync that was asked for failed
pub record IsUnsynced {D N : Type 0} (disk : Ghosts D N) (last : Bool) (d e : D) : Type 0 where
  pub wrong : ℕ
  pub unsynced : D
  pub recounted : IsRecounted disk d unsynced wrong
  pub asked : IsTrue last
  pub faults : Rose (disk.fault_count unsynced) (disk.fault_count e)

-- how it is told why they are not put right
abbrev pub refusal_of : RecountFault → ChangeRefusal
refusal_of (recount.Unopened cause) = Unopened cause
refusal_of recount.TooMany = Tree (tree.Refused refusal.TooManyLinks)
refusal_of (recount.Call fault) = Tree (tree.Call fault)

-- why a tree does not put them right: too many names lead to a file, or a call failed
abbrev pub IsUnset : {D N : Type 0} → Ghosts D N → D → D → TreeFault → Type 0
IsUnset disk d e (tree.Refused refusal.TooManyLinks) = IsTooMany disk d e
IsUnset disk d e (tree.Refused cause) = ⊥
IsUnset disk d e (tree.Call fault) = FailsToRecount disk d e fault
IsUnset disk d e (tree.Path cause) = ⊥
IsUnset disk d e tree.NoSpace = ⊥
IsUnset disk d e tree.NoCall = ⊥

-- Why counts were not put right, or how many were wrong not printed; `none` says that nothing was
-- printed.
abbrev pub HasNotRecounted : {D N : Type 0} → Ghosts D N → Bool → D → D → Type 0 → ChangeRefusal
    → Type 0
HasNotRecounted disk last d e none (Unopened cause) = IsUnopened disk d e cause × none
HasNotRecounted disk last d e none (Tree fault) = IsUnset disk d e fault × none
HasNotRecounted disk last d e none (Unwritten fault) = ⊥
HasNotRecounted disk last d e none (Disk fault) =
    IsUnsynced disk last d e × FailsToSync fault × none
HasNotRecounted disk last d e none Output = (wrong : ℕ) × HasRecounted disk last d e wrong
