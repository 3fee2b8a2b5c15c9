-- Facts of an image that is made.
use Rattle.std.proofs.Common.{◌≡◌, ℕ, Bool, List, length, refl}
use Rattle.std.specs.Prelude.{Err}
use Rattle.blocks.specs.declared.disk.Disk.{Ghosts}
use Rattle.commands_changes.specs.Lemmas.Plans.{not_off}
use Rattle.commands_changes.specs.Making.{IsPlan}
use Rattle.commands_changes.specs.declared.making.Making.{Making}
use Rattle.layout.specs.declared.geometry.MkfsFault.{MkfsFault}
use Rattle.layout.specs.declared.geometry.MkfsFault.TheVariants as making
use Rattle.model.specs.Files.{files_of}
use Rattle.model.specs.Layout.{is_size}
use Rattle.model.specs.declared.types.image.Form.{Form}
use Rattle.offline.specs.Making.{MakesInOrder, RefusesToMake}
use Rattle.tree_changes.specs.Changes.{IsOfTree}
use Rattle.tree_changes.specs.declared.faults.ChangeRefusal.{ChangeRefusal}
use Rattle.tree_changes.specs.declared.faults.ChangeRefusal.TheVariants.{Unopened, Tree, Unwritten, Disk, Output}
use Rattle.xvnames.specs.Making.{HasGrown}
use Rattle.xvnames.specs.Unmade.{FailsToGrow, IsUnfilled, IsUnfilledBy, IsUnmadeOn, IsUnsynced}
use Rattle.xvnames.specs.declared.refused.FillFault.{FillFault}
use Rattle.xvnames.specs.declared.refused.FillFault.TheVariants as fill

module _ {D N : Type 0} (disk : Ghosts D N) where
  -- what a tree refuses
  pub of_tree : (sync : Bool) (form : Form) (named : List (List ℕ × List ℕ)) (d e : D) (r : ChangeRefusal) → IsOfTree r → FailsToGrow disk named d e r → IsUnfilledBy disk sync form named d e r
  of_tree sync form named d e (Tree fault) of fails = fails
  of_tree sync form named d e (Unwritten fault) of fails = fails
  of_tree sync form named d e (Unopened fault) of fails = absurd of
  of_tree sync form named d e (Disk fault) of fails = absurd of
  of_tree sync form named d e Output of fails = absurd of

  -- a sync that failed at the end
  pub of_sync : (sync : Bool) (form : Form) (named : List (List ℕ × List ℕ)) (d dev e : D) (r : ChangeRefusal) → HasGrown form named (files_of (disk.image dev)) → IsUnsynced disk sync dev e r → IsUnfilledBy disk sync form named d e r
  of_sync sync form named d dev e (Disk fault) grown fails = record { unsynced = dev; grown = grown; fails = fails }
  of_sync sync form named d dev e (Tree fault) grown fails = absurd fails
  of_sync sync form named d dev e (Unwritten fault) grown fails = absurd fails
  of_sync sync form named d dev e (Unopened fault) grown fails = absurd fails
  of_sync sync form named d dev e Output grown fails = absurd fails

  -- an image that there is was not made
  pub unmade_so : (made : Making) (old new : D) (fault : MkfsFault) → IsPlan made.size made.ninodes → length (disk.image old) ≡ made.size → RefusesToMake {T = Unit {0}} disk made.size made.ninodes (Err fault) old new → IsUnmadeOn disk old new (fill.Mkfs fault)
  unmade_so made old new making.InodeRange plan long refuses = absurd (cc (plan.0, refuses.inode_range.0 refl))
  unmade_so made old new making.SizeRange plan long refuses = not_off (is_size made.size made.ninodes) made.size (length (disk.image old)) plan.1 long (refuses.size_range.0 refl).1
  unmade_so made old new making.Disk plan long refuses = refuses.fault
  unmade_so made old new making.NoMemory plan long refuses = refuses.refused

  -- so none was made with files
  pub empty_unmade : (made : Making) (named : List (List ℕ × List ℕ)) (d e : D) (fault : FillFault) → MakesInOrder disk made.form made.size made.ninodes d e → IsUnmadeOn disk d e fault → IsUnfilled disk made named d fault
  empty_unmade made named d e (fill.Mkfs fault) order unmade = (e, order, unmade)
  empty_unmade made named d e (fill.Change refused) order unmade = absurd unmade
