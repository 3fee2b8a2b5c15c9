-- What changes of the files of a disk come to.
use Rattle.std.specs.Prelude.{◌≡◌, ⊤, ℕ, Bool, List, Option, None, Some, IsTrue}
use Rattle.std.specs.Io.KnownBytes.{Appends}
use Rattle.blocks.specs.Disk.{Rose}
use Rattle.blocks.specs.declared.disk.Disk.{Ghosts}
use Rattle.calls.specs.Opening.{IsOpenedPair}
use Rattle.calls.specs.Stepping.{Plain}
use Rattle.messages.specs.Output.{number_text}
use Rattle.model.specs.Files.{Files, files_of}
use Rattle.model.specs.Layout.{form_of}
use Rattle.model.specs.Log.{recovered}
use Rattle.model.specs.Soundness.{IsSound}
use Rattle.model.specs.Verdict.{verdict}
use Rattle.model.specs.declared.types.image.Form.{Form}
use Rattle.names.specs.Making.{MakesDirectoryAt}
use Rattle.names.specs.Opening.{IsUnopened}
use Rattle.directories.specs.Paths.{names_of}
use Rattle.names.specs.Ready.{KeepsTree, AnyOf}
use Rattle.directories.specs.Counts.{AreCounted}
use Rattle.directories.specs.Trees.{IsTree}
use Rattle.names.specs.declared.refusal.TreeFault.{TreeFault}
use Rattle.transfer.specs.Ending.{SyncsIf}
use Rattle.wal.specs.Recovery.{LeavesIfSynced}
use Rattle.wal.specs.Step.{FailsToSync}
use Rattle.tree_changes.specs.declared.faults.ChangeRefusal.{ChangeRefusal}
use Rattle.tree_changes.specs.declared.faults.ChangeRefusal.TheVariants.{Unopened, Tree, Unwritten, Disk, Output}

-- A kernel over a disk of some kind, that was one and is now another.
pub record Turn : Type 1 where
  pub Disk : Type 0
  pub Name : Type 0
  pub disk : Ghosts Disk Name
  pub was : Plain Disk
  pub now : Plain Disk

abbrev pub turn : {D N : Type 0} → Ghosts D N → Plain D → Plain D → Turn
turn {D} {N} disk k m = record { Disk = D; Name = N; disk = disk; was = k; now = m }

-- why a change that is one call of a tree is not made: that call's fault, which is so
abbrev pub OnTree : (TreeFault → Type 0) → ChangeRefusal → Type 0
OnTree why (Tree fault) = why fault
OnTree why (Unopened fault) = ⊥
OnTree why (Unwritten fault) = ⊥
OnTree why (Disk fault) = ⊥
OnTree why Output = ⊥

-- a reason that a tree has, and not its opening or its end
abbrev pub IsOfTree : ChangeRefusal → Type 0
IsOfTree (Tree fault) = ⊤
IsOfTree (Unwritten fault) = ⊤
IsOfTree (Unopened fault) = ⊥
IsOfTree (Disk fault) = ⊥
IsOfTree Output = ⊥

-- what a change that answers no number makes of files
abbrev pub Plainly : (Unit {0} → Files → Files → Type 0) → Option ℕ → Files → Files → Type 0
Plainly change number files new = (number ≡ None) × change tt files new

-- a directory was made at a path, and no number is answered
abbrev pub MakesDirectory : List ℕ → Option ℕ → Files → Files → Type 0
MakesDirectory path number files new =
    (number ≡ None) × AnyOf (MakesDirectoryAt (names_of path)) files new

-- a number was printed, if there is one
abbrev pub Tells : Option ℕ → Option (List ℕ) → Option (List ℕ) → Type 0
Tells None old new = new ≡ old
Tells (Some number) old new = Appends old new (number_text number)

-- The disk d, now e, had no fault, and its files, as recovery leaves them, were a tree whose counts were
-- right. A change made this of them, and recovery leaves a sound image, a tree and right counts still.
pub record HasMade {D N : Type 0} (disk : Ghosts D N)
    (makes : Form → Option ℕ → Files → Files → Type 0) (d e : D) (number : Option ℕ)
    : Type 0 where
  pub sound : verdict (disk.image d) ≡ None
  pub tree : IsTree (files_of (recovered (disk.image d)))
  pub right : AreCounted (files_of (recovered (disk.image d)))
  pub made : makes (form_of (recovered (disk.image d))) number
      (files_of (recovered (disk.image d))) (files_of (disk.image e))
  pub left_sound : IsSound (recovered (disk.image e))
  pub left_tree : IsTree (files_of (recovered (disk.image e)))
  pub counted : AreCounted (files_of (recovered (disk.image e)))

-- the last call to it was a sync that was done where one is asked for, and the number was printed
pub record HasChanged {D N : Type 0} (disk : Ghosts D N)
    (makes : Form → Option ℕ → Files → Files → Type 0) (last : Bool) (d e : D)
    (old new : Option (List ℕ)) : Type 0 where
  pub number : Option ℕ
  pub made : HasMade disk makes d e number
  pub unsynced : D
  pub syncs : SyncsIf last disk unsynced e
  pub told : Tells number old new

-- A tree was opened over the disk d, now e, whose kernel was the first, and is the last: the change
-- was not made, for this reason.
pub record FailsInTree {D N : Type 0} (disk : Ghosts D N) (undone : Turn → ChangeRefusal → Type 0)
    (d e : D) (r : ChangeRefusal) : Type 0 where
  pub first : Plain D
  pub opened : IsOpenedPair disk d first
  pub tree : IsTree (files_of (recovered (disk.image d)))
  pub last : Plain D
  pub why : undone (turn disk first last) r
  pub device : last.store.volume.device ≡ e

-- the change was made, and the sync that was asked for failed
pub record FailsSynced {D N : Type 0} (disk : Ghosts D N)
    (makes : Form → Option ℕ → Files → Files → Type 0) (last : Bool) (d e : D) : Type 0 where
  pub number : Option ℕ
  pub unsynced : D
  pub made : HasMade disk makes d unsynced number
  pub asked : IsTrue last
  pub faults : Rose (disk.fault_count unsynced) (disk.fault_count e)

-- or its number could not be printed
pub record IsUntold {D N : Type 0} (disk : Ghosts D N)
    (makes : Form → Option ℕ → Files → Files → Type 0) (last : Bool) (d e : D) : Type 0 where
  pub number : Option ℕ
  pub made : HasMade disk makes d e number
  pub unsynced : D
  pub syncs : SyncsIf last disk unsynced e

-- Why the change was not made, or what it answers not printed; `none` says that nothing was printed.
abbrev pub HasNotChanged : {D N : Type 0} → Ghosts D N
    → (Form → Option ℕ → Files → Files → Type 0) → (Turn → ChangeRefusal → Type 0) → Bool → D → D
    → Type 0 → ChangeRefusal → Type 0
HasNotChanged disk makes undone last d e none (Unopened cause) = IsUnopened disk d e cause × none
HasNotChanged disk makes undone last d e none (Tree fault) =
    FailsInTree disk undone d e (Tree fault) × none
HasNotChanged disk makes undone last d e none (Unwritten fault) =
    FailsInTree disk undone d e (Unwritten fault) × none
HasNotChanged disk makes undone last d e none (Disk fault) =
    FailsSynced disk makes last d e × FailsToSync fault × none
HasNotChanged disk makes undone last d e none Output = IsUntold disk makes last d e

-- why a disk, d and now e, was not synced at the end, or a number not printed
abbrev pub IsUnended : {D N : Type 0} → Ghosts D N → Bool → D → D → Type 0 → ChangeRefusal → Type 0
IsUnended disk last d e none (Disk fault) = IsTrue last × FailsToSync fault
    × Rose (disk.fault_count d) (disk.fault_count e) × none
IsUnended disk last d e none Output = SyncsIf last disk d e
IsUnended disk last d e none (Unopened cause) = ⊥
IsUnended disk last d e none (Tree fault) = ⊥
IsUnended disk last d e none (Unwritten fault) = ⊥

-- Whatever a stop leaves of it, since the first sync of the recovery, or at any moment where nothing was
-- held back on d: recovery gives a sound image whose files are a tree whose counts are right, those that
-- were there or such as the change may leave.
abbrev pub StopsChange : {D N : Type 0} → Ghosts D N → (Form → Files → Files → Type 0) → D → D
    → Type 0
StopsChange disk midst d e = verdict (disk.image d) ≡ None
    → IsTree (files_of (recovered (disk.image d)))
    → AreCounted (files_of (recovered (disk.image d)))
    → LeavesIfSynced disk d e
    (KeepsTree (λ (made : Unit {0}). midst (form_of (recovered (disk.image d))))
    (recovered (disk.image d)))
