-- Why an image was not made with files.
use Rattle.std.specs.Prelude.{◌≡◌, ◌⊎◌, ⊤, ℕ, Bool, false, IsTrue, List, ◌∷◌, ◌++◌, replicate}
use Rattle.blocks.specs.Block.{zero_block}
use Rattle.blocks.specs.Disk.{Rose}
use Rattle.blocks.specs.declared.disk.Disk.{Ghosts}
use Rattle.blocks.specs.declared.file.FileDisk.{FileDisk}
use Rattle.calls.specs.Calls.{image_on}
use Rattle.calls.specs.Opening.{IsNotOpenedPair, IsOpenedPair}
use Rattle.calls.specs.Stepping.{Plain}
use Rattle.cmd.specs.declared.files.OnFile.{OnFile}
use Rattle.cmd.specs.declared.files.OnFile.TheVariants.{File, Of}
use Rattle.commands_changes.specs.Making.{IsPlan}
use Rattle.commands_changes.specs.declared.making.Making.{Making}
use Rattle.layout.specs.declared.geometry.MkfsFault.{MkfsFault}
use Rattle.layout.specs.declared.geometry.MkfsFault.TheVariants as making
use Rattle.model.specs.Files.{files_of}
use Rattle.model.specs.Layout.{is_inode_count, is_size}
use Rattle.model.specs.declared.types.image.Form.{Form}
use Rattle.names.specs.Inside.{form_seen}
use Rattle.names.specs.Making.{IsUnmadeIn, MakesAt}
use Rattle.directories.specs.Paths.{names_of}
use Rattle.names.specs.Ready.{IsRootAlone, IsRootless, IsUndone}
use Rattle.directories.specs.Walks.{IsUndoneIn}
use Rattle.names.specs.declared.opening.TreeOpenFault.TheVariants as opening
use Rattle.offline.specs.Making.{MakesInOrder}
use Rattle.tree_changes.specs.Changes.{OnTree}
use Rattle.tree_changes.specs.Puts.{StopsWriting}
use Rattle.tree_changes.specs.declared.faults.ChangeRefusal.{ChangeRefusal}
use Rattle.tree_changes.specs.declared.faults.ChangeRefusal.TheVariants as change
use Rattle.wal.specs.Step.{FailsToSync}
use Rattle.xvnames.specs.Making.{AddsAll, AreNamed, HasGrown, HasMadeOf, IsMadeUpTo}
use Rattle.xvnames.specs.declared.refused.FillFault.{FillFault}
use Rattle.xvnames.specs.declared.refused.FillFault.TheVariants as fill
use Rattle.xvnames.specs.declared.refused.MkfsRefusal.{MkfsRefusal}
use Rattle.xvnames.specs.declared.refused.MkfsRefusal.TheVariants as mkfs

-- ---- in a tree

-- Why a file of these bytes was not added over kernel k, which is m now: none was made under the name;
-- or one was, and so many pieces of its bytes were written.
abbrev pub IsUnadded : {D N : Type 0} → Ghosts D N → List ℕ → List ℕ → Plain D → Plain D
    → ChangeRefusal → Type 0
IsUnadded {D} disk name bytes k m r =
    OnTree (IsUndone disk name (IsUndoneIn IsUnmadeIn (names_of name)) k m) r
    ⊎ ((number : ℕ) × ((mid : Plain D) × MakesAt (names_of name) number
    (files_of (image_on disk.image k)) (files_of (image_on disk.image mid))
    × StopsWriting disk name bytes mid m r))

-- The files before one were added, and it was not.
pub record StopsAdding {D N : Type 0} (disk : Ghosts D N) (named : List (List ℕ × List ℕ))
    (k m : Plain D) (r : ChangeRefusal) : Type 0 where
  pub before : List (List ℕ × List ℕ)
  pub file : List ℕ × List ℕ
  pub behind : List (List ℕ × List ℕ)
  pub split : named ≡ before ++ file ∷ behind
  pub mid : Plain D
  pub added : AddsAll (form_seen disk.image k) before (files_of (image_on disk.image k))
      (files_of (image_on disk.image mid))
  pub why : IsUnadded disk file.0 file.1 mid m r

-- why they are not there with a root directory: none was made, or one was, and not all were added
abbrev pub IsUngrown : {D N : Type 0} → Ghosts D N → List (List ℕ × List ℕ) → Plain D → Plain D
    → ChangeRefusal → Type 0
IsUngrown {D} disk named k m r = OnTree (IsRootless disk k m) r
    ⊎ ((mid : Plain D) × IsRootAlone (files_of (image_on disk.image mid))
    × StopsAdding disk named mid m r)

-- ---- on a disk

-- A kernel was opened over the disk d, now e, and its tree has not all of the files.
pub record FailsToGrow {D N : Type 0} (disk : Ghosts D N) (named : List (List ℕ × List ℕ)) (d e : D)
    (r : ChangeRefusal) : Type 0 where
  pub first : Plain D
  pub opened : IsOpenedPair disk d first
  pub last : Plain D
  pub why : IsUngrown disk named first last r
  pub device : last.store.volume.device ≡ e

-- the sync of the disk d, now e, failed, which was asked for
abbrev pub IsUnsynced : {D N : Type 0} → Ghosts D N → Bool → D → D → ChangeRefusal → Type 0
IsUnsynced disk sync d e (change.Disk fault) =
    IsTrue sync × FailsToSync fault × Rose (disk.fault_count d) (disk.fault_count e)
IsUnsynced disk sync d e (change.Unopened fault) = ⊥
IsUnsynced disk sync d e (change.Tree fault) = ⊥
IsUnsynced disk sync d e (change.Unwritten fault) = ⊥
IsUnsynced disk sync d e change.Output = ⊥

-- all files are on a disk, now e, and its sync failed
pub record FailsAtEnd {D N : Type 0} (disk : Ghosts D N) (sync : Bool) (form : Form)
    (named : List (List ℕ × List ℕ)) (e : D) (r : ChangeRefusal) : Type 0 where
  pub unsynced : D
  pub grown : HasGrown form named (files_of (disk.image unsynced))
  pub fails : IsUnsynced disk sync unsynced e r

-- why files were not put on the new disk d, now e: no kernel was opened, not all were added, or the
-- sync failed
abbrev pub IsUnfilledBy : {D N : Type 0} → Ghosts D N → Bool → Form → List (List ℕ × List ℕ)
    → D → D → ChangeRefusal → Type 0
IsUnfilledBy disk sync form named d e (change.Unopened (opening.Kernel cause)) =
    IsNotOpenedPair disk d e cause
IsUnfilledBy disk sync form named d e (change.Unopened opening.NoTree) = ⊥
IsUnfilledBy disk sync form named d e (change.Unopened (opening.Miscounted number)) = ⊥
IsUnfilledBy disk sync form named d e (change.Tree fault) =
    FailsToGrow disk named d e (change.Tree fault)
IsUnfilledBy disk sync form named d e (change.Unwritten fault) =
    FailsToGrow disk named d e (change.Unwritten fault)
IsUnfilledBy disk sync form named d e (change.Disk fault) =
    FailsAtEnd disk sync form named e (change.Disk fault)
IsUnfilledBy disk sync form named d e change.Output = ⊥

-- why no empty image was made on the disk d, which is e now
abbrev pub IsUnmadeOn : {D N : Type 0} → Ghosts D N → D → D → FillFault → Type 0
IsUnmadeOn disk d e (fill.Mkfs making.InodeRange) = ⊥
IsUnmadeOn disk d e (fill.Mkfs making.SizeRange) = ⊥
IsUnmadeOn disk d e (fill.Mkfs making.Disk) = Rose (disk.fault_count d) (disk.fault_count e)
IsUnmadeOn disk d e (fill.Mkfs making.NoMemory) = e ≡ d
IsUnmadeOn disk d e (fill.Change refused) = ⊥

-- or one was, and files were not put on it, as far as e
pub record FailsToPut {D N : Type 0} (disk : Ghosts D N) (made : Making)
    (named : List (List ℕ × List ℕ)) (d : D) (r : ChangeRefusal) : Type 0 where
  pub empty : D
  pub now : D
  pub way : IsMadeUpTo disk made named d empty now
  pub why : IsUnfilledBy disk made.sync made.form named empty now r

-- why there is no image with files on the disk d; what a stop leaves is said here, too
abbrev pub IsUnfilled : {D N : Type 0} → Ghosts D N → Making → List (List ℕ × List ℕ) → D
    → FillFault → Type 0
IsUnfilled {D} disk made named d (fill.Mkfs fault) =
    (e : D) × MakesInOrder disk made.form made.size made.ninodes d e
    × IsUnmadeOn disk d e (fill.Mkfs fault)
IsUnfilled disk made named d (fill.Change refused) = FailsToPut disk made named d refused

-- ---- in a file

-- A disk of so many blocks of zeroes was created in a file, and no image with files made on it.
pub record FailsToFill {F N : Type 0} (disk : Ghosts (FileDisk F) N) (made : Making)
    (named : List (List ℕ × List ℕ)) (fault : FillFault) : Type 0 where
  pub created : FileDisk F
  pub zeroes : disk.image created ≡ replicate made.size zero_block
  pub why : IsUnfilled disk made named created fault

-- or the file can't be made or used
abbrev pub IsNotMadeIn : {F N : Type 0} → Ghosts (FileDisk F) N → Making
    → List (List ℕ × List ℕ) → OnFile FillFault → Type 0
IsNotMadeIn disk made named (File fault) = ⊤
IsNotMadeIn disk made named (Of fault) = FailsToFill disk made named fault

-- the same of the files at these paths
pub record IsNotMadeOf {F N : Type 0} (disk : Ghosts (FileDisk F) N) (made : Making)
    (paths : List (List ℕ)) (refused : OnFile FillFault) : Type 0 where
  pub named : List (List ℕ × List ℕ)
  pub names : AreNamed paths named
  pub why : IsNotMadeIn disk made named refused

-- there is no image of that size, for this reason
abbrev pub IsUnplanned : Making → MkfsFault → Type 0
IsUnplanned made making.InodeRange = is_inode_count made.ninodes ≡ false
IsUnplanned made making.SizeRange =
    IsTrue (is_inode_count made.ninodes) × (is_size made.size made.ninodes ≡ false)
IsUnplanned made making.Disk = ⊥
IsUnplanned made making.NoMemory = ⊥

-- Why an image was not made with the files at these paths, or its numbers not printed; `none` says
-- that nothing was.
abbrev pub IsNotMadeWith : {F N : Type 0} → Ghosts (FileDisk F) N → Making → List (List ℕ)
    → Type 0 → MkfsRefusal → Type 0
IsNotMadeWith disk made paths none (mkfs.Unplanned fault) = IsUnplanned made fault × none
IsNotMadeWith disk made paths none (mkfs.Unread fault) = IsPlan made.size made.ninodes × none
IsNotMadeWith disk made paths none (mkfs.Of refused) =
    IsPlan made.size made.ninodes × IsNotMadeOf disk made paths refused × none
IsNotMadeWith disk made paths none mkfs.Output =
    IsPlan made.size made.ninodes × HasMadeOf disk made paths
