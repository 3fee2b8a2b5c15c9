-- A folder of the system that is put below a path of the image in a file.
use Rattle.std.specs.Prelude.{ℕ, List, Option, codes}
use Rattle.blocks.specs.declared.memory.MemDisk.{MemDisk}
use Rattle.cmd.specs.Over.{on_file_telling}
use Rattle.cmd.specs.declared.files.OnFile.{OnFile}
use Rattle.messages.specs.Telling.{Telling, plain}
use Rattle.tree_changes.specs.Filling.{Fills, IsUnfilledAt}
use Rattle.tree_changes.specs.Tellings.{change_telling}
use Rattle.tree_changes.specs.declared.faults.ChangeRefusal.{ChangeRefusal}
use Rattle.tree_changes.specs.declared.filling.Item.{Item}
use Rattle.tree_puts.specs.Anew.{ChangesIn, IsUnchangedAnew, IsUnchangedIn, PrintsAnew}
use Rattle.tree_puts.specs.Gathering.{gathering_telling, AreBelow}
use Rattle.tree_puts.specs.declared.folders.FolderRefusal.{FolderRefusal}
use Rattle.tree_puts.specs.declared.folders.FolderRefusal.TheVariants as folder

abbrev pub folder_telling : FolderRefusal → Telling
folder_telling (folder.Ungathered fault) = gathering_telling fault
folder_telling folder.NoPlace = plain (codes "put") 9 (codes "NoPlace")
folder_telling (folder.Of refused) = on_file_telling change_telling refused

-- items were not put below a path into an image in memory
abbrev pub IsUnfilledIn : List ℕ → List Item → MemDisk → ChangeRefusal → Type 0
IsUnfilledIn path items =
    IsUnchangedIn (Fills path items) (λ t. IsUnfilledAt t.disk path items t.was t.now)

-- Some items below a path were put into a copy of the image that was opened, one after the other, which
-- was written to another file, and synced.
pub record HasPutFolder {F : Type 0} (remaining : F → Option (List ℕ)) (path : List ℕ)
    (old new : Option (List ℕ)) : Type 0 where
  pub items : List Item
  pub below : AreBelow path items
  pub put : PrintsAnew remaining (ChangesIn (Fills path items)) old new

-- they were not put so
pub record HasNotPutFolder {F : Type 0} (remaining : F → Option (List ℕ)) (path : List ℕ)
    (none : Type 0) (r : OnFile ChangeRefusal) : Type 0 where
  pub items : List Item
  pub below : AreBelow path items
  pub refused : IsUnchangedAnew remaining (ChangesIn (Fills path items)) (IsUnfilledIn path items)
      (λ why. why) none r

-- why not: they can't be had, or there is no place for the new image, and then nothing was done; or they
-- were not put into it. `none` says that nothing was printed.
abbrev pub IsUnputFolder : {F : Type 0} → (F → Option (List ℕ)) → List ℕ → Type 0 → FolderRefusal
    → Type 0
IsUnputFolder remaining path none (folder.Ungathered fault) = none
IsUnputFolder remaining path none folder.NoPlace = none
IsUnputFolder remaining path none (folder.Of r) = HasNotPutFolder remaining path none r
