-- Why a file of the system isn't put into an image, and how that is told.
use Rattle.std.specs.Prelude.{⊤, ◌⊎◌, ℕ, ◌<◌, Bool, false, List, length, Option}
use Rattle.blocks.specs.declared.memory.MemDisk.{MemDisk}
use Rattle.cmd.specs.Lemmas.Disks.{file_disk}
use Rattle.cmd.specs.Opened.{OpensDisk}
use Rattle.cmd.specs.Over.{IsRefusedOn, on_file_telling}
use Rattle.cmd.specs.declared.files.OnFile.{OnFile}
use Rattle.cmd.specs.declared.files.OnFile.TheVariants.{File, Of}
use Rattle.commands_changes.specs.Refusals.{reading_telling}
use Rattle.messages.specs.Telling.{Telling}
use Rattle.model.specs.Operations.{transfer_limit}
use Rattle.tree_changes.specs.Changes.{HasNotChanged, StopsChange}
use Rattle.tree_changes.specs.Puts.{IsUnputAt, Puts, PutsSome}
use Rattle.tree_changes.specs.Room.{HasRoomFor, LacksRoom}
use Rattle.tree_changes.specs.Tellings.{change_telling}
use Rattle.tree_changes.specs.declared.faults.ChangeRefusal.{ChangeRefusal}
use Rattle.tree_puts.specs.Anew.{ChangesIn, IsUnchangedAnew, IsUnchangedIn}
use Rattle.tree_puts.specs.declared.refused.PutRefusal.{PutRefusal}
use Rattle.tree_puts.specs.declared.refused.PutRefusal.TheVariants as put

abbrev pub put_telling : PutRefusal → Telling
put_telling (put.Unread fault) = reading_telling fault
put_telling (put.NoRoom refused) = on_file_telling change_telling refused
put_telling (put.Of refused) = on_file_telling change_telling refused

-- Some bytes were not put on the disk of a file, for this reason, and what a stop leaves of that. Where
-- one call does not write them, there was room for them before. `none` says that nothing was printed.
pub record HasNotPut {F : Type 0} (remaining : F → Option (List ℕ)) (path : List ℕ)
    (sync last : Bool) (none : Type 0) (r : OnFile ChangeRefusal) : Type 0 where
  pub bytes : List ℕ
  pub refused : IsRefusedOn remaining sync none (λ d e why.
      HasNotChanged file_disk (Puts path bytes)
      (λ t. IsUnputAt t.disk path bytes t.was t.now) last d e none why
      × StopsChange file_disk (PutsSome path bytes) d e) r
  pub room : transfer_limit < length bytes
      → OpensDisk remaining file_disk false (HasRoomFor file_disk (length bytes))

-- bytes were not put into an image in memory
abbrev pub IsUnputIn : List ℕ → List ℕ → MemDisk → ChangeRefusal → Type 0
IsUnputIn path bytes =
    IsUnchangedIn (Puts path bytes) (λ t. IsUnputAt t.disk path bytes t.was t.now)

-- more than one call writes were not put by way of a new file
pub record HasNotPutAnew {F : Type 0} (remaining : F → Option (List ℕ)) (path : List ℕ)
    (none : Type 0) (r : OnFile ChangeRefusal) : Type 0 where
  pub bytes : List ℕ
  pub many : transfer_limit < length bytes
  pub refused : IsUnchangedAnew remaining (ChangesIn (Puts path bytes)) (IsUnputIn path bytes)
      (λ why. why) none r

-- so many bytes have no room on the disk of a file, which was only read; or that can't be used as one
abbrev pub HasNoRoom : {F : Type 0} → (F → Option (List ℕ)) → ℕ → OnFile ChangeRefusal → Type 0
HasNoRoom remaining count (File fault) = ⊤
HasNoRoom remaining count (Of r) =
    OpensDisk remaining file_disk false (λ d e. LacksRoom file_disk count d e r)

-- why bytes were not put where the image stands: they are more than one call writes and have no room, or
-- the change was not made
abbrev pub IsUnputOver : {F : Type 0} → (F → Option (List ℕ)) → List ℕ → Bool → Bool → Type 0
    → PutRefusal → Type 0
IsUnputOver remaining path sync last none (put.Unread fault) = ⊥
IsUnputOver remaining path sync last none (put.NoRoom r) = none
    × ((bytes : List ℕ) × (transfer_limit < length bytes) × HasNoRoom remaining (length bytes) r)
IsUnputOver remaining path sync last none (put.Of r) = HasNotPut remaining path sync last none r

-- why they were not put: they can't be had, or were not put there, or by way of a new file
abbrev pub IsUnput : {F : Type 0} → (F → Option (List ℕ)) → List ℕ → Bool → Bool → Type 0
    → PutRefusal → Type 0
IsUnput remaining path sync last none (put.Unread fault) = none
IsUnput remaining path sync last none (put.NoRoom r) =
    IsUnputOver remaining path sync last none (put.NoRoom r)
IsUnput remaining path sync last none (put.Of r) = HasNotPut remaining path sync last none r
    ⊎ HasNotPutAnew remaining path none r
