-- A file of the system that is put under a path of the image in a file.
use Rattle.std.specs.Prelude.{◌⊎◌, ◌<◌, ℕ, Bool, false, List, length, Option}
use Rattle.cmd.specs.Lemmas.Disks.{file_disk}
use Rattle.cmd.specs.Opened.{OpensDisk}
use Rattle.model.specs.Operations.{transfer_limit}
use Rattle.tree_changes.specs.Changes.{HasChanged, StopsChange}
use Rattle.tree_changes.specs.Puts.{Puts, PutsSome}
use Rattle.tree_changes.specs.Room.{HasRoomFor}
use Rattle.tree_puts.specs.Anew.{ChangesIn, PrintsAnew}

-- Bytes were put on the disk of a file, which holds writes back where `sync` says so. Where one call does
-- not write them, there was room for them before.
pub record PutsOver {F : Type 0} (remaining : F → Option (List ℕ)) (path bytes : List ℕ)
    (sync last : Bool) (old new : Option (List ℕ)) : Type 0 where
  pub put : OpensDisk remaining file_disk sync (λ d e.
      HasChanged file_disk (Puts path bytes) last d e old new
      × StopsChange file_disk (PutsSome path bytes) d e)
  pub room : transfer_limit < length bytes
      → OpensDisk remaining file_disk false (HasRoomFor file_disk (length bytes))

-- Some bytes were put where the image stands, or more than one call writes by way of a new file.
pub record HasPut {F : Type 0} (remaining : F → Option (List ℕ)) (path : List ℕ)
    (sync last : Bool) (old new : Option (List ℕ)) : Type 0 where
  pub bytes : List ℕ
  pub put : PutsOver remaining path bytes sync last old new
      ⊎ ((transfer_limit < length bytes) × PrintsAnew remaining (ChangesIn (Puts path bytes)) old new)
