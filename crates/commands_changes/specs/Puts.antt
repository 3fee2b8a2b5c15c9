-- What became of the disk in a file into which a file of the system was put.
use Rattle.std.specs.Prelude.{◌⊎◌, ℕ, Bool, IsTrue, List, Option}
use Rattle.cmd.specs.Lemmas.Disks.{file_disk}
use Rattle.cmd.specs.Opened.{OpensDisk}
use Rattle.cmd.specs.Over.{IsRefusedOn}
use Rattle.cmd.specs.declared.files.OnFile.{OnFile}
use Rattle.transfer.specs.declared.refused.PutRefusal.{PutRefusal}
use Rattle.commands_changes.specs.PutsAnew.{IsUnputAnew, PrintsPut}
use Rattle.commands_changes.specs.PutsOver.{IsUnputOver, PutsOver}
use Rattle.commands_changes.specs.declared.refused.PutFileRefusal.{PutFileRefusal}
use Rattle.commands_changes.specs.declared.refused.PutFileRefusal.TheVariants.{Unread, Of}

-- The bytes of some file were put on the disk of a file, which holds writes back where `sync` says so.
-- Where it does, more than one write moves may be put by way of a new file.
pub record HasPut {F : Type 0} (remaining : F → Option (List ℕ)) (inum : Option ℕ)
    (sync last : Bool) (old new : Option (List ℕ)) : Type 0 where
  pub bytes : List ℕ
  pub put : OpensDisk remaining file_disk sync
      (λ d e. PutsOver file_disk inum bytes last d e old new)
      ⊎ (IsTrue sync × PrintsPut remaining inum bytes old new)

-- or were not, for this reason
pub record HasNotPut {F : Type 0} (remaining : F → Option (List ℕ)) (inum : Option ℕ)
    (sync last : Bool) (none : Type 0) (r : OnFile PutRefusal) : Type 0 where
  pub bytes : List ℕ
  pub refused : IsRefusedOn remaining sync none
      (λ d e. IsUnputOver file_disk inum bytes last none d e) r
      ⊎ (IsTrue sync × IsUnputAnew remaining inum bytes none r)

-- Where the command was refused: the file's bytes could not be had, and then no disk was opened; or
-- the disk could not be opened, or was, and the bytes were not put. `none` says that nothing was
-- printed.
abbrev pub OnPutRefusal : {F : Type 0} → (F → Option (List ℕ)) → Option ℕ → Bool → Bool → Type 0
    → PutFileRefusal → Type 0
OnPutRefusal remaining inum sync last none (Unread fault) = none
OnPutRefusal remaining inum sync last none (Of r) = HasNotPut remaining inum sync last none r
