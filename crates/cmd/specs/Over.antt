-- What a command over the disk in a file comes to, by what it comes to over that disk.
use Rattle.std.specs.Prelude.{ℕ, Bool, false, List, Option, Result, Ok, Err}
use Rattle.blocks.specs.declared.file.FileDisk.{FileDisk}
use Rattle.cmd.specs.Lemmas.Disks.{file_disk}
use Rattle.cmd.specs.Opened.{OpensDisk}
use Rattle.messages.specs.Telling.{Telling, file_telling}
use Rattle.cmd.specs.declared.files.OnFile.{OnFile}
use Rattle.cmd.specs.declared.files.OnFile.TheVariants.{File, Of}
use Rattle.cmd.specs.declared.opened.Access.{Access}
use Rattle.cmd.specs.declared.opened.Access.TheVariants.{Look, Change}

-- whether a disk that is opened for that holds writes back
abbrev pub holds_back : Access → Bool
holds_back (Look locking) = false
holds_back (Change sync locking) = sync

-- no disk was opened, and nothing printed; or one was, and is now another, as P says of the refusal
abbrev pub IsRefusedOn : {F R : Type 0} → (F → Option (List ℕ)) → Bool → Type 0
    → (FileDisk F → FileDisk F → R → Type 0) → OnFile R → Type 0
IsRefusedOn remaining holds none P (File fault) = none
IsRefusedOn remaining holds none P (Of r) =
    OpensDisk remaining file_disk holds (λ d e. P d e r)

-- how that is told
abbrev pub on_file_telling : {R : Type 0} → (R → Telling) → OnFile R → Telling
on_file_telling telling (File fault) = file_telling fault
on_file_telling telling (Of r) = telling r

-- the result over a file, of that over its disk
abbrev pub of : {R : Type 0} → Result (Unit {0}) R → Result (Unit {0}) (OnFile R)
of (Ok done) = Ok done
of (Err r) = Err (Of r)
