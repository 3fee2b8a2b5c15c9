-- A command over the disk in a file, by what it does to the disk.
use Rattle.std.specs.Prelude.{ℕ, Bool, List, Option, Result, Ok, Err, OnOk, IfErr}
use Rattle.blocks.specs.declared.file.FileDisk.{FileDisk}
use Rattle.cmd.specs.Lemmas.Disks.{file_disk}
use Rattle.cmd.specs.Opened.{IsOpened, OpensDisk}
use Rattle.cmd.specs.Over.{IsRefusedOn, of}

module _ {F R : Type 0} (remaining : F → Option (List ℕ)) (holds : Bool) (opened now : FileDisk F) (is : IsOpened remaining file_disk holds opened) where
  pub done_over : (r : Result (Unit {0}) R) (P : FileDisk F → FileDisk F → Type 0) → OnOk r (P opened now) → OnOk (of r) (OpensDisk remaining file_disk holds P)
  done_over (Ok _) P done = (opened, (now, is, done))
  done_over (Err e) P done = done

  pub refused_over : (r : Result (Unit {0}) R) (none : Type 0) (P : FileDisk F → FileDisk F → R → Type 0) → IfErr r (P opened now) → IfErr (of r) (IsRefusedOn remaining holds none P)
  refused_over (Ok _) none P why = why
  refused_over (Err e) none P why = (opened, (now, is, why))
