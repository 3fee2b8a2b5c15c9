-- What a put over a disk comes to, and what a stop leaves of it.
use Rattle.std.proofs.Common.{◌≡◌, ℕ, Bool, List, Option, None}
use Rattle.std.specs.Prelude.{⊤, Result, Ok, Err, IfErr, OnOk}
use Rattle.blocks.specs.declared.disk.Disk.{Ghosts}
use Rattle.model.specs.Verdict.{verdict}
use Rattle.transfer.specs.Putting.{IsPut, IsUnput}
use Rattle.transfer.specs.Stopped.{StopsPut}
use Rattle.transfer.specs.declared.refused.PutRefusal.{PutRefusal}
use Rattle.transfer.specs.declared.refused.PutRefusal.TheVariants as put
use Rattle.commands_changes.specs.PutsOver.{IsUnputOver, PutsOver}

module _ {D N : Type 0} (disk : Ghosts D N) (inum : Option ℕ) (bytes : List ℕ) (last : Bool) (d e : D) (stops : verdict (disk.image d) ≡ None → StopsPut disk inum bytes d e) where
  pub put_over : (r : Result (Unit {0}) PutRefusal) (old new : Option (List ℕ)) → OnOk r (IsPut disk inum bytes last d e old new) → OnOk r (PutsOver disk inum bytes last d e old new)
  put_over (Ok _) old new put = record { put = put; stops = stops put.put.sound }
  put_over (Err r) old new put = tt

  pub unput_over : (r : Result (Unit {0}) PutRefusal) (none : Type 0) → IfErr r (IsUnput disk inum bytes last d e none) → IfErr r (IsUnputOver disk inum bytes last none d e)
  unput_over (Ok _) none why = tt
  unput_over (Err r) none why = record { why = why; stops = stops }

-- whatever is said of the output besides
pub unput_anyhow : {D N : Type 0} (disk : Ghosts D N) (inum : Option ℕ) (bytes : List ℕ) (last : Bool) (d e : D) (none : Type 0) (r : PutRefusal) → IsUnput disk inum bytes last d e none r → IsUnput disk inum bytes last d e ⊤ r
unput_anyhow disk inum bytes last d e none (put.Check fault) why = (why.0, tt)
unput_anyhow disk inum bytes last d e none put.NoFile why = (why.0, tt)
unput_anyhow disk inum bytes last d e none put.NotAFile why = (why.0, tt)
unput_anyhow disk inum bytes last d e none put.TooBig why = (why.0, tt)
unput_anyhow disk inum bytes last d e none put.Full why = (why.0, tt)
unput_anyhow disk inum bytes last d e none put.NoMemory why = (why.0, tt)
unput_anyhow disk inum bytes last d e none (put.Unopened fault) why = (why.0, tt)
unput_anyhow disk inum bytes last d e none put.NoInode why = (why.0, tt)
unput_anyhow disk inum bytes last d e none (put.Disk cause) why = (why.0, tt)
unput_anyhow disk inum bytes last d e none put.Output why = why
