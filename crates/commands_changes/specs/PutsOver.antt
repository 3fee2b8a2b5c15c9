-- What became of a disk into whose image bytes were put.
use Rattle.std.specs.Prelude.{◌≡◌, ℕ, Bool, List, Option, None}
use Rattle.blocks.specs.declared.disk.Disk.{Ghosts}
use Rattle.model.specs.Verdict.{verdict}
use Rattle.transfer.specs.Putting.{IsPut, IsUnput}
use Rattle.transfer.specs.Stopped.{StopsPut}
use Rattle.transfer.specs.declared.refused.PutRefusal.{PutRefusal}

-- the bytes were put on the disk d, now e, which was synced at the end where `last` says so, here and
-- below; and what a stop leaves of that
pub record PutsOver {D N : Type 0} (disk : Ghosts D N) (inum : Option ℕ) (bytes : List ℕ)
    (last : Bool) (d e : D) (old new : Option (List ℕ)) : Type 0 where
  pub put : IsPut disk inum bytes last d e old new
  pub stops : StopsPut disk inum bytes d e

-- or they were not, for this reason
pub record IsUnputOver {D N : Type 0} (disk : Ghosts D N) (inum : Option ℕ) (bytes : List ℕ)
    (last : Bool) (none : Type 0) (d e : D) (r : PutRefusal) : Type 0 where
  pub why : IsUnput disk inum bytes last d e none r
  pub stops : verdict (disk.image d) ≡ None → StopsPut disk inum bytes d e
