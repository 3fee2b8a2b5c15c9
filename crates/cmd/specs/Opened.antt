-- The disk in a file that a command opened.
use Rattle.std.specs.Prelude.{◌≡◌, ◌≤◌, ℕ, Bool, List, length, Option}
use Rattle.blocks.specs.Calls.{UnlessHolds}
use Rattle.blocks.specs.Disk.{IsSettled}
use Rattle.blocks.specs.File.{IsReadFrom}
use Rattle.blocks.specs.FileDisk.{file_of}
use Rattle.blocks.specs.declared.disk.Disk.{Ghosts}
use Rattle.blocks.specs.declared.file.FileDisk.{FileDisk}

-- The disk that a file holds, just opened: its blocks were read from the file, one after another,
-- where that tells of its bytes. It holds writes back, and then may hold some already, or doesn't.
pub record IsOpened {F N : Type 0} (remaining : F → Option (List ℕ)) (disk : Ghosts (FileDisk F) N)
    (holds : Bool) (d : FileDisk F) : Type 0 where
  pub some : 1 ≤ length (disk.image d)
  pub at_most : length (disk.image d) ≤ 8191
  pub bytes : IsReadFrom remaining (file_of d) (disk.image d)
  pub kind : disk.holding (disk.name d) ≡ holds
  pub calm : UnlessHolds disk d (IsSettled (disk.image d) (disk.leaves d (disk.moment d)))

-- the disk of a file was opened, and is now another, as P says
abbrev pub OpensDisk : {F N : Type 0} → (F → Option (List ℕ)) → Ghosts (FileDisk F) N → Bool
    → (FileDisk F → FileDisk F → Type 0) → Type 0
OpensDisk {F} remaining disk holds P = (opened : FileDisk F) × ((now : FileDisk F)
    × IsOpened remaining disk holds opened × P opened now)
