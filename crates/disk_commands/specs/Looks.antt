-- What a command over a disk came to.
use Rattle.std.specs.Prelude.{◌≡◌, ℕ, Bool, true, false, List, [], codes, Option, None}
use Rattle.std.specs.Io.KnownBytes.{Appends}
use Rattle.blocks.specs.Calls.{OnlyReads}
use Rattle.blocks.specs.declared.disk.Disk.{Ghosts}
use Rattle.model.specs.Files.{file_count, files_of}
use Rattle.model.specs.Log.{logged_count, recovered}
use Rattle.model.specs.Verdict.{verdict}
use Rattle.wal.specs.Recovery.{Settles}
use Rattle.opening.specs.Recoveries.{IsRecovered}
use Rattle.json_lines.specs.Arrays.{array_text}
use Rattle.json_lines.specs.Counts.{number_object, report_object}
use Rattle.json_lines.specs.Faults.{fault_object}
use Rattle.messages.specs.Output.{copied_text, report_text}
use Rattle.disk_commands.specs.Showing.{Shows}

-- what is printed of a sound image with so many logged blocks and files: a line or an object; where
-- all faults are told as JSON, an array of none
abbrev pub report_in : Bool → Bool → ℕ → ℕ → List ℕ
report_in false all logged files = report_text logged files
report_in true false logged files = report_object logged files
report_in true true logged files = array_text fault_object []

-- how many blocks were copied home, as an object or as a line
abbrev pub copied_in : Bool → ℕ → List ℕ
copied_in true copied = number_object (codes "recovered") copied
copied_in false copied = copied_text copied

-- it was checked, and the report of it printed: as JSON or as text, of all faults or of the first
abbrev pub HasReported : {D N : Type 0} → Ghosts D N → Bool → Bool → D → D → Option (List ℕ)
    → Option (List ℕ) → Type 0
HasReported disk json all d e old new = (disk.image e ≡ disk.image d)
    × (verdict (disk.image d) ≡ None)
    × Appends old new (report_in json all (logged_count (disk.image d))
    (file_count (files_of (recovered (disk.image d)))))

-- it was recovered, and how many blocks were copied was printed
abbrev pub HasRecovered : {D N : Type 0} → Ghosts D N → Bool → D → D → Option (List ℕ)
    → Option (List ℕ) → Type 0
HasRecovered disk json d e old new = IsRecovered disk (logged_count (disk.image d)) d e
    × Appends old new (copied_in json (logged_count (disk.image d)))

-- it was recovered, and the bytes of its file of number i written
abbrev pub HasShown : {D N : Type 0} → Ghosts D N → ℕ → D → D → Option (List ℕ)
    → Option (List ℕ) → Type 0
HasShown disk i d e old new =
    IsRecovered disk (logged_count (disk.image d)) d e × Shows (disk.image d) i old new

-- it was only read, and the bytes of its file of number i written
abbrev pub HasRead : {D N : Type 0} → Ghosts D N → ℕ → D → D → Option (List ℕ)
    → Option (List ℕ) → Type 0
HasRead disk i d e old new = OnlyReads disk d e × Shows (disk.image d) i old new

-- the last call to the disk, now e, was a sync that was done, and nothing is held any more
pub record EndsSynced {D N : Type 0} (disk : Ghosts D N) (e : D) : Type 0 where
  pub unsynced : D
  pub image : disk.image e ≡ disk.image unsynced
  pub writes : disk.write_count e ≡ disk.write_count unsynced
  pub settles : Settles disk 1 unsynced e
