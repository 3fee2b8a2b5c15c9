-- The object of a fault of an image.
use Rattle.std.specs.Prelude.{ℕ, List, [], ◌++◌, codes}
use Rattle.messages.specs.Telling.{check_telling}
use Rattle.model.specs.declared.types.fault.CheckFault.{CheckFault}
use Rattle.model.specs.declared.types.fault.CheckFault.TheVariants as check
use Rattle.json_lines.specs.Fields.{first_number, number_field, word_field}

-- the inode or the block that it names
abbrev pub place_field : CheckFault → List ℕ
place_field check.BadMagic = []
place_field check.BadGeometry = []
place_field check.BadLog = []
place_field (check.BadType i) = number_field (codes "inode") i
place_field (check.BadSize i) = number_field (codes "inode") i
place_field (check.BadAddress i) = number_field (codes "inode") i
place_field (check.TwiceUsed b) = number_field (codes "block") b
place_field (check.UsedButFree b) = number_field (codes "block") b
place_field (check.LostBlock b) = number_field (codes "block") b
place_field check.Disk = []
place_field check.NoMemory = []

-- THE OBJECT OF A FAULT: its number among those of a check, its name, and what it names
unfoldable pub fault_object : CheckFault → List ℕ
fault_object fault =
    first_number (codes "code") (check_telling fault).number
    ++ word_field (codes "name") (check_telling fault).name ++ place_field fault ++ codes "}"
