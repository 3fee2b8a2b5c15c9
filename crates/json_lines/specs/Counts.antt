-- Objects that are the last text of a command, with the line feed.
use Rattle.std.specs.Prelude.{ℕ, List, ◌++◌, codes, decimal}
use Rattle.json_lines.specs.Fields.{first_number, number_field}

-- how many blocks a run wrote, and how many groups are committed
unfoldable pub counts_object : ℕ → ℕ → List ℕ
counts_object writes committed =
    codes "{\"writes\":" ++ decimal writes ++ number_field (codes "committed") committed
    ++ codes "}\n"

-- one number
unfoldable pub number_object : List ℕ → ℕ → List ℕ
number_object name n = first_number name n ++ codes "}\n"

-- what a check found: the blocks in the log, and the files
unfoldable pub found_fields : ℕ → ℕ → List ℕ
found_fields logged files =
    number_field (codes "log") logged ++ number_field (codes "files") files

-- the same of a sound image
unfoldable pub report_object : ℕ → ℕ → List ℕ
report_object logged files = codes "{\"sound\":true" ++ found_fields logged files ++ codes "}\n"
