-- The files of the new image, stage by stage.
use Rattle.std.specs.Prelude.{ℕ, ◌-◌, ◌==◌, ◌&&◌, nat_le, nat_lt, if◌then◌else◌, List, length, map, Option, None, slice_index}
use Rattle.std.specs.List.{range_with_len}
use Rattle.model.specs.declared.types.image.File.{File}
use Rattle.model.specs.Files.{Files, file_in}
use Rattle.calls.specs.Files.{empty_file, without_bytes}

-- what `at` gives, for each of so many numbers from 0 on
abbrev pub listed : ℕ → (ℕ → Option File) → Files
listed count at = map at (range_with_len 0 count)

-- the type of number i, where those of the numbers from 1 on are known
abbrev pub kind_at : List ℕ → ℕ → ℕ
kind_at kinds i = slice_index kinds (i - 1)

-- until it is removed, a plain file holds the place of a free number
abbrev pub kind_or_plain : ℕ → ℕ
kind_or_plain kind = if kind == 0 then 2 else kind

-- what stands at number i once the first k were made
abbrev pub made_at : List ℕ → ℕ → ℕ → Option File
made_at kinds k i =
    if nat_lt 0 i && nat_le i k then empty_file (kind_or_plain (kind_at kinds i)) else None

-- what stands there once the free ones of the first k were removed
abbrev pub kept_at : List ℕ → ℕ → ℕ → Option File
kept_at kinds k i =
    if nat_le i k && (kind_at kinds i == 0) then None else made_at kinds (length kinds) i

-- what stands there once the files of the first k were written
abbrev pub written_at : Files → ℕ → ℕ → Option File
written_at files k i = if nat_le i k then file_in files i else without_bytes (file_in files i)
