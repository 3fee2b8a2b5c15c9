-- The bytes of blocks, without the zeroes at their end.
use Rattle.std.specs.Prelude.{ℕ, zero, suc, ◌-◌, ◌==◌, if◌then◌else◌, List, [], take, length, Option, Some, None, slice_get, slice_index}
use Rattle.json_lines.specs.Fields.{bytes_field}
use Rattle.json_lines.specs.declared.written.Written.{Written}

-- how many of the first n bytes are left without the zeroes at their end
abbrev pub kept_count : List ℕ → ℕ → ℕ
kept_count bytes zero = 0
kept_count bytes (suc n) = if slice_index bytes n == 0 then kept_count bytes n else suc n

-- bytes without the zeroes at their end
abbrev pub without_last_zeroes : List ℕ → List ℕ
without_last_zeroes bytes = take (kept_count bytes (length bytes)) bytes

-- the bytes of a block: those behind these are zeroes
abbrev pub block_field : List ℕ → List ℕ
block_field bytes = bytes_field (without_last_zeroes bytes)

-- those of a write, and nothing where there is none
abbrev pub content_of : Option Written → List ℕ
content_of None = []
content_of (Some write) = block_field write.bytes

-- those of the write of that number, from 1, among a run's writes
abbrev pub write_field : List Written → ℕ → List ℕ
write_field written n = content_of (slice_get written (n - 1))
