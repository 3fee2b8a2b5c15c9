-- The log's header, and the image that recovery makes.
use Rattle.std.specs.Prelude.{ℕ, ◌+◌, ◌==◌, ◌&&◌, not, nat_le, nat_lt, min, if◌then◌else◌, Bool, true, List, [], ◌∷◌, take, drop, length, map, slice_set, Option, Some, None}
use Rattle.std.specs.List.{list_any, list_all, position_from, range_with_len}
use Rattle.blocks.specs.Block.{zero_block}
use Rattle.blocks.specs.Disk.{Image, block_at}
use Rattle.model.specs.Format.{log_start, log_capacity, inode_start}
use Rattle.model.specs.Fields.{u32_at, words_of}

-- how many blocks a header's bytes say are logged
abbrev pub logged_in : List ℕ → ℕ
logged_in header = u32_at header 0

-- the homes in a header's bytes: the first that many, at most as many as a log holds
abbrev pub homes_in : List ℕ → List ℕ
homes_in header = take (min (logged_in header) log_capacity) (words_of (drop 4 header))

abbrev pub logged_count : Image → ℕ
logged_count x = logged_in (block_at x log_start)

-- the blocks where the logged ones belong, in the order of logging
abbrev pub homes_of : Image → List ℕ
homes_of x = homes_in (block_at x log_start)

-- no number stands twice
abbrev pub are_distinct : List ℕ → Bool
are_distinct [] = true
are_distinct (h ∷ hs) = not (list_any (λ g. g == h) hs) && are_distinct hs

-- each home lies behind the log and inside an image of that many blocks
abbrev pub are_in_place : List ℕ → ℕ → Bool
are_in_place homes size = list_all (λ h. nat_le inode_start h && nat_lt h size) homes

-- the log has room for what is logged; the homes lie behind the log, inside the image, and differ
abbrev pub is_lawful_log : Image → Bool
is_lawful_log x =
    nat_le (logged_count x) log_capacity && are_in_place (homes_of x) (length x)
    && are_distinct (homes_of x)

-- block b, or the logged one at its place among the homes
abbrev pub block_from_log : Image → ℕ → Option ℕ → List ℕ
block_from_log x b None = block_at x b
block_from_log x b (Some k) = block_at x (log_start + 1 + k)

-- the place of block b among the homes
abbrev pub place_among : List ℕ → ℕ → Option ℕ
place_among homes b = position_from (λ h. h == b) 0 homes

-- block b once the log is copied home; the header is cleared, whatever the homes are
unfoldable pub recovered_block : Image → ℕ → List ℕ
recovered_block x b =
    if b == log_start then zero_block else block_from_log x b (place_among (homes_of x) b)

-- the image that recovery leaves
unfoldable pub recovered : Image → Image
recovered x =
    if logged_count x == 0 then x else map (recovered_block x) (range_with_len 0 (length x))

-- the image with an empty header
abbrev pub cleared : Image → Image
cleared x = slice_set x log_start zero_block
