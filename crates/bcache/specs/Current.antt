-- The image that the layers above the cache see: the disk with what the buffers show.
use Rattle.std.specs.Prelude.{ℕ, ◌+◌, ◌==◌, ◌&&◌, Bool, false, List, [], ◌∷◌, length, map, Option, Some, None}
use Rattle.std.specs.List.{filter, range_with_len}
use Rattle.blocks.specs.Disk.{Image, block_at}
use Rattle.bcache.specs.declared.types.Buffer.{Buffer}

abbrev pub is_number_in : ℕ → Option ℕ → Bool
is_number_in n None = false
is_number_in n (Some m) = n == m

abbrev pub holder_count : Option ℕ → ℕ
holder_count None = 0
holder_count (Some pid) = 1

abbrev pub references_of : Buffer → ℕ
references_of b = b.pins + holder_count b.holder

-- a buffer of this block
abbrev pub is_of : ℕ → Buffer → Bool
is_of b buffer = is_number_in b buffer.block

-- a buffer that shows this block
abbrev pub shows : ℕ → Buffer → Bool
shows b buffer = buffer.valid && is_of b buffer

abbrev pub bytes_or : List ℕ → List Buffer → List ℕ
bytes_or bytes [] = bytes
bytes_or bytes (buffer ∷ rest) = buffer.bytes

-- the disk with each valid buffer in its block's place
unfoldable pub current : Image → List Buffer → Image
current disk buffers =
    map (λ b. bytes_or (block_at disk b) (filter (shows b) buffers))
    (range_with_len 0 (length disk))
