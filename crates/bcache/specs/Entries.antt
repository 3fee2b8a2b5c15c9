-- The table in which the slot of a block is looked up.
use Rattle.std.specs.Prelude.{◌≡◌, ◌<◌, ◌%◌, ◌==◌, nat_le, if◌then◌else◌, ℕ, Bool, List, true, false, length, slice_index, slice_index_or, slice_set, Option, Some, None}
use Rattle.bcache.specs.declared.types.Buffer.{Buffer}
use Rattle.bcache.specs.Buffers.{Buffers, IsCache, buffer, empty_buffer}
use Rattle.bcache.specs.Current.{is_of}
use Rattle.bcache.specs.Order.{buffer_count}

-- its entries; blocks whose numbers differ by so many share one
abbrev pub entry_count : ℕ
entry_count = 8192

-- the entry of blocks of which several may have slots
abbrev pub several : ℕ
several = 40

abbrev pub entry_for : List ℕ → ℕ → ℕ
entry_for table b = slice_index table (b % entry_count)

-- an entry that is a slot allows no other one
abbrev pub Allows : ℕ → ℕ → Type 0
Allows entry i = entry < buffer_count → entry ≡ i

-- what is true of every cache, and the entry of a slot's block allows the slot
pub record IsEntered (table : List ℕ) (c : Buffers) : Type 0 where
  pub cache : IsCache c
  pub many : length table ≡ entry_count
  pub each : (i b : ℕ) → is_of b (buffer c i) ≡ true → Allows (entry_for table b) i

abbrev pub shares : ℕ → Option ℕ → Bool
shares b None = false
shares b (Some other) = other % entry_count == b % entry_count

-- an entry's slot is that of a block that shares it, or it stands for several
abbrev pub is_shared : List Buffer → ℕ → ℕ → Bool
is_shared slots entry b =
    if nat_le (length slots) entry then true
    else shares b (slice_index_or slots entry empty_buffer).block

-- a slot is that of a block
abbrev pub with_slot : List ℕ → List Buffer → ℕ → ℕ → List ℕ
with_slot table slots b i = slice_set table (b % entry_count)
    (if is_shared slots (entry_for table b) b then several else i)
