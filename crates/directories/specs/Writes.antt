-- What a write of one entry makes of a directory's bytes.
use Rattle.std.specs.Prelude.{◌≡◌, ◌≢◌, ◌⊎◌, ℕ, ◌*◌, ◌^◌, ◌%◌, ◌<◌, ◌≤◌, List, length, replicate, position, unwrap_or, IsSome, Some, None}
use Rattle.blocks.specs.Block.{block_size, overwritten}
use Rattle.model.specs.declared.types.operations.Op.{Op}
use Rattle.model.specs.declared.types.operations.Op.TheVariants.{Write}
use Rattle.directories.specs.declared.entries.EntryWrite.{EntryWrite}
use Rattle.directories.specs.declared.entries.LinkFault.{LinkFault}
use Rattle.directories.specs.declared.entries.LinkFault.TheVariants.{Exists, Full}
use Rattle.directories.specs.Entries.{entry_size, most_entries, entries_of, entry_bytes, is_free, place_of, lookup, AreNamed, HasOnce, IsStored}

-- the number of the file whose bytes are the directory
abbrev pub directory_number : ℕ
directory_number = 1

-- the operation that makes the write in the directory of a number
abbrev pub operation_of : ℕ → EntryWrite → Op
operation_of directory write = Write directory (entry_size * write.place) write.entry

-- the directory's bytes after the write
abbrev pub written : List ℕ → EntryWrite → List ℕ
written bytes write = overwritten bytes (entry_size * write.place) write.entry

-- the first free place, or the one behind the last entry
abbrev pub free_place : List ℕ → ℕ
free_place bytes = unwrap_or (position is_free (entries_of bytes)) (length (entries_of bytes))

-- an entry may be written there: one is there, or there are few
abbrev pub MayHold : List ℕ → ℕ → Type 0
MayHold bytes place = (place < most_entries) ⊎ (place < length (entries_of bytes))

-- no entry is free, and there are as many as there may be
abbrev pub IsFull : List ℕ → Type 0
IsFull bytes = (most_entries ≤ free_place bytes) × (free_place bytes ≡ length (entries_of bytes))

-- another entry begins another block: none is free, and those that are there fill their blocks
pub record NeedsBlock (bytes : List ℕ) : Type 0 where
  pub begins : (entry_size * free_place bytes) % block_size ≡ 0
  pub behind : length bytes ≤ entry_size * free_place bytes

-- the write links a number under a name that led nowhere
pub record Links (bytes name : List ℕ) (number : ℕ) (write : EntryWrite) : Type 0 where
  pub absent : lookup bytes name ≡ None
  pub place : write.place ≡ free_place bytes
  pub entry : write.entry ≡ entry_bytes number name
  pub used : 0 < number
  pub fits : number < 2 ^ 16
  pub stored : IsStored name

-- the write frees the first entry of a name
pub record Unlinks (bytes name : List ℕ) (write : EntryWrite) : Type 0 where
  pub place : place_of bytes name ≡ Some write.place
  pub entry : write.entry ≡ replicate entry_size 0

-- the write gives the first entry of a name another number
pub record Repoints (bytes name : List ℕ) (number : ℕ) (write : EntryWrite) : Type 0 where
  pub place : place_of bytes name ≡ Some write.place
  pub entry : write.entry ≡ entry_bytes number name
  pub used : 0 < number
  pub fits : number < 2 ^ 16
  pub stored : IsStored name

-- Every other name leads where it led before, no name that stood once at most stands twice, and no
-- entry has lost its name.
pub record KeepsOthers (name old new : List ℕ) : Type 0 where
  pub others : (other : List ℕ) → other ≢ name → lookup new other ≡ lookup old other
  pub once : (any : List ℕ) → HasOnce old any → HasOnce new any
  pub named : AreNamed (entries_of old) → AreNamed (entries_of new)

-- why a name can't be linked
abbrev pub IsLinkCause : List ℕ → List ℕ → LinkFault → Type 0
IsLinkCause bytes name Exists = IsSome (lookup bytes name)
IsLinkCause bytes name Full = (lookup bytes name ≡ None) × IsFull bytes
