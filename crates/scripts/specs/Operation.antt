-- The table of operations: what a line's fields write.
use Rattle.std.specs.Prelude.{ℕ, List, [], ◌∷◌, Option, Some, None, ◌==◌, codes, option_map, replicate, if◌then◌else◌}
use Rattle.std.specs.List.{slice_split}
use Rattle.std.specs.Str.{bytes_eq}
use Rattle.model.specs.declared.types.operations.Attribute.TheVariants.{Links, Size}
use Rattle.model.specs.declared.types.operations.Op.{Op}
use Rattle.model.specs.declared.types.operations.Op.TheVariants.{Create, Write, Read, Trunc, Remove, Stat, SetAttribute}
use Rattle.scripts.specs.Field.{◌>>=◌, byte_of, content_of}
use Rattle.scripts.specs.Number.{number_of, number_up_to}

-- `create T`, `trunc I`, `remove I` and `stat I`
unfoldable pub short_of : List ℕ → List ℕ → Option Op
short_of verb argument =
    if bytes_eq verb (codes "create") then option_map Create (number_up_to 65535 argument)
    else if bytes_eq verb (codes "trunc") then option_map Trunc (number_of argument)
    else if bytes_eq verb (codes "remove") then option_map Remove (number_of argument)
    else if bytes_eq verb (codes "stat") then option_map Stat (number_of argument)
    else None

-- `I N`
unfoldable pub links_of : List ℕ → List ℕ → Option Op
links_of inode count = do
  i ← number_of inode
  n ← number_up_to 65535 count
  Some (SetAttribute i (Links n))

-- `I N`
unfoldable pub resize_of : List ℕ → List ℕ → Option Op
resize_of inode size = do
  i ← number_of inode
  n ← number_of size
  Some (SetAttribute i (Size n))

-- the operation of a verb with two arguments
unfoldable pub attribute_of : List ℕ → List ℕ → List ℕ → Option Op
attribute_of verb inode value =
    if bytes_eq verb (codes "links") then links_of inode value
    else if bytes_eq verb (codes "resize") then resize_of inode value
    else None

-- `I OFF HEX`
unfoldable pub write_of : List ℕ → List ℕ → List ℕ → Option Op
write_of inode offset digits = do
  i ← number_of inode
  off ← number_of offset
  bytes ← content_of digits
  Some (Write i off bytes)

-- `I OFF N`
unfoldable pub read_of : List ℕ → List ℕ → List ℕ → Option Op
read_of inode offset count = do
  i ← number_of inode
  off ← number_of offset
  n ← number_of count
  Some (Read i off n)

-- `I OFF N XX`
unfoldable pub fill_of : List ℕ → List ℕ → List ℕ → List ℕ → Option Op
fill_of inode offset count digits = do
  i ← number_of inode
  off ← number_of offset
  n ← number_up_to 4096 count
  value ← byte_of digits
  Some (Write i off (replicate n value))

-- the operation of a verb with three arguments
unfoldable pub write_or_read_of : List ℕ → List ℕ → List ℕ → List ℕ → Option Op
write_or_read_of verb inode offset last =
    if bytes_eq verb (codes "write") then write_of inode offset last
    else if bytes_eq verb (codes "read") then read_of inode offset last
    else None

-- the operation of a verb and its arguments
unfoldable pub operation_of : List (List ℕ) → Option Op
operation_of (verb ∷ argument ∷ []) = short_of verb argument
operation_of (verb ∷ inode ∷ value ∷ []) = attribute_of verb inode value
operation_of (verb ∷ inode ∷ offset ∷ last ∷ []) = write_or_read_of verb inode offset last
operation_of (verb ∷ inode ∷ offset ∷ count ∷ digits ∷ []) =
    if bytes_eq verb (codes "fill") then fill_of inode offset count digits else None
operation_of _ = None

-- the process in front of an operation, and the operation
unfoldable pub process_and_operation : List (List ℕ) → Option (ℕ × Op)
process_and_operation (process ∷ fields) = do
  pid ← number_up_to 31 process
  op ← operation_of fields
  Some (pid, op)
process_and_operation [] = None

-- the fields of a line, with one space between two of them
abbrev pub fields_of : List ℕ → List (List ℕ)
fields_of line = slice_split (λ byte. byte == 32) line

-- the process of a line, and its operation
abbrev pub statement_of : List ℕ → Option (ℕ × Op)
statement_of line = process_and_operation (fields_of line)
