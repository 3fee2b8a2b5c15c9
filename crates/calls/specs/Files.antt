-- What changes make of the files on a disk.
use Rattle.std.specs.Prelude.{◌≡◌, ◌≢◌, ⊤, ℕ, ◌+◌, ◌*◌, ◌<◌, ◌≤◌, Bool, true, false, List, [], ◌++◌, length, take, Option, Some, None, slice_set}
use Rattle.blocks.specs.Disk.{Image}
use Rattle.model.specs.declared.types.image.Form.{Form}
use Rattle.model.specs.declared.types.image.File.{File}
use Rattle.model.specs.declared.types.operations.Attribute.{Attribute}
use Rattle.model.specs.declared.types.operations.Attribute.TheVariants.{Links, Size}
use Rattle.model.specs.Files.{Files, file_in, files_of}
use Rattle.model.specs.Layout.{greatest_size, is_marked}
use Rattle.model.specs.Operations.{transfer_limit, with_attribute, with_bytes}
use Rattle.calls.specs.Calls.{image_on}
use Rattle.calls.specs.Stepping.{Plain}

-- the files on a kernel's disk
abbrev pub files_on : {D : Type 0} → (D → Image) → Plain D → Files
files_on image k = files_of (image_on image k)

-- an empty file of that type
abbrev pub empty_file : ℕ → Option File
empty_file kind = Some (record { kind = kind; links = 1; bytes = [] })

-- how many bytes a file has, if there is one
abbrev pub size_of : Option File → Option ℕ
size_of None = None
size_of (Some file) = Some (length file.bytes)

-- the same file without its bytes
abbrev pub without_bytes : Option File → Option File
without_bytes None = None
without_bytes (Some file) = with_bytes file []

-- the same file with an attribute set
abbrev pub with_value : Option File → Attribute → Option File
with_value None a = None
with_value (Some file) a = Some (with_attribute file a)

-- there is a file, and a length is no greater than its own
abbrev pub CanSet : Option File → Attribute → Type 0
CanSet None a = ⊥
CanSet (Some file) (Links n) = ⊤
CanSet (Some file) (Size n) = n ≤ length file.bytes

-- the same file with more bytes behind its own
abbrev pub with_more : Option File → List ℕ → Option File
with_more None bytes = None
with_more (Some file) bytes = with_bytes file (file.bytes ++ bytes)

-- the files once file i was emptied
abbrev pub emptied : Files → ℕ → Files
emptied files i = slice_set files i (without_bytes (file_in files i))

-- the same file with so many links
abbrev pub with_count : Option File → ℕ → Option File
with_count o n = with_value o (Links n)

-- there is a file of n bytes at least
abbrev pub HasBytes : Option File → ℕ → Type 0
HasBytes o n = CanSet o (Size n)

-- the files once an attribute of file i was set
abbrev pub files_set : Files → ℕ → Attribute → Files
files_set files i a = slice_set files i (with_value (file_in files i) a)

-- the files once file i was given n links
abbrev pub relinked : Files → ℕ → ℕ → Files
relinked files i n = files_set files i (Links n)

-- the files once file i was cut to its first n bytes
abbrev pub resized : Files → ℕ → ℕ → Files
resized files i n = files_set files i (Size n)

-- the files once these bytes were written behind those of file i
abbrev pub appended : Files → ℕ → List ℕ → Files
appended files i bytes = slice_set files i (with_more (file_in files i) bytes)

-- an empty file was made at the lowest free number
pub record MakesFile (kind i : ℕ) (old new : Files) : Type 0 where
  pub some : 1 ≤ i
  pub below : i < length old
  pub free : file_in old i ≡ None
  pub lowest : (j : ℕ) → 1 ≤ j → j < i → file_in old j ≢ None
  pub files : new ≡ slice_set old i (empty_file kind)

-- no file was made, since each number is taken
pub record MakesNone (old new : Files) : Type 0 where
  pub full : (j : ℕ) → 1 ≤ j → j < length old → file_in old j ≢ None
  pub files : new ≡ old

-- what a creation makes of the files, by its answer
abbrev pub Creates : ℕ → Option ℕ → Files → Files → Type 0
Creates kind (Some i) old new = MakesFile kind i old new
Creates kind None old new = MakesNone old new

-- So many bytes may be written at once behind those of a file, whose end is at `off`: no more than
-- one write moves, and then it is no longer than a file of that form can be.
pub record MayAppend (form : Form) (file : Option File) (off count : ℕ) : Type 0 where
  pub size : size_of file ≡ Some off
  pub few : count ≤ transfer_limit
  pub short : off + count ≤ greatest_size form

-- the same of as many bytes as two writes move
pub record MayAppendTwo (form : Form) (file : Option File) (off count : ℕ) : Type 0 where
  pub size : size_of file ≡ Some off
  pub few : count ≤ 2 * transfer_limit
  pub short : off + count ≤ greatest_size form

-- no block of an image is free
abbrev pub IsFull : Image → Type 0
IsFull x = (b : ℕ) → b < length x → is_marked x b ≡ true

-- only the first of these bytes were written behind those of file i, and no block is free
pub record AppendsPart (i : ℕ) (bytes : List ℕ) (x y : Image) : Type 0 where
  pub count : ℕ
  pub fewer : count < length bytes
  pub files : files_of y ≡ appended (files_of x) i (take count bytes)
  pub full : IsFull y

-- what is made of an image where bytes are written behind those of file i: all of them, or not
abbrev pub Appends : Bool → ℕ → List ℕ → Image → Image → Type 0
Appends true i bytes x y = files_of y ≡ appended (files_of x) i bytes
Appends false i bytes x y = AppendsPart i bytes x y
