-- A file made in a tree.
use Rattle.std.specs.Prelude.{⊤, Bool, Err, List, None, Ok, Option, Result, Some, false, length, true, ℕ, ◌+◌, ◌^◌, ◌<◌, ◌==◌, ◌≡◌, ◌≢◌, ◌⊎◌}
use Rattle.blocks.specs.Disk.{Image}
use Rattle.model.specs.declared.types.image.File.{File}
use Rattle.model.specs.declared.types.operations.Op.TheVariants.{Write}
use Rattle.model.specs.declared.types.operations.Reply.{Reply}
use Rattle.model.specs.declared.types.operations.Reply.TheVariants.{Wrote}
use Rattle.model.specs.Files.{Files, file_in}
use Rattle.calls.specs.Calls.{ShortIsFull}
use Rattle.calls.specs.Stepping.{Plain}
use Rattle.calls.specs.Transactions.{image_seen}
use Rattle.directories.specs.declared.entries.EntryWrite.{EntryWrite}
use Rattle.directories.specs.declared.entries.LinkFault.{LinkFault}
use Rattle.directories.specs.declared.entries.LinkFault.TheVariants as link_fault
use Rattle.directories.specs.declared.refusal.Refusal.{Refusal}
use Rattle.directories.specs.declared.refusal.Refusal.TheVariants.{NotFound, NotADirectory, IsRoot, Exists, Full, NoNumber, NoBlock, IsADirectory, NotEmpty, IsInside, NotDown, TooManyLinks}
use Rattle.directories.specs.Entries.{entry_size}
use Rattle.names.specs.Inside.{files_seen, form_seen, Answers}
use Rattle.names.specs.Ready.{is_filled}
use Rattle.directories.specs.Sizes.{AreSized}
use Rattle.directories.specs.TreeChanges.{empty_file, AddsDirectory, AddsName, IsUnnamed, directory_file, Relinks}
use Rattle.directories.specs.Counts.{HasMostLinks}
use Rattle.directories.specs.TreeLaws.{IsNew}
use Rattle.directories.specs.Trees.{directory_in, directory_kind, links_of, new_directory, number_of, IsDirectory, IsFile}
use Rattle.directories.specs.Walks.{AtLast}
use Rattle.directories.specs.Writes.{operation_of, IsLinkCause, NeedsBlock}

-- the type of a file that is no directory
abbrev pub file_kind : ℕ
file_kind = 2

-- each number that an entry can hold is that of a file
abbrev pub AreNumbersTaken : Files → Type 0
AreNumbersTaken files = (i : ℕ) → 0 < i → i < length files → i < 2 ^ 16 → IsFile files i

-- an empty file of a type was made, which has no name yet, or none was, since each number is taken
abbrev pub HasCreated : ℕ → Files → Files → Option ℕ → Type 0
HasCreated kind files new None = (new ≡ files) × AreNumbersTaken files
HasCreated kind files new (Some number) =
    IsUnnamed files new number (empty_file kind) × (0 < number)

-- A new file was made, which has no name yet; or it was not, since each number is taken or, where it
-- needs blocks, for want of one.
abbrev pub HasCreatedNew : Type 0 → (ℕ → ℕ → File) → ℕ → Files → Files → Result ℕ Refusal → Type 0
HasCreatedNew blocks file parent files new (Ok number) =
    IsUnnamed files new number (file number parent)
    × IsNew (file number parent) number parent × (0 < number)
HasCreatedNew blocks file parent files new (Err cause) = (new ≡ files)
    × (((cause ≡ NoNumber) × AreNumbersTaken files) ⊎ ((cause ≡ NoBlock) × blocks))

-- a file that was made and not named is gone again, and the files are as before it
abbrev pub Uncreates : ℕ → Files → Files → Type 0
Uncreates number made new =
    (files : Files) (file : File) → IsUnnamed files made number file → new ≡ files

-- a whole entry was written
abbrev pub is_entered : Reply → Bool
is_entered (Wrote count) = count == entry_size
is_entered reply = false

-- the write of an entry of a directory was answered, and whether it is whole
pub record HasEntered {D : Type 0} (image : D → Image) (from : ℕ) (write : EntryWrite)
    (k m : Plain D) (whole : Bool) : Type 0 where
  pub reply : Reply
  pub answers : Answers image (operation_of from write) k m reply
  pub told : whole ≡ is_entered reply
  pub sized : AreSized (form_seen image k) (files_seen image k)
  -- a short one leaves no block free
  pub short : ShortIsFull (image_seen image m) (operation_of from write) reply

-- what a new file is, where it is a directory, and where it is none
abbrev pub IsNewFile : Bool → File → ℕ → ℕ → Type 0
IsNewFile true file number parent = file ≡ directory_file number parent
IsNewFile false file number parent = (file.kind ≢ directory_kind) × (file.links ≡ 1)

-- the count of a directory with another one in it; there is none where the other is no directory, and
-- it is refused where the directory's is the greatest
abbrev pub HasParentCount : Bool → Files → ℕ → Result (Option ℕ) Refusal → Type 0
HasParentCount is_directory files number (Ok None) = is_directory ≡ false
HasParentCount is_directory files number (Ok (Some count)) =
    (is_directory ≡ true) × (count ≡ links_of (file_in files number) + 1)
HasParentCount is_directory files number (Err cause) =
    (is_directory ≡ true) × (cause ≡ TooManyLinks) × HasMostLinks files number

-- a directory has that count
abbrev pub Settles : Files → Files → ℕ → Option ℕ → Type 0
Settles files new number None = new ≡ files
Settles files new number (Some count) = Relinks files new number count

-- an empty file was made under a name of a directory
abbrev pub MakesIn : ℕ → List ℕ → ℕ → Files → Files → Type 0
MakesIn from name number files new = AddsName files new from name number (empty_file file_kind)

-- the refusal of a link
abbrev pub unlinked : LinkFault → Refusal
unlinked link_fault.Exists = Exists
unlinked link_fault.Full = Full

-- Why a new file is not, which counts among its parent's links or does not, and needs blocks of its own
-- or none.
abbrev pub IsUnmadeOr : Type 0 → Type 0 → Files → ℕ → List ℕ → Refusal → Type 0
IsUnmadeOr counts blocks files from name NotADirectory = IsDirectory files from → ⊥
IsUnmadeOr counts blocks files from name Exists =
    IsDirectory files from × IsLinkCause (directory_in files from) name link_fault.Exists
IsUnmadeOr counts blocks files from name Full =
    IsDirectory files from × IsLinkCause (directory_in files from) name link_fault.Full
IsUnmadeOr counts blocks files from name NoNumber =
    IsDirectory files from × (number_of files from name ≡ None) × AreNumbersTaken files
IsUnmadeOr counts blocks files from name NoBlock = IsDirectory files from
    × (number_of files from name ≡ None) × (blocks ⊎ NeedsBlock (directory_in files from))
IsUnmadeOr counts blocks files from name NotFound = ⊥
IsUnmadeOr counts blocks files from name IsRoot = ⊥
IsUnmadeOr counts blocks files from name IsADirectory = ⊥
IsUnmadeOr counts blocks files from name NotEmpty = ⊥
IsUnmadeOr counts blocks files from name IsInside = ⊥
IsUnmadeOr counts blocks files from name NotDown = ⊥
IsUnmadeOr counts blocks files from name TooManyLinks =
    counts × IsDirectory files from × HasMostLinks files from

-- why no file is made, and why no directory is
abbrev pub IsUnmadeIn : Files → ℕ → List ℕ → Refusal → Type 0
IsUnmadeIn = IsUnmadeOr ⊥ ⊥

abbrev pub IsUnmadeDirectoryIn : Files → ℕ → List ℕ → Refusal → Type 0
IsUnmadeDirectoryIn = IsUnmadeOr ⊤ ⊤

-- an empty file was made under the last of these names, in the directory that the others lead to
abbrev pub MakesAt : List (List ℕ) → ℕ → Files → Files → Type 0
MakesAt names = AtLast MakesIn names

-- ---- directories

-- the two entries of a new directory were written, and whether they are whole
pub record HasFilledFor {D : Type 0} (image : D → Image) (number parent : ℕ) (k m : Plain D)
    (whole : Bool) : Type 0 where
  pub reply : Reply
  pub answers : Answers image (Write number 0 (new_directory number parent)) k m reply
  pub told : whole ≡ is_filled reply
  -- a short one leaves no block free
  pub short : ShortIsFull (image_seen image m) (Write number 0 (new_directory number parent)) reply

-- a directory was made under a name of a directory
abbrev pub MakesDirectoryIn : ℕ → List ℕ → ℕ → Files → Files → Type 0
MakesDirectoryIn from name number files new = AddsDirectory files new from name number

-- one was made under the last of these names, in the directory that the others lead to
abbrev pub MakesDirectoryAt : List (List ℕ) → ℕ → Files → Files → Type 0
MakesDirectoryAt names = AtLast MakesDirectoryIn names
