-- What the operations of a change, with their replies, make of the names of a tree.
use Rattle.std.specs.Prelude.{◌≡◌, ◌≢◌, ◌⊎◌, ℕ, ◌<◌, ◌^◌, List, Some, None}
use Rattle.model.specs.declared.types.image.File.{File}
use Rattle.model.specs.declared.types.image.Form.{Form}
use Rattle.model.specs.declared.types.operations.Op.{Op}
use Rattle.model.specs.declared.types.operations.Op.TheVariants.{Create, Write, Read, Trunc, Remove, Stat}
use Rattle.model.specs.declared.types.operations.Reply.{Reply}
use Rattle.model.specs.declared.types.operations.Reply.TheVariants.{Made, Wrote, Bytes, Done}
use Rattle.model.specs.Files.{Files, file_in}
use Rattle.model.specs.Operations.{after, part_of, transfer_limit}
use Rattle.directories.specs.declared.entries.EntryWrite.{EntryWrite}
use Rattle.directories.specs.Entries.{entry_size}
use Rattle.directories.specs.Sizes.{AreSized}
use Rattle.directories.specs.Trees.{directory_in, directory_kind, new_directory, number_of, root, IsDirectory, IsDirectoryOf, IsDown, IsEmpty, IsFile, IsNamedOnce, IsOutside, IsTidy, IsTree, StaysTree}
use Rattle.directories.specs.TreeChanges.{directory_file, empty_file, AddsName, DropsName, IsUnnamed, KeepsNames, LeadsTo, MovesDirectory, MovesName}
use Rattle.directories.specs.Writes.{operation_of, Links, MayHold, Repoints, Unlinks}

-- ---- single operations

-- A read brings a directory's bytes from an offset on, as many as one read can.
abbrev pub ReadsPart : Type 0
ReadsPart = (form : Form) (files new : Files) (from offset : ℕ) (bytes : List ℕ)
    → IsDirectory files from
    → after form files (Read from offset transfer_limit) (Bytes bytes) ≡ Some new
    → (bytes ≡ part_of (directory_in files from) offset transfer_limit) × (new ≡ files)

-- A link is written whole, or nothing of it where no block is free for one more entry.
abbrev pub LinkLeads : Type 0
LinkLeads = (form : Form) (files new : Files) (from number : ℕ) (name : List ℕ)
    (write : EntryWrite) (reply : Reply)
    → AreSized form files → IsDirectory files from → IsTidy (directory_in files from)
    → Links (directory_in files from) name number write
    → MayHold (directory_in files from) write.place
    → after form files (operation_of from write) reply ≡ Some new
    → ((reply ≡ Wrote entry_size) × LeadsTo files new from name (Some number))
    ⊎ ((reply ≡ Wrote 0) × (new ≡ files))

-- An unlink is written whole.
abbrev pub UnlinkLeads : Type 0
UnlinkLeads = (form : Form) (files new : Files) (from : ℕ) (name : List ℕ)
    (write : EntryWrite) (reply : Reply)
    → AreSized form files → IsDirectory files from → IsTidy (directory_in files from)
    → Unlinks (directory_in files from) name write
    → after form files (operation_of from write) reply ≡ Some new
    → (reply ≡ Wrote entry_size) × LeadsTo files new from name None

-- A file is made, which has no name.
abbrev pub CreateMakes : Type 0
CreateMakes = (form : Form) (files new : Files) (kind number : ℕ)
    → after form files (Create kind) (Made number) ≡ Some new
    → IsUnnamed files new number (empty_file kind)

-- The two entries are written into a new directory, or nothing where no block is free.
abbrev pub WriteFills : Type 0
WriteFills = (form : Form) (files made new : Files) (number parent : ℕ) (reply : Reply)
    → IsUnnamed files made number (empty_file directory_kind)
    → after form made (Write number 0 (new_directory number parent)) reply ≡ Some new
    → ((reply ≡ Wrote 32) × IsUnnamed files new number (directory_file number parent))
    ⊎ ((reply ≡ Wrote 0) × (new ≡ made))

-- The file that was made is removed again, and the files are as before.
abbrev pub RemoveUndoes : Type 0
RemoveUndoes = (form : Form) (files made new : Files) (number : ℕ) (file : File) (reply : Reply)
    → IsUnnamed files made number file
    → after form made (Remove number) reply ≡ Some new
    → (reply ≡ Done) × (new ≡ files)

-- An entry was freed, so a link in the same directory is written whole.
abbrev pub RelinkLeads : Type 0
RelinkLeads = (form : Form) (files freed new : Files) (from number : ℕ) (old name : List ℕ)
    (unlink link : EntryWrite) (reply : Reply)
    → AreSized form files → IsDirectory files from → IsTidy (directory_in files from)
    → Unlinks (directory_in files from) old unlink
    → after form files (operation_of from unlink) (Wrote entry_size) ≡ Some freed
    → Links (directory_in freed from) name number link
    → after form freed (operation_of from link) reply ≡ Some new
    → (reply ≡ Wrote entry_size) × LeadsTo freed new from name (Some number)

-- An entry that is there is written whole.
abbrev pub RepointLeads : Type 0
RepointLeads = (form : Form) (files new : Files) (from number : ℕ) (name : List ℕ)
    (write : EntryWrite) (reply : Reply)
    → AreSized form files → IsDirectory files from → IsTidy (directory_in files from)
    → Repoints (directory_in files from) name number write
    → after form files (operation_of from write) reply ≡ Some new
    → (reply ≡ Wrote entry_size) × LeadsTo files new from name (Some number)

-- an operation that makes and removes no file, and changes no directory
abbrev pub IsPlain : Files → Op → Type 0
IsPlain files (Create kind) = ⊥
IsPlain files (Write i off bytes) = IsDirectory files i → ⊥
IsPlain files (Read i off n) = Unit {0}
IsPlain files (Trunc i) = IsDirectory files i → ⊥
IsPlain files (Remove i) = ⊥
IsPlain files (Stat i) = Unit {0}
IsPlain files (Op.SetAttribute i a) = IsDirectory files i → ⊥

-- It leaves each name as it was, whatever it was answered.
abbrev pub PlainKeeps : Type 0
PlainKeeps = (form : Form) (files new : Files) (op : Op) (reply : Reply)
    → IsPlain files op → after form files op reply ≡ Some new → KeepsNames files new

-- ---- changes

-- a new file is no directory, or has the two entries alone
abbrev pub IsNew : File → ℕ → ℕ → Type 0
IsNew file number parent = file.kind ≡ directory_kind
    → IsDirectoryOf file.bytes number parent × IsEmpty file.bytes

-- A new file is linked.
abbrev pub LinkAdds : Type 0
LinkAdds = (files made new : Files) (from number : ℕ) (name : List ℕ) (file : File)
    → IsDirectory files from → IsUnnamed files made number file
    → number_of files from name ≡ None → LeadsTo made new from name (Some number)
    → AddsName files new from name number file

-- A name is unlinked, and its file removed, which is not refused.
abbrev pub RemoveDrops : Type 0
RemoveDrops = (form : Form) (files freed new : Files) (from number : ℕ) (name : List ℕ)
    (reply : Reply)
    → IsFile files number → number ≢ from
    → number_of files from name ≡ Some number → LeadsTo files freed from name None
    → after form freed (Remove number) reply ≡ Some new
    → (reply ≡ Done) × DropsName files new from name number

-- A name is unlinked, and then a new one linked to its file.
abbrev pub LinkMoves : Type 0
LinkMoves = (files freed new : Files) (from to number : ℕ) (old name : List ℕ)
    → IsDirectory files from → IsDirectory files to
    → number_of files from old ≡ Some number → number_of files to name ≡ None
    → LeadsTo files freed from old None → LeadsTo freed new to name (Some number)
    → MovesName files new from old to name number

-- A new name is linked to a file, and then its old one unlinked.
abbrev pub UnlinkMoves : Type 0
UnlinkMoves = (files both new : Files) (from to number : ℕ) (old name : List ℕ)
    → IsDirectory files from → IsDirectory files to
    → number_of files from old ≡ Some number → number_of files to name ≡ None
    → LeadsTo files both to name (Some number) → LeadsTo both new from old None
    → MovesName files new from old to name number

-- A file of another type is no new directory, and one with the two entries alone is one.
abbrev pub FilesAreNew : Type 0
FilesAreNew = ((kind number parent : ℕ) → kind ≢ directory_kind
    → IsNew (empty_file kind) number parent)
    × ((number parent : ℕ) → 0 < number → number < 2 ^ 16 → 0 < parent → parent < 2 ^ 16
    → IsNew (directory_file number parent) number parent)

-- ---- what stays a tree, in which no file has several names that had one at most

-- The root with its two entries alone is a tree.
abbrev pub RootIsTree : Type 0
RootIsTree = (files : Files) → file_in files root ≡ Some (directory_file root root)
    → ((i : ℕ) → i ≢ root → file_in files i ≡ None)
    → IsTree files

-- A tree stays one where a file is added under a name.
abbrev pub AddingKeeps : Type 0
AddingKeeps = (files new : Files) (from number : ℕ) (name : List ℕ) (file : File)
    → IsTree files → IsDirectory files from → IsDown name → IsNew file number from
    → AddsName files new from name number file
    → StaysTree files new

-- A tree stays one where a file is dropped with its only name, but for a directory with files in it.
abbrev pub DroppingKeeps : Type 0
DroppingKeeps = (files new : Files) (from number : ℕ) (name : List ℕ)
    → IsTree files → IsDirectory files from → IsDown name → IsNamedOnce files number
    → (IsDirectory files number → IsEmpty (directory_in files number))
    → DropsName files new from name number
    → StaysTree files new

-- A tree stays one where a file has another name, if it is no directory or stays in its own.
abbrev pub MovingKeeps : Type 0
MovingKeeps = (files new : Files) (from to number : ℕ) (old name : List ℕ)
    → IsTree files → IsDirectory files from → IsDirectory files to → IsDown old → IsDown name
    → (IsDirectory files number → from ≡ to)
    → MovesName files new from old to name number
    → StaysTree files new

-- A tree stays one where a directory moves to another one that is not below it.
abbrev pub MovingDirectoryKeeps : Type 0
MovingDirectoryKeeps = (files new : Files) (from to number : ℕ) (old name : List ℕ)
    → IsTree files → IsDirectory files from → IsDirectory files to → IsDirectory files number
    → IsDown old → IsDown name → IsOutside files number to
    → MovesDirectory files new from old to name number
    → StaysTree files new

-- A tree stays one where the files that are no directories are written.
abbrev pub KeepingKeeps : Type 0
KeepingKeeps = (files new : Files) → IsTree files → KeepsNames files new → StaysTree files new
