-- The operations of a whole change, in one transaction, and the tree that they leave.
use Rattle.std.specs.Prelude.{◌≡◌, ◌≢◌, ◌⊎◌, ℕ, ◌<◌, ◌^◌, List, Some, None}
use Rattle.model.specs.declared.types.image.Form.{Form}
use Rattle.model.specs.declared.types.operations.Op.TheVariants.{Create, Write, Remove}
use Rattle.model.specs.declared.types.operations.Reply.{Reply}
use Rattle.model.specs.declared.types.operations.Reply.TheVariants.{Made, Wrote, Done}
use Rattle.model.specs.Files.{Files, file_in}
use Rattle.model.specs.Operations.{after}
use Rattle.directories.specs.declared.entries.EntryWrite.{EntryWrite}
use Rattle.directories.specs.Entries.{entry_size}
use Rattle.directories.specs.Sizes.{AreSized}
use Rattle.directories.specs.Trees.{directory_in, directory_kind, new_directory, number_of, parent_name, root, IsDirectory, IsDown, IsEmpty, IsNamedOnce, IsOutside, IsTree, StaysTree}
use Rattle.directories.specs.TreeChanges.{empty_file, AddsDirectory, AddsName, DropsName, MovesDirectory, MovesName}
use Rattle.directories.specs.Writes.{operation_of, Links, MayHold, Repoints, Unlinks}

-- A file is made and then linked. Where no block is free for one more entry, nothing is written: the
-- file is there without a name, and is removed again in the same transaction.
abbrev pub MakesFileWhole : Type 0
MakesFileWhole = (form : Form) (files made new : Files) (from number kind : ℕ) (name : List ℕ)
    (write : EntryWrite) (reply : Reply)
    → AreSized form files
    → IsTree files → IsDirectory files from → IsDown name → kind ≢ directory_kind
    → after form files (Create kind) (Made number) ≡ Some made
    → Links (directory_in files from) name number write
    → MayHold (directory_in files from) write.place
    → after form made (operation_of from write) reply ≡ Some new
    → ((reply ≡ Wrote entry_size) × AddsName files new from name number (empty_file kind)
    × StaysTree files new)
    ⊎ ((reply ≡ Wrote 0) × (new ≡ made))

-- A directory is made, its two entries are written, and then it is linked.
abbrev pub MakesDirectoryWhole : Type 0
MakesDirectoryWhole = (form : Form) (files made filled new : Files) (from number : ℕ)
    (name : List ℕ) (write : EntryWrite) (reply : Reply)
    → AreSized form files
    → IsTree files → IsDirectory files from → IsDown name → 0 < from → from < 2 ^ 16
    → after form files (Create directory_kind) (Made number) ≡ Some made
    → after form made (Write number 0 (new_directory number from)) (Wrote 32) ≡ Some filled
    → Links (directory_in files from) name number write
    → MayHold (directory_in files from) write.place
    → after form filled (operation_of from write) reply ≡ Some new
    → ((reply ≡ Wrote entry_size) × AddsDirectory files new from name number × StaysTree files new)
    ⊎ ((reply ≡ Wrote 0) × (new ≡ filled))

-- A file's only name is unlinked and then the file removed, neither of which is refused.
abbrev pub RemovesFileWhole : Type 0
RemovesFileWhole = (form : Form) (files freed new : Files) (from number : ℕ) (name : List ℕ)
    (write : EntryWrite) (first second : Reply)
    → AreSized form files
    → IsTree files → IsDirectory files from → IsDown name
    → number_of files from name ≡ Some number → IsNamedOnce files number
    → (IsDirectory files number → IsEmpty (directory_in files number))
    → Unlinks (directory_in files from) name write
    → after form files (operation_of from write) first ≡ Some freed
    → after form freed (Remove number) second ≡ Some new
    → (first ≡ Wrote entry_size) × (second ≡ Done)
    × DropsName files new from name number × StaysTree files new

-- In one directory a file's old name is unlinked and then its new one linked, neither of which is
-- refused.
abbrev pub RenamesFileWhole : Type 0
RenamesFileWhole = (form : Form) (files freed new : Files) (from number : ℕ) (old name : List ℕ)
    (unlink link : EntryWrite) (first second : Reply)
    → AreSized form files
    → IsTree files → IsDirectory files from → IsDown old → IsDown name
    → number_of files from old ≡ Some number → number_of files from name ≡ None
    → Unlinks (directory_in files from) old unlink
    → after form files (operation_of from unlink) first ≡ Some freed
    → Links (directory_in freed from) name number link
    → after form freed (operation_of from link) second ≡ Some new
    → (first ≡ Wrote entry_size) × (second ≡ Wrote entry_size)
    × MovesName files new from old from name number × StaysTree files new

-- A file's new name is linked in another directory, which may find no block, and then its old one is
-- unlinked, which is not refused.
abbrev pub MovesFileWhole : Type 0
MovesFileWhole = (form : Form) (files both new : Files) (from to number : ℕ) (old name : List ℕ)
    (unlink link : EntryWrite) (reply : Reply)
    → AreSized form files
    → IsTree files → IsDirectory files from → IsDirectory files to → from ≢ to
    → IsDown old → IsDown name → (IsDirectory files number → ⊥)
    → number_of files from old ≡ Some number
    → Links (directory_in files to) name number link
    → MayHold (directory_in files to) link.place
    → after form files (operation_of to link) (Wrote entry_size) ≡ Some both
    → Unlinks (directory_in files from) old unlink
    → after form both (operation_of from unlink) reply ≡ Some new
    → (reply ≡ Wrote entry_size) × MovesName files new from old to name number × StaysTree files new

-- A directory's new name is linked in another one outside it, its old one is unlinked, and its name
-- for its parent leads to the new one.
abbrev pub MovesDirectoryWhole : Type 0
MovesDirectoryWhole = (form : Form) (files both mid new : Files) (from to number : ℕ)
    (old name : List ℕ) (unlink link up : EntryWrite) (first second : Reply)
    → AreSized form files
    → IsTree files → IsDirectory files from → IsDirectory files to → from ≢ to
    → IsDirectory files number → IsOutside files number to → IsDown old → IsDown name
    → number_of files from old ≡ Some number
    → Links (directory_in files to) name number link
    → MayHold (directory_in files to) link.place
    → after form files (operation_of to link) (Wrote entry_size) ≡ Some both
    → Unlinks (directory_in files from) old unlink
    → after form both (operation_of from unlink) first ≡ Some mid
    → Repoints (directory_in files number) parent_name to up
    → after form mid (operation_of number up) second ≡ Some new
    → (first ≡ Wrote entry_size) × (second ≡ Wrote entry_size)
    × MovesDirectory files new from old to name number × StaysTree files new

-- The root is made where no file is, and its two entries are written.
abbrev pub MakesRootWhole : Type 0
MakesRootWhole = (form : Form) (files made new : Files)
    → ((i : ℕ) → i ≢ root → file_in files i ≡ None)
    → after form files (Create directory_kind) (Made root) ≡ Some made
    → after form made (Write root 0 (new_directory root root)) (Wrote 32) ≡ Some new
    → IsTree new
