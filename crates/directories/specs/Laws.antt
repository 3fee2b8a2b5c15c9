-- What a stop leaves of a directory.
use Rattle.std.specs.Prelude.{◌≡◌, ◌≢◌, ℕ, ◌*◌, false, List, [], ◌∷◌, ◌++◌, length, Some, ◌⊎◌}
use Rattle.blocks.specs.Disk.{Image}
use Rattle.model.specs.declared.types.image.File.{File}
use Rattle.model.specs.declared.types.operations.Entry.{Entry}
use Rattle.model.specs.declared.types.operations.Op.{Op}
use Rattle.model.specs.declared.types.operations.Op.TheVariants.{Create, Write, Read, Trunc, Remove, Stat}
use Rattle.model.specs.declared.types.operations.Reply.TheVariants.{Wrote}
use Rattle.model.specs.Crash.{Keeps}
use Rattle.model.specs.Files.{Files, file_in, files_of}
use Rattle.model.specs.Journal.{kept, replay}
use Rattle.model.specs.Layout.{form_of, inode_count_of}
use Rattle.model.specs.Log.{recovered}
use Rattle.directories.specs.declared.entries.EntryWrite.{EntryWrite}
use Rattle.directories.specs.Entries.{entry_size, is_for, lookup}
use Rattle.directories.specs.Writes.{directory_number, operation_of, Links}

-- there is a directory among the files, and a name leads to a number in it
pub record Leads (files : Files) (name : List ℕ) (number : ℕ) : Type 0 where
  pub directory : File
  pub is : file_in files directory_number ≡ Some directory
  pub leads : lookup directory.bytes name ≡ Some number

-- an operation that changes no file but others
abbrev pub IsElsewhere : Op → Type 0
IsElsewhere (Create kind) = Unit {0}
IsElsewhere (Write i off bytes) = i ≢ directory_number
IsElsewhere (Read i off n) = Unit {0}
IsElsewhere (Trunc i) = i ≢ directory_number
IsElsewhere (Remove i) = i ≢ directory_number
IsElsewhere (Stat i) = Unit {0}
IsElsewhere (Op.SetAttribute i a) = i ≢ directory_number

-- an operation that writes a whole entry, which has not that name, at another place
pub record WritesOther (place : ℕ) (name : List ℕ) (op : Op) : Type 0 where
  pub other : ℕ
  pub entry : List ℕ
  pub op_is : op ≡ Write directory_number (entry_size * other) entry
  pub apart : other ≢ place
  pub size : length entry ≡ entry_size
  pub unnamed : is_for name entry ≡ false

-- the operations of these entries leave the entry of a name at a place as it is, and bring the name
-- to no other place
abbrev pub AreSparing : ℕ → List ℕ → List Entry → Type 0
AreSparing place name [] = Unit {0}
AreSparing place name (e ∷ es) =
    (IsElsewhere e.op ⊎ WritesOther place name e.op) × AreSparing place name es

-- Among the kept entries of the first c groups is a link of a name to a number: it was made over the
-- bytes that the directory had at its turn, was answered as done, and the later ones spare it.
pub record HasLinked (opening : Image) (journal : List Entry) (c : ℕ) (name : List ℕ)
    (number : ℕ) : Type 0 where
  pub before : List Entry
  pub link : Entry
  pub later : List Entry
  pub kept_are : kept (inode_count_of opening) journal c ≡ before ++ link ∷ later
  -- the files at its turn, and the directory among them
  pub files : Files
  pub at_turn : replay (form_of opening) (files_of opening) before ≡ Some files
  pub directory : File
  pub directory_is : file_in files directory_number ≡ Some directory
  -- what it wrote
  pub write : EntryWrite
  pub links : Links directory.bytes name number write
  pub op : link.op ≡ operation_of directory_number write
  pub reply : link.reply ≡ Some (Wrote entry_size)
  pub spared : AreSparing write.place name later

-- A name whose link's group is committed leads to its file after any stop: so in each image whose
-- recovery keeps the first c groups of the journal.
abbrev pub CommittedNamesLead : Type 0
CommittedNamesLead = (opening x : Image) (journal : List Entry) (c : ℕ) (name : List ℕ) (number : ℕ)
    → Keeps opening journal x c → HasLinked opening journal c name number
    → Leads (files_of (recovered x)) name number
