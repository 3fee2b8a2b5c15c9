-- What requests change of files.
use Rattle.std.specs.Prelude.{◌≡◌, ◌≢◌, ◌⊎◌, ⊤, ℕ, ◌+◌, ◌^◌, ◌<◌, ◌≤◌, Bool, List, [], length, take, drop, replicate, bit_and, Option, Some, None, Result, Ok, Err}
use Rattle.blocks.specs.declared.disk.Disk.{Ghosts}
use Rattle.calls.specs.Calls.{image_on}
use Rattle.calls.specs.Files.{IsFull}
use Rattle.calls.specs.Stepping.{Plain}
use Rattle.directories.specs.Entries.{entries_of, padded}
use Rattle.directories.specs.Trees.{bytes_of, directory_in, root, IsDirectory}
use Rattle.directories.specs.Walks.{stepped}
use Rattle.fuse.specs.Answers.{wrote_answer_bytes}
use Rattle.fuse.specs.Requests.{Asked, header_in, request_in, Access, Create, Destroy, Flush, GetAttributes, Link, Lookup, MakeDirectory, MakeNode, Open, OpenDirectory, Other, Read, ReadDirectory, Release, ReleaseDirectory, RemoveDirectory, Rename, SetAttributes, Sync, Unanswered, Unlink, Write}
use Rattle.model.specs.declared.types.image.File.{File}
use Rattle.model.specs.declared.types.image.Form.{Form}
use Rattle.model.specs.Files.{Files, file_in, files_of}
use Rattle.model.specs.declared.types.operations.Op.TheVariants as op
use Rattle.model.specs.declared.types.operations.Reply.TheVariants.{TooBig}
use Rattle.model.specs.Operations.{part_of, refusal_of}
use Rattle.mounting.specs.Asides.{IsAside, IsHidden, aside_of}
use Rattle.mounting.specs.Listings.{Lists}
use Rattle.mounting.specs.Tells.{TellsAttributes, TellsEntry, TellsNamed, TellsOpened}
use Rattle.names.specs.declared.refusal.TreeFault.{TreeFault}
use Rattle.names.specs.declared.refusal.TreeFault.TheVariants.{Refused}
use Rattle.names.specs.declared.writing.Unwritten.{Unwritten}
use Rattle.names.specs.Inside.{form_seen}
use Rattle.names.specs.Linking.{LinksIn}
use Rattle.names.specs.Making.{MakesDirectoryIn, MakesIn}
use Rattle.names.specs.Numbered.{CutsAt, WritesSomeOf}
use Rattle.names.specs.Ready.{AnyOf}
use Rattle.names.specs.Removing.{RemovesIn}
use Rattle.names.specs.Renaming.{Renames}
use Rattle.names.specs.Replacing.{LeadToOne, Replaces}
use Rattle.names.specs.Runs.{HasRun}
use Rattle.names.specs.Undirecting.{RemovesDirectoryIn}

-- ---- the changes, of which each is one transaction

-- Bytes of these, which stand behind one another from an offset on, are written into a file: as many of
-- them as there is room for.
abbrev pub WritesPart : ℕ → ℕ → List ℕ → Form → Files → Files → Type 0
WritesPart number offset bytes form files new = (at : ℕ) × ((count : ℕ)
    × AnyOf (WritesSomeOf form number (offset + at) (take count (drop at bytes))) files new)

-- the file of a number has so many bytes
abbrev pub HasLength : Files → ℕ → ℕ → Type 0
HasLength files number size = length (bytes_of (file_in files number)) ≡ size

-- bytes are written into a file of just these files
abbrev pub WritesHere : Files → ℕ → ℕ → List ℕ → Form → Files → Files → Type 0
WritesHere here number offset bytes form files new =
    (files ≡ here) × AnyOf (WritesSomeOf form number offset bytes) files new

-- zeroes are written behind a file's end, up to that length at most
abbrev pub Lengthens : ℕ → ℕ → Form → Files → Files → Type 0
Lengthens number size form files new = (at : ℕ) × ((count : ℕ)
    × (at + count ≤ size) × HasLength files number at
    × AnyOf (WritesSomeOf form number at (replicate count 0)) files new)

-- bytes are written, behind zeroes where the file ends before them
abbrev pub WritesIn : ℕ → ℕ → List ℕ → Form → Files → Files → Type 0
WritesIn number offset bytes form files new =
    WritesPart number offset bytes form files new ⊎ Lengthens number offset form files new

-- a file gets another length
abbrev pub Resizes : ℕ → ℕ → Form → Files → Files → Type 0
Resizes number size form files new =
    AnyOf (CutsAt number size) files new ⊎ Lengthens number size form files new

-- a file, a directory or another name is made
abbrev pub MakesFile : ℕ → List ℕ → Form → Files → Files → Type 0
MakesFile from name form = AnyOf (MakesIn from name)

abbrev pub MakesDirectory : ℕ → List ℕ → Form → Files → Files → Type 0
MakesDirectory from name form = AnyOf (MakesDirectoryIn from name)

abbrev pub Links : ℕ → ℕ → List ℕ → Form → Files → Files → Type 0
Links number to name form = AnyOf (LinksIn number to name)

-- a name is removed, with its file where that has no other one
abbrev pub RemovesName : ℕ → List ℕ → Form → Files → Files → Type 0
RemovesName from name form = AnyOf (RemovesIn from name)

-- a file has a name aside in place of another one
abbrev pub SetsAside : ℕ → List ℕ → Form → Files → Files → Type 0
SetsAside from name form files new =
    (number : ℕ) × AnyOf (Renames from name root (aside_of number)) files new

-- a name is removed; with its last one a file goes, or has a name aside while it is open
abbrev pub Unlinks : ℕ → List ℕ → Form → Files → Files → Type 0
Unlinks from name form files new =
    RemovesName from name form files new ⊎ SetsAside from name form files new

abbrev pub RemovesEmpty : ℕ → List ℕ → Form → Files → Files → Type 0
RemovesEmpty from name form = AnyOf (RemovesDirectoryIn from name)

-- a file has the name of another one, which goes, or has a name aside while it is open
abbrev pub ReplacesFile : ℕ → List ℕ → ℕ → List ℕ → Form → Files → Files → Type 0
ReplacesFile from old to name form files new = (number : ℕ) × ((keeps : Bool)
    × AnyOf (Replaces from old to name (aside_of number) keeps) files new)

-- a file has another name; an empty directory that has it is removed before
abbrev pub RenamesFile : ℕ → List ℕ → ℕ → List ℕ → Form → Files → Files → Type 0
RenamesFile from old to name form files new = AnyOf (Renames from old to name) files new
    ⊎ (RemovesEmpty to name form files new ⊎ ReplacesFile from old to name form files new)

-- the same by flags: only where there are none may another file lose its name
abbrev pub RenamesAs : ℕ → ℕ → List ℕ → ℕ → List ℕ → Form → Files → Files → Type 0
RenamesAs flags from old to name form files new = AnyOf (Renames from old to name) files new
    ⊎ ((flags ≡ 0) × RenamesFile from old to name form files new)

-- a file gets another length, where the bits say that it is set
abbrev pub SetsSize : ℕ → Type 0
SetsSize valid = bit_and valid 8 ≢ 0

abbrev pub ResizesAs : ℕ → ℕ → ℕ → Form → Files → Files → Type 0
ResizesAs valid number size form files new = SetsSize valid × Resizes number size form files new

-- a name aside is removed, which a mount that was stopped left
abbrev pub RemovesAside : Form → Files → Files → Type 0
RemovesAside form files new =
    (name : List ℕ) × (IsAside name × RemovesName root (padded name) form files new)

-- ---- requests

-- no file changes
abbrev pub NoChange : Files → Files → Type 0
NoChange files new = ⊥

-- what a request of the file of a number may change
abbrev pub MayMake : Form → ℕ → Asked → Files → Files → Type 0
MayMake form node (SetAttributes valid size changed nanos mode) = ResizesAs valid node size form
MayMake form node (Write offset bytes) = WritesIn node offset bytes form
MayMake form node (MakeNode mode name) = MakesFile node (padded name) form
MayMake form node (Create flags mode name) = MakesFile node (padded name) form
MayMake form node (MakeDirectory mode name) = MakesDirectory node (padded name) form
MayMake form node (Link number name) = Links number node (padded name) form
MayMake form node (Unlink name) = Unlinks node (padded name) form
MayMake form node (RemoveDirectory name) = RemovesEmpty node (padded name) form
MayMake form node (Rename to flags old name) =
    RenamesAs flags node (padded old) to (padded name) form
MayMake form node Release = RemovesName root (aside_of node) form
MayMake form node request = NoChange

abbrev pub MayMakeIf : Form → ℕ → Option Asked → Files → Files → Type 0
MayMakeIf form node None = NoChange
MayMakeIf form node (Some request) = MayMake form node request

-- the same of its bytes
abbrev pub MayServe : Form → List ℕ → Files → Files → Type 0
MayServe form bytes =
    MayMakeIf form (header_in bytes).node (request_in (header_in bytes).opcode (drop 40 bytes))

-- ---- requests that were done

-- a name of a file goes, with its file where that has no other one; or that file, which is no directory,
-- has its name aside in place of it
abbrev pub DropsName : ℕ → List ℕ → ℕ → Files → Files → Type 0
DropsName from name number files new = AnyOf (RemovesIn from name) files new
    ⊎ AnyOf (Renames from name root (aside_of number)) files new

abbrev pub Unlinked : ℕ → List ℕ → Files → Files → Type 0
Unlinked from name files new = (number : ℕ) × (stepped files from name ≡ Ok number)
    × (IsDirectory files number → ⊥) × DropsName from name number files new

-- neither of two names is one aside
abbrev pub AreSeen : ℕ → List ℕ → ℕ → List ℕ → Type 0
AreSeen from old to name = (IsHidden from old → ⊥) × (IsHidden to name → ⊥)

-- a file has another name; nothing is done where both lead to one file, and what has the name is removed
-- before, or replaced: it goes, or has its name aside
abbrev pub RenamedFile : ℕ → List ℕ → ℕ → List ℕ → Form → Files → Files → Type 0
RenamedFile from old to name form files new = AnyOf (Renames from old to name) files new
    ⊎ (((new ≡ files) × LeadToOne from old to name files)
    ⊎ (((number : ℕ) × ((keeps : Bool) × (stepped files to name ≡ Ok number)
    × AnyOf (Replaces from old to name (aside_of number) keeps) files new))
    ⊎ ((mid : Files) × (RemovesEmpty to name form files mid
    × AnyOf (Renames from old to name) mid new))))

-- the same by flags
abbrev pub RenamedAs : ℕ → ℕ → List ℕ → ℕ → List ℕ → Form → Files → Files → Type 0
RenamedAs flags from old to name form files new = AnyOf (Renames from old to name) files new
    ⊎ ((flags ≡ 0) × RenamedFile from old to name form files new)

-- the first so many of these bytes stand in those of a file from an offset on
pub record StandsAt (old : List ℕ) (offset : ℕ) (bytes : List ℕ) (count : ℕ) : Type 0 where
  pub far : offset + count ≤ length old
  pub few : count ≤ length bytes
  pub stand : part_of old offset count ≡ take count bytes

-- a mode is that of a file of bytes, or tells no type
abbrev pub IsOfBytes : ℕ → Type 0
IsOfBytes mode = (bit_and mode 61440 ≡ 32768) ⊎ (bit_and mode 61440 ≡ 0)

-- there is a file of that number
abbrev pub IsThere : Files → ℕ → Type 0
IsThere files number = (file : File) × (file_in files number ≡ Some file)

-- how many bytes were written
abbrev pub wrote_count : Result ℕ Unwritten → ℕ
wrote_count (Ok count) = count
wrote_count (Err cause) = 0

-- the kernel refuses a part of these bytes, with which the file would be too large
abbrev pub RefusesPart : Form → Files → ℕ → ℕ → List ℕ → Type 0
RefusesPart form files number offset bytes = (at : ℕ) × ((count : ℕ)
    × (refusal_of form files (op.Write number (offset + at) (take count (drop at bytes)))
    ≡ Some TooBig))

-- the file would be too large with all of them
abbrev pub AreTooMany : Form → Files → ℕ → ℕ → List ℕ → Type 0
AreTooMany form files number offset bytes =
    RefusesPart form files number offset bytes ⊎ (2 ^ 32 ≤ offset + length bytes)

-- why no more of them stand, besides that no block is free
abbrev pub EndsShort : Type 0 → Form → Files → ℕ → ℕ → List ℕ → Type 0
EndsShort full form files number offset bytes =
    full ⊎ AreTooMany form files number offset bytes

-- nothing is told, and the files are the same
abbrev pub TellsNothing : List ℕ → Files → Files → Type 0
TellsNothing body files new = (new ≡ files) × (body ≡ [])

-- a new file is told
abbrev pub TellsMade : (ℕ → Files → Files → Type 0) → List ℕ → Files → Files → Type 0
TellsMade makes body files new =
    (number : ℕ) × (makes number files new × TellsEntry new number [] body)

-- and how it was opened
abbrev pub TellsCreated : (ℕ → Files → Files → Type 0) → List ℕ → Files → Files → Type 0
TellsCreated makes body files new =
    (entry : List ℕ) × (TellsMade makes entry files new × TellsOpened 2 entry body)

-- What became of the files where a request is answered without an error, and what is told.
abbrev pub Does : Form → Type 0 → ℕ → Asked → List ℕ → Files → Files → Type 0
Does form full node (Lookup name) body files new = (new ≡ files)
    × (IsHidden node name → ⊥) × TellsNamed new node (padded name) [] body
Does form full node GetAttributes body files new = (new ≡ files) × TellsAttributes new node [] body
Does form full node (Open flags) body files new =
    (new ≡ files) × IsThere new node × TellsOpened 2 [] body
Does form full node OpenDirectory body files new = (new ≡ files) × TellsOpened 10 [] body
Does form full node (ReadDirectory offset size plus) body files new =
    (new ≡ files) × IsDirectory files node
    × Lists files node offset size plus 0 (entries_of (directory_in files node)) [] body
Does form full node (Read offset size) body files new = (new ≡ files)
    × ((offset < 2 ^ 32 → body ≡ part_of (bytes_of (file_in files node)) offset size)
    × (2 ^ 32 ≤ offset → body ≡ []))
Does form full node (SetAttributes valid size changed nanos mode) body files new =
    ((SetsSize valid → ⊥) → new ≡ files) × (SetsSize valid → HasLength new node size)
    × TellsAttributes new node [] body
Does form full node (Write offset bytes) body files new = (count : ℕ)
    × ((body ≡ wrote_answer_bytes count) × StandsAt (bytes_of (file_in new node)) offset bytes count
    × (count < length bytes → EndsShort full form new node offset bytes))
Does form full node (MakeNode mode name) body files new = IsOfBytes mode
    × (IsHidden node name → ⊥) × TellsMade (MakesIn node (padded name)) body files new
Does form full node (Create flags mode name) body files new =
    (IsHidden node name → ⊥) × TellsCreated (MakesIn node (padded name)) body files new
Does form full node (MakeDirectory mode name) body files new =
    (IsHidden node name → ⊥) × TellsMade (MakesDirectoryIn node (padded name)) body files new
Does form full node (Link number name) body files new = (IsHidden node name → ⊥)
    × Links number node (padded name) form files new × TellsEntry new number [] body
Does form full node (Unlink name) body files new =
    (IsHidden node name → ⊥) × Unlinked node (padded name) files new × (body ≡ [])
Does form full node (RemoveDirectory name) body files new = (IsHidden node name → ⊥)
    × RemovesEmpty node (padded name) form files new × (body ≡ [])
Does form full node (Rename to flags old name) body files new = (flags ≤ 1)
    × ((IsHidden node old → ⊥) × (IsHidden to name → ⊥))
    × RenamedAs flags node (padded old) to (padded name) form files new × (body ≡ [])
Does form full node Release body files new =
    ((new ≡ files) ⊎ RemovesName root (aside_of node) form files new) × (body ≡ [])
Does form full node Flush body files new = TellsNothing body files new
Does form full node Sync body files new = TellsNothing body files new
Does form full node ReleaseDirectory body files new = TellsNothing body files new
Does form full node Destroy body files new = TellsNothing body files new
Does form full node Access body files new = ⊥
Does form full node Other body files new = ⊥
Does form full node Unanswered body files new = ⊥
Does form full node request body files new = new ≡ files

-- What may be done of a request that is refused: of several transactions the first ones.
abbrev pub Begins : ℕ → Asked → Files → Files → Type 0
Begins node (SetAttributes valid size changed nanos mode) files new = ⊤
Begins node (Write offset bytes) files new = ⊤
Begins node (Rename to flags old name) files new =
    (new ≡ files) ⊎ AnyOf (RemovesDirectoryIn to (padded name)) files new
Begins node request files new = new ≡ files

abbrev pub BeginsIf : ℕ → Option Asked → Files → Files → Type 0
BeginsIf node None files new = new ≡ files
BeginsIf node (Some request) files new = Begins node request files new

abbrev pub BeginsServed : List ℕ → Files → Files → Type 0
BeginsServed bytes =
    BeginsIf (header_in bytes).node (request_in (header_in bytes).opcode (drop 40 bytes))

-- ---- kernels

-- the files on the disk of m came of those on the disk of k so
abbrev pub Did : {D N : Type 0} → Ghosts D N → (Form → Files → Files → Type 0) → Plain D → Plain D
    → Type 0
Did disk part k m = part (form_seen disk.image k) (files_of (image_on disk.image k))
    (files_of (image_on disk.image m))

-- from kernel k to m a request was done, and this is told
abbrev pub DidAsked : {D N : Type 0} → Ghosts D N → ℕ → Asked → List ℕ → Plain D → Plain D → Type 0
DidAsked disk node request body k m =
    Does (form_seen disk.image m) (IsFull (image_on disk.image m)) node request body
    (files_of (image_on disk.image k)) (files_of (image_on disk.image m))

-- the same of a request that may be none
abbrev pub DidAskedIf : {D N : Type 0} → Ghosts D N → ℕ → Option Asked → List ℕ → Plain D → Plain D
    → Type 0
DidAskedIf disk node None body k m = ⊥
DidAskedIf disk node (Some request) body k m = DidAsked disk node request body k m

-- and of its bytes
abbrev pub DidServe : {D N : Type 0} → Ghosts D N → List ℕ → Plain D → Plain D → List ℕ → Type 0
DidServe disk bytes k m body =
    DidAskedIf disk (header_in bytes).node (request_in (header_in bytes).opcode (drop 40 bytes))
    body k m

-- the bytes of the file of a number on the disk of a kernel
abbrev pub bytes_on : {D N : Type 0} → Ghosts D N → ℕ → Plain D → List ℕ
bytes_on disk number k = bytes_of (file_in (files_of (image_on disk.image k)) number)

-- it has so many
abbrev pub EndsAt : {D N : Type 0} → Ghosts D N → ℕ → Plain D → ℕ → Type 0
EndsAt disk number k at = HasLength (files_of (image_on disk.image k)) number at

-- the files on the disk are the same
abbrev pub StaySame : {D N : Type 0} → Ghosts D N → Plain D → Plain D → Type 0
StaySame disk k m = files_of (image_on disk.image m) ≡ files_of (image_on disk.image k)

-- where another call may be made
abbrev pub StaysOn : {D N : Type 0} → Ghosts D N → Plain D → Plain D → ℕ → Type 0
StaysOn disk k m left = 0 < left → StaySame disk k m

-- unless a call failed behind which no other is made
abbrev pub StaysIfRefused : {D N T : Type 0} → Ghosts D N → Plain D → Plain D → Result T TreeFault
    → Type 0
StaysIfRefused disk k m (Err (Refused cause)) = StaySame disk k m
StaysIfRefused disk k m result = ⊤

-- what a server does to files: it serves a request of the file of a number, or removes what a stop left
pub data Task : Type 0 where
  Serving : (node : ℕ) (request : Asked) → Task
  Sweeping : Task

abbrev pub MayDo : Form → Task → Files → Files → Type 0
MayDo form (Serving node request) = MayMake form node request
MayDo form Sweeping = RemovesAside form

-- From kernel k of a tree to m only such changes were made: what came of a task since kernel o came of it
-- up to m, where such changes are among those of the task.
abbrev pub Makes : {D N : Type 0} → Ghosts D N → (Form → Files → Files → Type 0) → Plain D → Plain D
    → ℕ → ℕ → Type 0
Makes {D} disk part k m left less = (task : Task) (o : Plain D) (first : ℕ)
    → ((x z : Files) → part (form_seen disk.image o) x z → MayDo (form_seen disk.image o) task x z)
    → HasRun disk (MayDo (form_seen disk.image o) task) o k first left
    → HasRun disk (MayDo (form_seen disk.image o) task) o m first less

-- no file changes: the same of any task
abbrev pub OnlyLooks : {D N : Type 0} → Ghosts D N → Plain D → Plain D → ℕ → ℕ → Type 0
OnlyLooks {D} disk k m left less = (task : Task) (o : Plain D) (first : ℕ)
    → HasRun disk (MayDo (form_seen disk.image o) task) o k first left
    → HasRun disk (MayDo (form_seen disk.image o) task) o m first less
