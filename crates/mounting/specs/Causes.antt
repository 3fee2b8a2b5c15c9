-- Why requests are not done.
use Rattle.std.specs.Prelude.{◌≡◌, ◌≢◌, ◌⊎◌, ⊤, ℕ, ◌+◌, ◌^◌, ◌<◌, ◌≤◌, List, length, drop, replicate, Bool, Option, Some, None, Result, Ok, Err}
use Rattle.blocks.specs.Disk.{Image}
use Rattle.blocks.specs.declared.disk.Disk.{Ghosts}
use Rattle.calls.specs.Calls.{image_on}
use Rattle.calls.specs.Files.{IsFull}
use Rattle.calls.specs.Stepping.{Plain}
use Rattle.calls.specs.declared.transactions.fault.TransactionFault.TheVariants as call_fault
use Rattle.directories.specs.declared.name.NameFault.{NameFault}
use Rattle.directories.specs.declared.name.NameFault.TheVariants as name_fault
use Rattle.directories.specs.declared.path.PathFault.TheVariants as path_fault
use Rattle.directories.specs.declared.refusal.Refusal.{Refusal}
use Rattle.directories.specs.declared.refusal.Refusal.TheVariants as refusal
use Rattle.directories.specs.Entries.{padded}
use Rattle.directories.specs.Names.{IsNameCause}
use Rattle.directories.specs.Trees.{root, IsDirectory}
use Rattle.directories.specs.Walks.{stepped}
use Rattle.fuse.specs.Requests.{Asked, header_in, request_in, Access, Create, GetAttributes, Link, Lookup, MakeDirectory, MakeNode, Open, Other, Read, ReadDirectory, Release, RemoveDirectory, Rename, SetAttributes, Unanswered, Unlink, Write}
use Rattle.model.specs.declared.types.image.Form.{Form}
use Rattle.model.specs.declared.types.operations.Op.TheVariants as op
use Rattle.model.specs.declared.types.operations.Reply.TheVariants.{TooBig}
use Rattle.model.specs.Files.{Files, files_of}
use Rattle.model.specs.Operations.{refusal_of}
use Rattle.mounting.specs.declared.errno.Errno.{Errno}
use Rattle.mounting.specs.declared.errno.Errno.TheVariants as errno
use Rattle.mounting.specs.Asides.{IsHidden, aside_of}
use Rattle.mounting.specs.Changes.{AreTooMany, BeginsServed, EndsShort, HasLength, IsOfBytes, SetsSize}
use Rattle.names.specs.declared.refusal.TreeFault.{TreeFault}
use Rattle.names.specs.declared.refusal.TreeFault.TheVariants as tree_fault
use Rattle.names.specs.declared.writing.Unwritten.{Unwritten}
use Rattle.names.specs.declared.writing.Unwritten.TheVariants as unwritten
use Rattle.names.specs.Inside.{form_seen}
use Rattle.names.specs.Linking.{IsNotLinkedAs}
use Rattle.names.specs.Making.{IsUnmadeDirectoryIn, IsUnmadeIn}
use Rattle.names.specs.Numbered.{IsNoDirectory, IsNoFile, IsNoFileOrDirectory, IsUnseenIn}
use Rattle.names.specs.Removing.{IsUnremovedIn}
use Rattle.names.specs.Renaming.{IsUnrenamed}
use Rattle.names.specs.Replacing.{IsUnreplaced}
use Rattle.names.specs.Undirecting.{IsUnemptiedIn}
use Rattle.names.specs.Writing.{reply_of}

-- ---- the system's numbers

abbrev pub number_of : Errno → ℕ
number_of errno.NotPermitted = 1
number_of errno.NoEntry = 2
number_of errno.InputOutput = 5
number_of errno.NoMemory = 12
number_of errno.Busy = 16
number_of errno.Exists = 17
number_of errno.NotADirectory = 20
number_of errno.IsADirectory = 21
number_of errno.Invalid = 22
number_of errno.TooBig = 27
number_of errno.NoSpace = 28
number_of errno.TooManyLinks = 31
number_of errno.NameTooLong = 36
number_of errno.NotSupported = 38
number_of errno.NotEmpty = 39

-- what is answered where the files refuse
abbrev pub errno_of : Refusal → Errno
errno_of refusal.NotFound = errno.NoEntry
errno_of refusal.NotADirectory = errno.NotADirectory
errno_of refusal.IsRoot = errno.Busy
errno_of refusal.Exists = errno.Exists
errno_of refusal.Full = errno.NoSpace
errno_of refusal.NoNumber = errno.NoSpace
errno_of refusal.NoBlock = errno.NoSpace
errno_of refusal.IsADirectory = errno.IsADirectory
errno_of refusal.NotEmpty = errno.NotEmpty
errno_of refusal.IsInside = errno.Invalid
errno_of refusal.NotDown = errno.Invalid
errno_of refusal.TooManyLinks = errno.TooManyLinks

-- the same of another name: Linux has a number of its own for that of a directory
abbrev pub link_errno : Refusal → Errno
link_errno refusal.IsADirectory = errno.NotPermitted
link_errno cause = errno_of cause

-- where a call of a tree is not done, by what is answered where the files refuse
abbrev pub fault_errno_by : (Refusal → Errno) → TreeFault → Errno
fault_errno_by number (tree_fault.Path path_fault.NameTooLong) = errno.NameTooLong
fault_errno_by number (tree_fault.Path path_fault.ZeroByte) = errno.Invalid
fault_errno_by number (tree_fault.Path path_fault.NoMemory) = errno.NoMemory
fault_errno_by number (tree_fault.Refused cause) = number cause
fault_errno_by number (tree_fault.Call call_fault.NoMemory) = errno.NoMemory
fault_errno_by number (tree_fault.Call (call_fault.Disk cause)) = errno.InputOutput
fault_errno_by number (tree_fault.Call call_fault.NoRoom) = errno.InputOutput
fault_errno_by number tree_fault.NoSpace = errno.NoSpace
fault_errno_by number tree_fault.NoCall = errno.InputOutput

abbrev pub fault_errno : TreeFault → Errno
fault_errno = fault_errno_by errno_of

-- where bytes are no name
abbrev pub name_errno : NameFault → Errno
name_errno name_fault.Empty = errno.NoEntry
name_errno name_fault.TooLong = errno.NameTooLong
name_errno name_fault.ZeroByte = errno.Invalid
name_errno name_fault.Slash = errno.Invalid

-- where the kernel refuses a write
abbrev pub unwritten_errno : Unwritten → Errno
unwritten_errno unwritten.TooBig = errno.TooBig
unwritten_errno unwritten.TooLong = errno.Invalid
unwritten_errno unwritten.BadOffset = errno.Invalid

-- ---- causes, of the form and the image of a disk

-- the files refuse it
abbrev pub IsRefusedBy : (Refusal → Errno) → (Files → Refusal → Type 0) → Form → Image → Errno
    → Type 0
IsRefusedBy number why form x e =
    (cause : Refusal) × ((e ≡ number cause) × why (files_of x) cause)

abbrev pub IsRefused : (Files → Refusal → Type 0) → Form → Image → Errno → Type 0
IsRefused = IsRefusedBy errno_of

-- the bytes are no name
abbrev pub IsNoName : List ℕ → Errno → Type 0
IsNoName name e = (fault : NameFault) × ((e ≡ name_errno fault) × IsNameCause name fault)

-- no file that programs see has such a name, and none gets it
abbrev pub IsNoOldName : ℕ → List ℕ → Errno → Type 0
IsNoOldName node name e = IsNoName name e ⊎ ((e ≡ errno.NoEntry) × IsHidden node name)

abbrev pub IsNoNewName : ℕ → List ℕ → Errno → Type 0
IsNoNewName node name e = IsNoName name e ⊎ ((e ≡ errno.NotPermitted) × IsHidden node name)

-- no block is free
abbrev pub IsOutOfRoom : Image → Errno → Type 0
IsOutOfRoom x e = (e ≡ errno.NoSpace) × IsFull x

-- a file would be too large with these bytes
abbrev pub IsPartUnwritten : Form → Files → ℕ → ℕ → List ℕ → Errno → Type 0
IsPartUnwritten form files number offset bytes e =
    (e ≡ errno.TooBig) × AreTooMany form files number offset bytes

-- or with zeroes behind its end, up to that length at most
abbrev pub IsUnlengthened : ℕ → ℕ → Form → Image → Errno → Type 0
IsUnlengthened number size form x e = (e ≡ errno.TooBig) × ((at : ℕ) × ((count : ℕ)
    × (at + count ≤ size) × HasLength (files_of x) number at
    × (refusal_of form (files_of x) (op.Write number at (replicate count 0)) ≡ Some TooBig)))

-- why a file isn't lengthened, given another length, read and written
abbrev pub IsUnfilled : ℕ → ℕ → Form → Image → Errno → Type 0
IsUnfilled number size form x e = IsRefused (IsNoFileOrDirectory number) form x e
    ⊎ (IsOutOfRoom x e ⊎ IsUnlengthened number size form x e)

abbrev pub IsUnresized : ℕ → ℕ → Form → Image → Errno → Type 0
IsUnresized number size form x e =
    ((e ≡ errno.TooBig) × (2 ^ 32 ≤ size)) ⊎ IsUnfilled number size form x e

abbrev pub IsUnread : ℕ → ℕ → ℕ → Form → Image → Errno → Type 0
IsUnread number offset size form x e = IsRefused (IsNoFileOrDirectory number) form x e
    ⊎ ((e ≡ errno.Invalid) × (2 ^ 32 ≤ offset + size))

abbrev pub AreUnwritten : ℕ → ℕ → List ℕ → Form → Image → Errno → Type 0
AreUnwritten number offset bytes form x e = IsRefused (IsNoFileOrDirectory number) form x e
    ⊎ IsPartUnwritten form (files_of x) number offset bytes e

abbrev pub IsUnwritten : ℕ → ℕ → List ℕ → Form → Image → Errno → Type 0
IsUnwritten number offset bytes form x e =
    ((e ≡ errno.TooBig) × (2 ^ 32 ≤ offset))
    ⊎ (IsUnfilled number offset form x e ⊎ AreUnwritten number offset bytes form x e)

-- a name leads to a file, which is a directory or is none
abbrev pub LeadsTo : Files → ℕ → List ℕ → ℕ → Type 0
LeadsTo files from name number = stepped files from name ≡ Ok number

abbrev pub LeadsToDirectory : Files → ℕ → List ℕ → Type 0
LeadsToDirectory files from name =
    (number : ℕ) × (LeadsTo files from name number × IsDirectory files number)

abbrev pub LeadsToOther : Files → ℕ → List ℕ → Type 0
LeadsToOther files from name =
    (number : ℕ) × (LeadsTo files from name number × (IsDirectory files number → ⊥))

-- why a file is not made, or gets no other name
abbrev pub IsUnmade : ℕ → List ℕ → Form → Image → Errno → Type 0
IsUnmade node name form x e = IsNoNewName node name e
    ⊎ IsRefused (λ files. IsUnmadeIn files node (padded name)) form x e

abbrev pub IsUnmadeDirectory : ℕ → List ℕ → Form → Image → Errno → Type 0
IsUnmadeDirectory node name form x e = IsNoNewName node name e
    ⊎ IsRefused (λ files. IsUnmadeDirectoryIn files node (padded name)) form x e

abbrev pub IsNotLinked : ℕ → ℕ → List ℕ → Form → Image → Errno → Type 0
IsNotLinked number node name form x e = IsNoNewName node name e
    ⊎ (((e ≡ errno.NoEntry) × LeadsTo (files_of x) root (aside_of number) number)
    ⊎ (IsRefusedBy link_errno (IsNotLinkedAs number node (padded name)) form x e
    ⊎ IsRefused (IsNoFile number) form x e))

-- why a name isn't removed: it leads nowhere or to a directory, or its file gets no name aside
abbrev pub HasNoAside : ℕ → List ℕ → Form → Image → Errno → Type 0
HasNoAside from name form x e = (number : ℕ) × (LeadsTo (files_of x) from name number
    × IsRefused (λ files. IsUnrenamed files from name root (aside_of number)) form x e)

abbrev pub IsNameKept : ℕ → List ℕ → Form → Image → Errno → Type 0
IsNameKept from name form x e = IsRefused (λ files. IsUnremovedIn files from name) form x e
    ⊎ HasNoAside from name form x e

abbrev pub IsNotUnlinked : ℕ → List ℕ → Form → Image → Errno → Type 0
IsNotUnlinked node name form x e = IsNoOldName node name e
    ⊎ (IsRefused (IsUnseenIn node (padded name)) form x e
    ⊎ (((e ≡ errno.IsADirectory) × LeadsToDirectory (files_of x) node (padded name))
    ⊎ IsNameKept node (padded name) form x e))

abbrev pub IsDirectoryKept : ℕ → List ℕ → Form → Image → Errno → Type 0
IsDirectoryKept node name form x e = IsNoOldName node name e
    ⊎ (IsRefused (IsUnseenIn node (padded name)) form x e
    ⊎ IsRefused (λ files. IsUnemptiedIn files node (padded name)) form x e)

-- why a file doesn't get the name of another one
abbrev pub AreOfTwoKinds : ℕ → List ℕ → ℕ → List ℕ → Files → Errno → Type 0
AreOfTwoKinds from old to name files e =
    ((e ≡ errno.IsADirectory) × LeadsToOther files from old × LeadsToDirectory files to name)
    ⊎ ((e ≡ errno.NotADirectory) × LeadsToDirectory files from old × LeadsToOther files to name)

abbrev pub IsNotReplaced : ℕ → List ℕ → ℕ → List ℕ → Form → Image → Errno → Type 0
IsNotReplaced from old to name form x e = (number : ℕ) × ((keeps : Bool)
    × (LeadsTo (files_of x) to name number
    × IsRefused (IsUnreplaced from old to name (aside_of number) keeps) form x e))

abbrev pub IsNotOver : ℕ → List ℕ → ℕ → List ℕ → Form → Image → Errno → Type 0
IsNotOver from old to name form x e = AreOfTwoKinds from old to name (files_of x) e
    ⊎ (IsRefused (λ files. IsUnemptiedIn files to name) form x e
    ⊎ (IsRefused (λ files. IsUnrenamed files from old to name) form x e
    ⊎ IsNotReplaced from old to name form x e))

-- or a name of its own
abbrev pub AreNoNames : ℕ → List ℕ → ℕ → List ℕ → Errno → Type 0
AreNoNames from old to name e = IsNoOldName from old e ⊎ IsNoNewName to name e

abbrev pub IsNotRenamed : ℕ → ℕ → List ℕ → ℕ → List ℕ → Form → Image → Errno → Type 0
IsNotRenamed flags from old to name form x e = ((e ≡ errno.Invalid) × (1 < flags))
    ⊎ (AreNoNames from old to name e
    ⊎ (IsRefused (IsUnseenIn from (padded old)) form x e
    ⊎ (((e ≡ errno.Exists) × (flags ≡ 1)
    × ((number : ℕ) × LeadsTo (files_of x) to (padded name) number))
    ⊎ IsNotOver from (padded old) to (padded name) form x e)))

-- there is no file of so great a number
abbrev pub IsNoNumber : ℕ → Errno → Type 0
IsNoNumber number e = (e ≡ errno.NoEntry) × (2 ^ 32 ≤ number)

-- what hinders a request of the file of a number
abbrev pub Hinders : ℕ → Asked → Form → Image → Errno → Type 0
Hinders node (Lookup name) form x e =
    IsNoOldName node name e ⊎ IsRefused (IsUnseenIn node (padded name)) form x e
Hinders node GetAttributes form x e = IsRefused (IsNoFile node) form x e
Hinders node (SetAttributes valid size changed nanos mode) form x e =
    IsRefused (IsNoFile node) form x e ⊎ (SetsSize valid × IsUnresized node size form x e)
Hinders node (MakeNode mode name) form x e =
    ((e ≡ errno.NotPermitted) × (IsOfBytes mode → ⊥)) ⊎ IsUnmade node name form x e
Hinders node (Create flags mode name) form x e = IsUnmade node name form x e
Hinders node (MakeDirectory mode name) form x e = IsUnmadeDirectory node name form x e
Hinders node (Link number name) form x e =
    IsNoNumber number e ⊎ IsNotLinked number node name form x e
Hinders node (Unlink name) form x e = IsNotUnlinked node name form x e
Hinders node (RemoveDirectory name) form x e = IsDirectoryKept node name form x e
Hinders node (Rename to flags old name) form x e =
    IsNoNumber to e ⊎ IsNotRenamed flags node old to name form x e
Hinders node (Open flags) form x e = IsRefused (IsNoFile node) form x e
Hinders node (Read offset size) form x e = IsUnread node offset size form x e
Hinders node (Write offset bytes) form x e = IsUnwritten node offset bytes form x e
Hinders node (ReadDirectory offset size plus) form x e = IsRefused (IsNoDirectory node) form x e
Hinders node Release form x e =
    IsRefused (λ files. IsUnremovedIn files root (aside_of node)) form x e
Hinders node Access form x e = e ≡ errno.NotSupported
Hinders node Other form x e = e ≡ errno.NotSupported
Hinders node Unanswered form x e = e ≡ errno.NotSupported
Hinders node request form x e = ⊥

-- the bytes of a request are none
abbrev pub HindersIf : ℕ → Option Asked → Form → Image → Errno → Type 0
HindersIf node None form x e = e ≡ errno.Invalid
HindersIf node (Some request) form x e = IsNoNumber node e ⊎ Hinders node request form x e

-- the same of its bytes
abbrev pub HindersServed : List ℕ → Form → Image → Errno → Type 0
HindersServed bytes =
    HindersIf (header_in bytes).node (request_in (header_in bytes).opcode (drop 40 bytes))

-- no call of a tree is left, or memory is refused
abbrev pub IsLost : ℕ → Errno → Type 0
IsLost left e = ((e ≡ errno.InputOutput) × (left ≡ 0)) ⊎ (e ≡ errno.NoMemory)

-- Why something is not done in kernel m of a tree, which has so many calls left: for a cause that
-- holds on its disk, or it is lost.
abbrev pub IsHindered : {D N : Type 0} → Ghosts D N → (Form → Image → Errno → Type 0) → Plain D → ℕ
    → Errno → Type 0
IsHindered disk why m left e =
    why (form_seen disk.image m) (image_on disk.image m) e ⊎ IsLost left e

-- memory is refused
abbrev pub IsNoMemory : Errno → Type 0
IsNoMemory e = e ≡ errno.NoMemory

-- for no cause of the files
abbrev pub NoCause : Form → Image → Errno → Type 0
NoCause form x e = ⊥

-- From kernel k to m this became of the files where something is not done, unless memory is refused, or
-- no call is left.
abbrev pub Leaves : {D N : Type 0} → Ghosts D N → (Files → Files → Type 0) → Plain D → Plain D → ℕ
    → Errno → Type 0
Leaves disk part k m left e = 0 < left → e ≢ errno.NoMemory
    → part (files_of (image_on disk.image k)) (files_of (image_on disk.image m))

-- they are the same
abbrev pub Keeps : {D N : Type 0} → Ghosts D N → Plain D → Plain D → ℕ → Errno → Type 0
Keeps disk k m left e = Leaves disk (λ files new. new ≡ files) k m left e

-- the same of the system's number for a request of these bytes
abbrev pub IsHinderedBy : {D N : Type 0} → Ghosts D N → List ℕ → Plain D → Plain D → ℕ → ℕ → Type 0
IsHinderedBy disk bytes k m left number = (e : Errno) × ((number ≡ number_of e)
    × IsHindered disk (HindersServed bytes) m left e
    × Leaves disk (BeginsServed bytes) k m left e)

-- why a call of a tree is not done
abbrev pub IsNotDone : {D N : Type 0} → Ghosts D N → (Files → Refusal → Type 0) → Plain D → ℕ
    → TreeFault → Type 0
IsNotDone disk why m left (tree_fault.Refused cause) = why (files_of (image_on disk.image m)) cause
IsNotDone disk why m left fault = IsLost left (fault_errno fault)

-- why fewer bytes were written by a call of a tree, which left kernel m: no block is free, or the
-- kernel refused them
abbrev pub WrotePart : {D N : Type 0} → Ghosts D N → ℕ → ℕ → List ℕ → Plain D → Result ℕ Unwritten
    → Type 0
WrotePart disk number offset bytes m (Ok count) =
    count < length bytes → IsFull (image_on disk.image m)
WrotePart disk number offset bytes m (Err cause) =
    refusal_of (form_seen disk.image m) (files_of (image_on disk.image m))
    (op.Write number offset bytes) ≡ Some (reply_of cause)

-- the same of those that stand behind so many of these bytes
abbrev pub WroteBehind : {D N : Type 0} → Ghosts D N → ℕ → ℕ → List ℕ → ℕ → Plain D
    → Result ℕ Unwritten → Type 0
WroteBehind disk number offset bytes done m (Ok count) =
    done < length bytes → count ≡ 0 → IsFull (image_on disk.image m)
WroteBehind disk number offset bytes done m (Err cause) = (cause ≡ unwritten.TooBig)
    × AreTooMany (form_seen disk.image m) (files_of (image_on disk.image m)) number offset bytes

-- why so many bytes are left to write: where all are, no block is free
abbrev pub LeavesBytes : {D N : Type 0} → Ghosts D N → ℕ → ℕ → List ℕ → Plain D → ℕ → Type 0
LeavesBytes disk number offset bytes m left = 0 < left
    → (left ≡ length bytes → IsFull (image_on disk.image m))
    × EndsShort (IsFull (image_on disk.image m)) (form_seen disk.image m)
    (files_of (image_on disk.image m)) number offset bytes

-- and why fewer are told than there are
abbrev pub WroteFewer : {D N : Type 0} → Ghosts D N → ℕ → ℕ → List ℕ → Plain D → ℕ → Type 0
WroteFewer disk number offset bytes m count = count < length bytes
    → EndsShort (IsFull (image_on disk.image m)) (form_seen disk.image m)
    (files_of (image_on disk.image m)) number offset bytes

-- ---- which requests are served together

abbrev pub ChangesFile : Asked → Type 0
ChangesFile (SetAttributes valid size changed nanos mode) = ⊤
ChangesFile (Write offset bytes) = ⊤
ChangesFile request = ⊥

abbrev pub AddsFile : Asked → Type 0
AddsFile (MakeNode mode name) = ⊤
AddsFile (Create flags mode name) = ⊤
AddsFile (MakeDirectory mode name) = ⊤
AddsFile (Link number name) = ⊤
AddsFile request = ⊥

abbrev pub TakesName : Asked → Type 0
TakesName (Unlink name) = ⊤
TakesName (RemoveDirectory name) = ⊤
TakesName (Rename to flags old name) = ⊤
TakesName Release = ⊤
TakesName request = ⊥

-- the others
abbrev pub Looks : Asked → Type 0
Looks (SetAttributes valid size changed nanos mode) = ⊥
Looks (Write offset bytes) = ⊥
Looks (MakeNode mode name) = ⊥
Looks (Create flags mode name) = ⊥
Looks (MakeDirectory mode name) = ⊥
Looks (Link number name) = ⊥
Looks (Unlink name) = ⊥
Looks (RemoveDirectory name) = ⊥
Looks (Rename to flags old name) = ⊥
Looks Release = ⊥
Looks request = ⊤
