-- An image that was made with files.
use Rattle.std.specs.Prelude.{◌≡◌, ◌≢◌, ◌⊎◌, ⊤, ℕ, ◌+◌, ◌<◌, ◌≤◌, ◌==◌, if◌then◌else◌, Bool, IsTrue, List, [], ◌∷◌, drop, length, map, replicate, slice_index, None, Option}
use Rattle.std.specs.Io.KnownBytes.{Appends}
use Rattle.blocks.specs.Block.{zero_block}
use Rattle.blocks.specs.Disk.{Image, LeavesOnly}
use Rattle.blocks.specs.declared.disk.Disk.{Ghosts}
use Rattle.blocks.specs.declared.file.FileDisk.{FileDisk}
use Rattle.calls.specs.Calls.{image_on}
use Rattle.calls.specs.Stepping.{Plain}
use Rattle.calls.specs.Transactions.{HasLabels}
use Rattle.commands_changes.specs.declared.making.Making.{Making}
use Rattle.messages.specs.Output.{numbers_text}
use Rattle.model.specs.Files.{Files, files_of}
use Rattle.model.specs.Crash.{labels_of}
use Rattle.model.specs.Layout.{form_of, inode_count_of, planned_super}
use Rattle.model.specs.Log.{is_lawful_log, recovered}
use Rattle.model.specs.Soundness.{IsSound}
use Rattle.model.specs.Verdict.{verdict}
use Rattle.model.specs.declared.types.image.Form.{Form}
use Rattle.model.specs.declared.types.image.Super.{Super}
use Rattle.directories.specs.Counts.{AreCounted}
use Rattle.names.specs.Inside.{form_seen}
use Rattle.names.specs.Making.{MakesAt}
use Rattle.directories.specs.Paths.{names_of}
use Rattle.names.specs.Ready.{IsRootAlone}
use Rattle.directories.specs.Trees.{IsTree}
use Rattle.offline.specs.Making.{MakesAs, MakesInOrder}
use Rattle.transfer.specs.Ending.{SyncsIf}
use Rattle.tree_changes.specs.Puts.{WritesPieces, WritesSome, piece_count}
use Rattle.wal.specs.Recovery.{LeavesIfSynced}
use Rattle.xvnames.specs.declared.making.Named.{Named}

-- a path's last part, behind its last slash
pub record IsLastOf (path last : List ℕ) : Type 0 where
  pub from : ℕ
  pub rest : last ≡ drop from path
  pub begins : (from ≡ 0)
      ⊎ ((k : ℕ) × (from ≡ k + 1) × (k < length path) × (slice_index path k ≡ 47))
  pub whole : (k : ℕ) → from ≤ k → k < length path → slice_index path k ≢ 47

-- a name without a `_` that it begins with
abbrev pub bare : List ℕ → List ℕ
bare [] = []
bare (byte ∷ rest) = if byte == 95 then rest else byte ∷ rest

-- the name that a file of the system gets
abbrev pub IsNameOf : List ℕ → List ℕ → Type 0
IsNameOf path name = (last : List ℕ) × IsLastOf path last × (name ≡ bare last)

-- files by their names, with their bytes
abbrev pub files_named : List Named → List (List ℕ × List ℕ)
files_named files = map (λ file. (file.name.now, file.bytes.items)) files

-- these are named by the paths
abbrev pub AreNamed : List (List ℕ) → List (List ℕ × List ℕ) → Type 0
AreNamed [] [] = ⊤
AreNamed [] (file ∷ files) = ⊥
AreNamed (path ∷ paths) [] = ⊥
AreNamed (path ∷ paths) (file ∷ files) = IsNameOf path file.0 × AreNamed paths files

-- a file of these bytes was made under a name, and written piece by piece
abbrev pub AddsFile : Form → List ℕ → List ℕ → Files → Files → Type 0
AddsFile form name bytes files new = (number : ℕ) × ((made : Files)
    × MakesAt (names_of name) number files made
    × WritesPieces form name bytes (piece_count bytes) made new)

-- these were, one after the other
abbrev pub AddsAll : Form → List (List ℕ × List ℕ) → Files → Files → Type 0
AddsAll form [] files new = new ≡ files
AddsAll form (file ∷ rest) files new =
    (mid : Files) × AddsFile form file.0 file.1 files mid × AddsAll form rest mid new

-- one was made under its name, and some pieces of its bytes were written, from the first on, or all
abbrev pub AddsPart : Form → List ℕ → List ℕ → Files → Files → Type 0
AddsPart form name bytes files new = (number : ℕ) × ((made : Files)
    × MakesAt (names_of name) number files made
    × WritesSome form name bytes (piece_count bytes) made new)

-- What a stop may leave of these: the first so many were added, in their order, and of the next one
-- nothing or a part.
abbrev pub AddsSome : Form → List (List ℕ × List ℕ) → Files → Files → Type 0
AddsSome form [] files new = new ≡ files
AddsSome form (file ∷ rest) files new = (new ≡ files)
    ⊎ (AddsPart form file.0 file.1 files new
    ⊎ ((mid : Files) × AddsFile form file.0 file.1 files mid × AddsSome form rest mid new))

-- so there are a root directory and these
pub record HasGrown (form : Form) (named : List (List ℕ × List ℕ)) (files : Files)
    : Type 0 where
  pub root : Files
  pub alone : IsRootAlone root
  pub added : AddsAll form named root files

-- There are a root directory and so much of these, a tree whose counts are right.
pub record HasGrownInPart (form : Form) (named : List (List ℕ × List ℕ)) (files : Files)
    : Type 0 where
  pub root : Files
  pub alone : IsRootAlone root
  pub added : AddsSome form named root files
  pub tree : IsTree files
  pub counted : AreCounted files

-- What a stop leaves of image x then: recovery gives a sound image with the files of x, or with that.
pub record KeepsGrowing (form : Form) (named : List (List ℕ × List ℕ)) (x z : Image)
    : Type 0 where
  pub log : IsTrue (is_lawful_log z)
  pub sound : IsSound (recovered z)
  pub files : (files_of (recovered z) ≡ files_of x)
      ⊎ HasGrownInPart form named (files_of (recovered z))

-- a stop at any moment from kernel k to m leaves such an image
abbrev pub LeavesGrowing : {D N : Type 0} → Ghosts D N → List (List ℕ × List ℕ) → Plain D → Plain D
    → Type 0
LeavesGrowing disk named k m =
    LeavesOnly disk.moment disk.leaves k.store.volume.device m.store.volume.device
    (KeepsGrowing (form_seen disk.image k) named (image_on disk.image k))

-- so does one from disk d to e, where d has no fault: since the first sync of the recovery, or at any
-- moment where nothing was held back on d
abbrev pub StopsGrowing : {D N : Type 0} → Ghosts D N → List (List ℕ × List ℕ) → D → D → Type 0
StopsGrowing disk named d e = verdict (disk.image d) ≡ None → LeavesIfSynced disk d e
    (KeepsGrowing (form_of (recovered (disk.image d))) named (recovered (disk.image d)))

-- The disk e has these, and the last call to it was a sync that was done where one is asked for. Its
-- image is sound, and its files are a tree whose counts are right.
pub record HasAddedTo {D N : Type 0} (disk : Ghosts D N) (sync : Bool) (form : Form)
    (named : List (List ℕ × List ℕ)) (e : D) : Type 0 where
  pub unsynced : D
  pub grown : HasGrown form named (files_of (disk.image unsynced))
  pub syncs : SyncsIf sync disk unsynced e
  pub sound : IsSound (disk.image e)
  pub tree : IsTree (files_of (disk.image e))
  pub counted : AreCounted (files_of (disk.image e))

-- the labels of a new file: major and minor
abbrev pub new_labels : ℕ → ℕ × ℕ
new_labels i = (0, 0)

-- each inode of an image has them
abbrev pub IsUnlabelled : Image → Type 0
IsUnlabelled x = (i : ℕ) → i < inode_count_of x → labels_of x i ≡ new_labels i

-- An image without files was made on the disk d, block by block, which was the disk `empty` then, and
-- files were put on that up to e. What a stop leaves has the first of the blocks, the superblock last;
-- then, the first of the files.
pub record IsMadeUpTo {D N : Type 0} (disk : Ghosts D N) (made : Making)
    (named : List (List ℕ × List ℕ)) (d empty e : D) : Type 0 where
  pub makes : MakesAs disk made.form made.size made.ninodes d empty
  pub order : MakesInOrder disk made.form made.size made.ninodes d empty
  pub stops : LeavesIfSynced disk empty e (KeepsGrowing made.form named (disk.image empty))

-- an image was made so on the disk d, whose fields are told; its files have the labels of new ones
pub record IsFilledWith {D N : Type 0} (disk : Ghosts D N) (made : Making)
    (named : List (List ℕ × List ℕ)) (d : D) (fields : Super) : Type 0 where
  pub empty : D
  pub now : D
  pub way : IsMadeUpTo disk made named d empty now
  pub adds : HasAddedTo disk made.sync made.form named now
  pub labels : HasLabels new_labels (disk.image now)
  pub told : fields ≡ planned_super made.size made.ninodes

-- a disk of so many blocks of zeroes was created in a file, and an image made on it
pub record HasMadeWith {F N : Type 0} (disk : Ghosts (FileDisk F) N) (made : Making)
    (named : List (List ℕ × List ℕ)) (fields : Super) : Type 0 where
  pub created : FileDisk F
  pub zeroes : disk.image created ≡ replicate made.size zero_block
  pub filled : IsFilledWith disk made named created fields

-- with the files at these paths
pub record HasMadeOf {F N : Type 0} (disk : Ghosts (FileDisk F) N) (made : Making)
    (paths : List (List ℕ)) : Type 0 where
  pub named : List (List ℕ × List ℕ)
  pub names : AreNamed paths named
  pub fields : Super
  pub makes : HasMadeWith disk made named fields

-- and its numbers were printed
pub record IsMadeWith {F N : Type 0} (disk : Ghosts (FileDisk F) N) (made : Making)
    (paths : List (List ℕ)) (old new : Option (List ℕ)) : Type 0 where
  pub made_of : HasMadeOf disk made paths
  pub printed : Appends old new (numbers_text (planned_super made.size made.ninodes))
