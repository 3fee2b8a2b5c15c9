-- Files copied out of an image.
use Rattle.std.specs.Prelude.{◌≡◌, ◌⊎◌, ⊤, ℕ, zero, suc, ◌<◌, true, List, [], length, slice_index_or, None, Option, Ok, Some, false}
use Rattle.std.specs.Io.KnownBytes.{Appends}
use Rattle.blocks.specs.Calls.{OnlyReads}
use Rattle.cmd.specs.Lemmas.Disks.{file_disk}
use Rattle.cmd.specs.Opened.{OpensDisk}
use Rattle.cmd.specs.declared.files.OnFile.{OnFile}
use Rattle.cmd.specs.declared.files.OnFile.TheVariants as on
use Rattle.model.specs.Files.{Files, file_in, files_of}
use Rattle.model.specs.Log.{recovered}
use Rattle.model.specs.Verdict.{verdict}
use Rattle.directories.specs.Entries.{entries_of, number_in}
use Rattle.directories.specs.Paths.{names_of}
use Rattle.directories.specs.Trees.{bytes_of, directory_in, root, leads_down, IsDirectory, IsTree}
use Rattle.directories.specs.Walks.{walked}
use Rattle.tree_looks.specs.Looks.{HasLooked, HasNoPaths, IsUnseen, IsUnshown, NotOfTree, Shows}
use Rattle.tree_looks.specs.declared.faults.GetRefusal.{GetRefusal}
use Rattle.tree_looks.specs.declared.faults.GetRefusal.TheVariants.{Made, Of, BadName, Output}
use Rattle.tree_looks.specs.declared.faults.LookRefusal.{LookRefusal}
use Rattle.tree_looks.specs.declared.faults.LookRefusal.TheVariants as look

-- these bytes were written to a file of the system
abbrev pub HasWrittenTo : {F : Type 0} → (F → Option (List ℕ)) → F → List ℕ → Type 0
HasWrittenTo {F} contents file bytes = (now : F) × Appends (contents file) (contents now) bytes

-- to a new one
abbrev pub HasWrittenNew : {F : Type 0} → (F → Option (List ℕ)) → List ℕ → Type 0
HasWrittenNew {F} contents bytes = (file : F) × HasWrittenTo contents file bytes

-- the bytes of the file at a path were read and written to a new one, and nothing was printed
pub record HasGot {F : Type 0} (remaining contents : F → Option (List ℕ)) (path : List ℕ)
    (old new : Option (List ℕ)) : Type 0 where
  pub bytes : List ℕ
  pub read : OpensDisk remaining file_disk false
      (λ d e. HasLooked file_disk (Shows path) d e (Some []) (Some bytes))
  pub written : HasWrittenNew contents bytes
  pub silent : new ≡ old

-- What is below a file was copied, down to a depth: of each entry of a directory that leads down, what
-- is below it if it is a directory, and else its bytes, into a new file.
abbrev pub CopiesBelow : {F : Type 0} → (F → Option (List ℕ)) → ℕ → Files → ℕ → Type 0
CopiesBelow contents zero files number = ⊤
CopiesBelow contents (suc depth) files number =
    (i : ℕ) → i < length (entries_of (directory_in files number))
    → leads_down (slice_index_or (entries_of (directory_in files number)) i []) ≡ true
    → (IsDirectory files (number_in (slice_index_or (entries_of (directory_in files number)) i []))
    → CopiesBelow contents depth files
    (number_in (slice_index_or (entries_of (directory_in files number)) i [])))
    × ((IsDirectory files (number_in (slice_index_or (entries_of (directory_in files number)) i []))
    → ⊥) → HasWrittenNew contents (bytes_of (file_in files
    (number_in (slice_index_or (entries_of (directory_in files number)) i [])))))

-- what an entry leads down to was
abbrev pub CopiesEntry : {F : Type 0} → (F → Option (List ℕ)) → ℕ → Files → List ℕ → Type 0
CopiesEntry contents depth files entry = leads_down entry ≡ true
    → (IsDirectory files (number_in entry)
    → CopiesBelow contents depth files (number_in entry))
    × ((IsDirectory files (number_in entry) → ⊥)
    → HasWrittenNew contents (bytes_of (file_in files (number_in entry))))

-- a path leads to a directory, and what is below that was copied
pub record HasCopied {F : Type 0} (contents : F → Option (List ℕ)) (path : List ℕ) (files : Files)
    : Type 0 where
  pub number : ℕ
  pub led : walked files root (names_of path) ≡ Ok number
  pub directory : IsDirectory files number
  pub below : CopiesBelow contents (length files) files number

-- The disk of a file was opened, and only read; its image had no fault, and its files, as recovery
-- would leave them, were a tree, of which what is below the directory at a path was copied. Nothing was
-- printed.
pub record HasGotAll {F : Type 0} (remaining contents : F → Option (List ℕ)) (path : List ℕ)
    (old new : Option (List ℕ)) : Type 0 where
  pub copied : OpensDisk remaining file_disk false (λ d e. OnlyReads file_disk d e
      × (verdict (file_disk.image d) ≡ None)
      × IsTree (files_of (recovered (file_disk.image d)))
      × HasCopied contents path (files_of (recovered (file_disk.image d))))
  pub silent : new ≡ old

-- a new file was not made, or not written, and is none
abbrev pub IsOfNew : GetRefusal → Type 0
IsOfNew (Made fault) = ⊤
IsOfNew (Of r) = ⊥
IsOfNew BadName = ⊥
IsOfNew Output = ⊤

-- or a folder was not made with all that is below it: a name can't be that of a file, or memory for a
-- path was refused
abbrev pub IsOfFolder : GetRefusal → Type 0
IsOfFolder (Made fault) = ⊤
IsOfFolder (Of r) = r ≡ on.Of look.NoMemory
IsOfFolder BadName = ⊤
IsOfFolder Output = ⊤

-- what is below the directory at a path of these files was not copied: it leads to none, or the folder
-- was not made
abbrev pub IsUncopied : List ℕ → Files → GetRefusal → Type 0
IsUncopied path files (Made fault) = ⊤
IsUncopied path files (Of (on.File fault)) = ⊥
IsUncopied path files (Of (on.Of r)) = HasNoPaths path files r
IsUncopied path files BadName = ⊤
IsUncopied path files Output = ⊤

-- no disk was opened from a file; or one was, and only read, and its files could not be had, or they
-- refuse, for this reason
abbrev pub IsUnread : {F : Type 0} → (F → Option (List ℕ)) → (Files → LookRefusal → Type 0)
    → OnFile LookRefusal → Type 0
IsUnread remaining refuses (on.File fault) = ⊤
IsUnread remaining refuses (on.Of r) = OpensDisk remaining file_disk false
    (λ d e. OnlyReads file_disk d e × IsUnseen file_disk refuses d e r)

-- Why the file at a path was not copied: the new one was not made or written, or its bytes were not
-- read, or memory for them was refused; `none` says that nothing was printed, here and below.
abbrev pub IsUngot : {F : Type 0} → (F → Option (List ℕ)) → List ℕ → Type 0 → GetRefusal → Type 0
IsUngot remaining path none (Made fault) = none
IsUngot remaining path none (Of r) = none
    × IsUnread remaining (λ files why. IsUnshown path files why ⊎ (why ≡ look.Output)) r
IsUngot remaining path none BadName = ⊥
IsUngot remaining path none Output = none

-- why what is below the directory at a path was not
abbrev pub IsUngotAll : {F : Type 0} → (F → Option (List ℕ)) → List ℕ → Type 0 → GetRefusal
    → Type 0
IsUngotAll remaining path none (Made fault) = none
IsUngotAll remaining path none (Of r) = none × IsUnread remaining (NotOfTree (HasNoPaths path)) r
IsUngotAll remaining path none BadName = none
IsUngotAll remaining path none Output = none
