-- What a copy has to know of the old image.
use Rattle.std.specs.Prelude.{◌≡◌, ◌≢◌, ℕ, ◌+◌, ◌==◌, ◌<◌, ◌≤◌, if◌then◌else◌, List, length, map, Option, Some, None, slice_index}
use Rattle.blocks.specs.Disk.{Image}
use Rattle.model.specs.declared.types.image.File.{File}
use Rattle.model.specs.declared.types.image.Form.TheVariants.{One, Two}
use Rattle.model.specs.Files.{Files, file_at, files_of}
use Rattle.model.specs.Layout.{form_of, greatest_size, inode_of, inode_count_of}
use Rattle.model.specs.Log.{recovered}
use Rattle.model.specs.Verdict.{verdict}
use Rattle.offline.specs.Clean.{clean_files}
use Rattle.offline.specs.Laws.{IsWholeInode}
use Rattle.offline.specs.Recovered.{IsRecoveredOf}
use Rattle.transfer.specs.Stages.{kind_at, listed}
use Rattle.transfer.specs.declared.source.Source.{Source}

-- the types of so many numbers from 1 on, 0 for a free one
pub record AreFirstKinds (x : Image) (kinds : List ℕ) (count : ℕ) : Type 0 where
  pub long : length kinds ≡ count
  pub each : (k : ℕ) → k < count → slice_index kinds k ≡ (inode_of x (k + 1)).kind

-- a copy of a file, to which one name leads
abbrev pub named_once : Option File → Option File
named_once None = None
named_once (Some file) = Some (record file { links = 1 })

-- copies of the files of an image, or of its clean ones, each with its number
abbrev pub copied_files : Image → Files
copied_files y = map named_once (files_of y)

abbrev pub rescued_files : Image → Files
rescued_files y = map named_once (clean_files y)

-- the copy of the file of a number that has a type among these, which are those of the numbers from 1
-- on
abbrev pub chosen_at : Image → List ℕ → ℕ → Option File
chosen_at y kinds i = if kind_at kinds i == 0 then None else named_once (file_at y i)

-- the files that are copied of an image: those of the numbers that have a type
abbrev pub chosen_files : Image → List ℕ → Files
chosen_files y kinds = listed (inode_count_of y) (chosen_at y kinds)

-- What is known of an image, of which files are copied: how to read it as recovered, and the types of
-- the numbers from 1 to the last that is copied. Each of these is whole, and its type is that of its
-- inode. A file of the image's form fits one of the new image's.
pub record IsSourceOf (x : Image) (source : Source) : Type 0 where
  pub image : IsRecoveredOf x source.image
  pub few : length source.kinds.items < inode_count_of x
  pub each : (k : ℕ) → k < length source.kinds.items → slice_index source.kinds.items k ≢ 0 →
      slice_index source.kinds.items k ≡ (inode_of (recovered x) (k + 1)).kind
  pub whole : (k : ℕ) → k < length source.kinds.items → slice_index source.kinds.items k ≢ 0 →
      IsWholeInode (recovered x) (inode_of (recovered x) (k + 1))
  pub fits : greatest_size (form_of x) ≤ greatest_size source.form

-- such an image, and the number of a file of it that is copied
pub record IsFileOf (x : Image) (source : Source) (i : ℕ) : Type 0 where
  pub is : IsSourceOf x source
  pub some : 1 ≤ i
  pub below : i < inode_count_of x
  pub whole : IsWholeInode (recovered x) (inode_of (recovered x) i)

-- all files of an image of the first form without a fault are copied into one of the second
pub record CopiesAll (x : Image) (source : Source) : Type 0 where
  pub sound : verdict x ≡ None
  pub first : form_of x ≡ One
  pub form : source.form ≡ Two
  pub files : chosen_files (recovered x) source.kinds.items ≡ copied_files (recovered x)

-- the clean files of an image are copied into one of its own form
pub record CopiesClean (x : Image) (source : Source) : Type 0 where
  pub form : source.form ≡ form_of x
  pub files : chosen_files (recovered x) source.kinds.items ≡ rescued_files (recovered x)
