-- A new image is sound, and the files of an image without a fault may be read.
use Rattle.std.specs.Prelude.{◌≡◌, ◌≢◌, ℕ, ◌<◌, ◌≤◌, IsTrue, replicate, None}
use Rattle.blocks.specs.Disk.{Image, IsImage}
use Rattle.model.specs.declared.types.image.Dinode.{Dinode}
use Rattle.model.specs.declared.types.image.Form.{Form}
use Rattle.model.specs.Layout.{form_of, greatest_size, inode_of, inode_count_of, is_inode_count, is_size}
use Rattle.model.specs.Log.{is_lawful_log, recovered}
use Rattle.model.specs.Codec.{made_image}
use Rattle.model.specs.Files.{files_of, file_count}
use Rattle.model.specs.Soundness.{IsSound}
use Rattle.model.specs.Verdict.{geometry_fault, verdict}
use Rattle.offline.specs.Clean.{is_clean}
use Rattle.offline.specs.Recovered.{MayReadFile}

-- a sound image of that many inode numbers, none of which has a file
pub record IsWithoutFiles (x : Image) (inode_count : ℕ) : Type 0 where
  pub sound : IsSound x
  pub files : files_of x ≡ replicate inode_count None
  pub none : file_count (files_of x) ≡ 0

-- a new image within the limits is sound, and has no file
abbrev pub NewImageIsSound : Type 0
NewImageIsSound = (form : Form) (size inode_count : ℕ) →
    IsTrue (is_inode_count inode_count) → IsTrue (is_size size inode_count) →
    IsWithoutFiles (made_image form size inode_count) inode_count

-- where a check finds no fault, the file of each used inode that recovery leaves may be read
abbrev pub CheckedFilesMayBeRead : Type 0
CheckedFilesMayBeRead = (x : Image) (i : ℕ) → IsImage x → verdict x ≡ None →
    1 ≤ i → i < inode_count_of x → (inode_of (recovered x) i).kind ≢ 0 →
    MayReadFile (recovered x) (inode_of (recovered x) i)

-- a used inode of a type and a size that there are, whose file may be read
pub record IsWholeInode (y : Image) (d : Dinode) : Type 0 where
  pub used : d.kind ≢ 0
  pub kind : d.kind ≤ 3
  pub size : d.size ≤ greatest_size (form_of y)
  pub reads : MayReadFile y d

-- where superblock and log are lawful, the inode of each clean number that recovery leaves is whole
abbrev pub CleanFilesAreWhole : Type 0
CleanFilesAreWhole = (x : Image) (i : ℕ) → IsImage x → geometry_fault x ≡ None →
    IsTrue (is_lawful_log x) → i < inode_count_of x → IsTrue (is_clean (recovered x) i) →
    IsWholeInode (recovered x) (inode_of (recovered x) i)
