-- An image that was checked, and what is read of its files.
use Rattle.std.specs.Prelude.{◌≡◌, ℕ, Some, None}
use Rattle.blocks.specs.Disk.{Image}
use Rattle.model.specs.Files.{bytes_in, file_in, files_of}
use Rattle.model.specs.Verdict.{verdict}
use Rattle.model.specs.declared.types.image.Dinode.{Dinode}
use Rattle.offline.specs.Recovered.{IsRecoveredOf, MayReadFile}
use Rattle.offline.specs.declared.recovered.Recovered.{Recovered}

-- the reader of an image that has no fault
pub record IsCheckedOf (x : Image) (image : Recovered) : Type 0 where
  pub recovered : IsRecoveredOf x image
  pub sound : verdict x ≡ None

-- the inode of the file of number i of image y, which may be read
pub record IsInodeOf (y : Image) (i : ℕ) (d : Dinode) : Type 0 where
  pub file : file_in (files_of y) i
      ≡ Some (record { kind = d.kind; links = d.nlink; bytes = bytes_in y d })
  pub readable : MayReadFile y d
