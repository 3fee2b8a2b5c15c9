-- What a check of a disk answers.
use Rattle.std.specs.Prelude.{◌≡◌, ◌≤◌, ◌<◌, ◌-◌, ◌⊎◌, ℕ, List, length, Result, MatchResult, None}
use Rattle.blocks.specs.Disk.{Image, block_at}
use Rattle.model.specs.Format.{most_blocks, most_inodes, inode_start}
use Rattle.model.specs.Layout.{super_of, form_of, inode_block, bitmap_block, meta_count}
use Rattle.model.specs.declared.types.fault.CheckFault.{CheckFault}
use Rattle.model.specs.declared.types.image.Super.{Super}
use Rattle.model.specs.declared.types.image.Form.{Form}
use Rattle.model.specs.Verdict.{or_else, inodes_fault, marks_fault}
use Rattle.offline.specs.Cause.{IsCause}
use Rattle.offline.specs.Recovered.{IsRecoveredOf}
use Rattle.model.specs.Log.{logged_count, recovered}
use Rattle.model.specs.Files.{files_of, file_count}
use Rattle.offline.specs.declared.checking.Report.{Report}
use Rattle.offline.specs.declared.owners.Owners.{Owners}
use Rattle.offline.specs.declared.recovered.Recovered.{Recovered}

-- the superblock and its form, how many blocks are logged, and the files once they are recovered
pub record IsReportOf (x : Image) (report : Report) : Type 0 where
  pub sup : report.sup ≡ super_of x
  pub form : report.form ≡ form_of x
  pub logged : report.logged ≡ logged_count x
  pub files : report.files ≡ file_count (files_of (recovered x))

-- the superblock of an image that has no fault of geometry, and what follows of the recovered image
pub record IsGround (x : Image) (sup : Super) (form : Form) : Type 0 where
  pub same : sup ≡ super_of (recovered x)
  pub is_form : form_of (recovered x) ≡ form
  pub size : sup.size ≡ length x
  pub some : 2 ≤ sup.ninodes
  pub few : sup.ninodes ≤ most_inodes
  pub room : meta_count sup.size sup.ninodes < sup.size
  pub small : sup.size ≤ most_blocks
  pub bitmap : sup.bmapstart ≡ bitmap_block sup.ninodes

-- what noting a recovered image's blocks rests on: the image, and a table with its limits
pub record MayClaim (x : Image) (image : Recovered) (owners : Owners) : Type 0 where
  pub recovered : IsRecoveredOf x image
  pub first : inode_start ≤ owners.first_data
  pub size : owners.size ≡ length x

-- the same of a pass over its inodes, and their form
pub record MayJudge (x : Image) (image : Recovered) (owners : Owners) : Type 0 where
  pub claims : MayClaim x image owners
  pub is_form : form_of (recovered x) ≡ image.form

-- the block of inode i is in the image, and was read already where the inode before it was
pub record MayLoad (x : Image) (block : List ℕ) (i : ℕ) : Type 0 where
  pub inside : inode_block i < length x
  pub loaded : (i ≡ 1) ⊎ (block ≡ block_at (recovered x) (inode_block (i - 1)))

-- inodes and bitmap were judged; the answer is how many files there are
abbrev pub JudgesContents : Image → ℕ → ℕ → Result ℕ CheckFault → Type 0
JudgesContents y old_faults new_faults result =
    MatchResult result
    (λ files. (or_else (inodes_fault y) (marks_fault y) ≡ None) × (files ≡ file_count (files_of y)))
    (λ fault. IsCause (or_else (inodes_fault y) (marks_fault y)) old_faults new_faults fault)
