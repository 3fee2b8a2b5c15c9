-- What the steps of a process's operation make of files and image, by what they answer.
use Rattle.std.specs.Prelude.{◌≡◌, ◌≢◌, ℕ, true, IsTrue, length, Option, Some, None}
use Rattle.blocks.specs.Disk.{Image}
use Rattle.model.specs.declared.types.image.Form.{Form}
use Rattle.model.specs.declared.types.operations.Op.{Op}
use Rattle.model.specs.declared.types.operations.Reply.{Reply}
use Rattle.model.specs.declared.types.operations.TaskProgress.{TaskProgress}
use Rattle.model.specs.Crash.{IsUntouched, labels_of}
use Rattle.model.specs.Files.{Files}
use Rattle.model.specs.Journal.{is_making, is_number}
use Rattle.model.specs.Layout.{inode_of, inode_count_of}
use Rattle.model.specs.Operations.{after}

-- the operation, answered so, makes files of these that have P
abbrev pub Answers : Form → Op → Reply → Files → (Files → Type 0) → Type 0
Answers form op reply files P = (new : Files) × (after form files op reply ≡ Some new) × P new

abbrev pub TurnsTo : Form → Op → Option Reply → Files → (Files → Type 0) → Type 0
TurnsTo form op None files P = P files
TurnsTo form op (Some reply) files P = Answers form op reply files P

-- the files after a step have P
abbrev pub FilesThen : Form → Op → TaskProgress → Files → (Files → Type 0) → Type 0
FilesThen form op TaskProgress.Moved files P = P files
FilesThen form op (TaskProgress.Turned reply) files P = TurnsTo form op reply files P
FilesThen form op (TaskProgress.Decided reply) files P = Answers form op reply files P
FilesThen form op TaskProgress.Over files P = P files
FilesThen form op (TaskProgress.Sleeping why) files P = P files
FilesThen form op (TaskProgress.Fault fault) files P = P files

-- the reply that stands from the turn on
abbrev pub reply_at_turn : TaskProgress → Option Reply
reply_at_turn TaskProgress.Moved = None
reply_at_turn (TaskProgress.Turned reply) = reply
reply_at_turn (TaskProgress.Decided reply) = None
reply_at_turn TaskProgress.Over = None
reply_at_turn (TaskProgress.Sleeping why) = None
reply_at_turn (TaskProgress.Fault fault) = None

-- what a step that made a number, or none, did to what no file shows
pub record Marks (made : Option Reply) (x y : Image) : Type 0 where
  pub size : length y ≡ length x
  pub untouched : IsUntouched x y
  pub others : (i : ℕ) → IsTrue (is_number (inode_count_of x) i) → is_making i made ≢ true →
      (inode_of y i).kind ≢ 0
      → ((inode_of x i).kind ≢ 0) × (labels_of y i ≡ labels_of x i)
  pub fresh : (i : ℕ) → IsTrue (is_number (inode_count_of x) i) → is_making i made ≡ true →
      labels_of y i ≡ (0, 0)
