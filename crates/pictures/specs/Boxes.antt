-- The box of a step in its process's lane.
use Rattle.std.specs.Prelude.{ℕ, ◌+◌, List, [], ◌++◌, codes, decimal, Option, Some, None}
use Rattle.model.specs.declared.types.operations.Step.{Step}
use Rattle.model.specs.declared.types.operations.Step.TheVariants as step
use Rattle.model.specs.declared.types.operations.Why.{Why}
use Rattle.model.specs.declared.types.operations.Why.TheVariants as why
use Rattle.wal.specs.declared.deeds.CommitDeed.{CommitDeed}
use Rattle.wal.specs.declared.deeds.Deed.{Deed}
use Rattle.wal.specs.declared.deeds.TaskDeed.{TaskDeed}
use Rattle.messages.specs.declared.deeds.StepNote.{StepNote}
use Rattle.pictures.specs.Places.{column_x, lane_y}
use Rattle.pictures.specs.Replies.{reply_words}
use Rattle.pictures.specs.Markups.{markup_text}
use Rattle.pictures.specs.Shapes.{area, area_text, counted_text, label_open, label_text, spot}
use Rattle.pictures.specs.declared.markups.Markup.{Markup}
use Rattle.pictures.specs.declared.replies.Gist.{Gist}
use Rattle.pictures.specs.declared.shapes.Spot.{Spot}
use Rattle.pictures.specs.declared.types.Moment.{Moment}

-- ---- what a step did: its class, its word, and the block or the inode that it was about

abbrev pub commit_class : CommitDeed → List ℕ
commit_class (CommitDeed.LogBlock place home) = codes "w"
commit_class (CommitDeed.Header count group) = codes "c"
commit_class (CommitDeed.Home b) = codes "h"
commit_class CommitDeed.Clear = codes "e"
commit_class (CommitDeed.Sync part) = codes "s"

abbrev pub deed_class : Option Deed → List ℕ
deed_class None = codes "i"
deed_class (Some Deed.Begin) = codes "b"
deed_class (Some (Deed.Task deed)) = codes "t"
deed_class (Some Deed.End) = codes "b"
deed_class (Some (Deed.Commit deed)) = commit_class deed

abbrev pub task_words : TaskDeed → List ℕ
task_words (TaskDeed.Reference i) = codes "ref "
task_words (TaskDeed.Lock i k) = codes "lock "
task_words (TaskDeed.Get b) = codes "get "
task_words (TaskDeed.Use b) = codes "use "
task_words (TaskDeed.Look b) = codes "look "
task_words TaskDeed.Finish = codes "finish"
task_words TaskDeed.Put = codes "put"

abbrev pub commit_words : CommitDeed → List ℕ
commit_words (CommitDeed.LogBlock place home) = codes "log"
commit_words (CommitDeed.Header count group) = codes "COMMIT"
commit_words (CommitDeed.Home b) = codes "home"
commit_words CommitDeed.Clear = codes "clear"
commit_words (CommitDeed.Sync part) = codes "sync"

abbrev pub deed_word : Option Deed → List ℕ
deed_word None = codes "none"
deed_word (Some Deed.Begin) = codes "begin"
deed_word (Some (Deed.Task deed)) = task_words deed
deed_word (Some Deed.End) = codes "end"
deed_word (Some (Deed.Commit deed)) = commit_words deed

abbrev pub task_number : TaskDeed → Option ℕ
task_number (TaskDeed.Reference i) = Some i
task_number (TaskDeed.Lock i k) = Some i
task_number (TaskDeed.Get b) = Some b
task_number (TaskDeed.Use b) = Some b
task_number (TaskDeed.Look b) = Some b
task_number TaskDeed.Finish = None
task_number TaskDeed.Put = None

abbrev pub deed_number : Option Deed → Option ℕ
deed_number None = None
deed_number (Some Deed.Begin) = None
deed_number (Some (Deed.Task deed)) = task_number deed
deed_number (Some Deed.End) = None
deed_number (Some (Deed.Commit deed)) = None

-- ---- the same of a step, by what it came to

abbrev pub class_by : Step → Option Deed → List ℕ
class_by step.Moved deed = deed_class deed
class_by step.Answered deed = deed_class deed
class_by (step.Sleeping cause) deed = codes "z"
class_by step.Idle deed = codes "i"
class_by step.NoMemory deed = codes "x"
class_by step.ShutDown deed = codes "i"
class_by step.Halted deed = codes "x"

abbrev pub word_by : Step → Option Deed → List ℕ
word_by step.Moved deed = deed_word deed
word_by step.Answered deed = deed_word deed
word_by (step.Sleeping cause) deed = codes "zzz"
word_by step.Idle deed = codes "idle"
word_by step.NoMemory deed = codes "no memory"
word_by step.ShutDown deed = codes "shut down"
word_by step.Halted deed = codes "HALTED"

abbrev pub number_by : Step → Option Deed → Option ℕ
number_by step.Moved deed = deed_number deed
number_by step.Answered deed = deed_number deed
number_by (step.Sleeping cause) deed = None
number_by step.Idle deed = None
number_by step.NoMemory deed = None
number_by step.ShutDown deed = None
number_by step.Halted deed = None

unfoldable pub box_class : StepNote → List ℕ
box_class note = class_by note.step note.deed

unfoldable pub box_word : StepNote → List ℕ
box_word note = word_by note.step note.deed

unfoldable pub box_number : StepNote → Option ℕ
box_number note = number_by note.step note.deed

abbrev pub numbered_text : Option ℕ → List ℕ → Spot → List ℕ → List ℕ
numbered_text None class s words = label_text class s words
numbered_text (Some n) class s words = counted_text class s words n

unfoldable pub word_text : List ℕ → Spot → StepNote → List ℕ
word_text class s note = numbered_text (box_number note) class s (box_word note)

-- the box, and what the step did
unfoldable pub first_text : Moment → List ℕ
first_text m =
    area_text (box_class m.note) (area (column_x m.column + 2) (lane_y m.note.process + 3) 68 34)
    ++ word_text (box_class m.note) (spot (column_x m.column + 36) (lane_y m.note.process + 17)) m.note

-- ---- below that: what its process was answered, or why it waits

unfoldable pub answer_text : Moment → Gist → List ℕ
answer_text m answer =
    area_text (codes "a") (area (column_x m.column + 2) (lane_y m.note.process + 21) 68 16)
    ++ label_open (codes "a") (spot (column_x m.column + 36) (lane_y m.note.process + 33))
    ++ reply_words answer ++ markup_text Markup.LabelClose

abbrev pub cause_word : Why → List ℕ
cause_word why.Committing = codes "committing"
cause_word why.LogFull = codes "log full"
cause_word why.InodeHeld = codes "inode"
cause_word why.BufferHeld = codes "block"
cause_word why.NoBuffer = codes "no buffer"
cause_word why.AnswersFull = codes "answers full"

abbrev pub holder_words : Option ℕ → List ℕ
holder_words None = []
holder_words (Some p) = codes " by " ++ decimal p

unfoldable pub cause_text : Spot → Why → Option ℕ → List ℕ
cause_text s cause holder =
    label_text (codes "y") s (cause_word cause ++ holder_words holder)

abbrev pub waiting_by : Step → Spot → Option ℕ → List ℕ
waiting_by step.Moved s holder = []
waiting_by step.Answered s holder = []
waiting_by (step.Sleeping cause) s holder = cause_text s cause holder
waiting_by step.Idle s holder = []
waiting_by step.NoMemory s holder = []
waiting_by step.ShutDown s holder = []
waiting_by step.Halted s holder = []

unfoldable pub waiting_text : Moment → List ℕ
waiting_text m =
    waiting_by m.note.step (spot (column_x m.column + 36) (lane_y m.note.process + 31)) m.note.holder

abbrev pub below_by : Option Gist → Moment → List ℕ
below_by None m = waiting_text m
below_by (Some answer) m = answer_text m answer

unfoldable pub below_text : Moment → List ℕ
below_text m = below_by m.answer m

-- ---- THE BOX OF A STEP, below the number of its column

unfoldable pub head_text : ℕ → List ℕ
head_text column = counted_text (codes "n") (spot (column_x column + 36) 14) [] (column + 1)

unfoldable pub box_text : Moment → List ℕ
box_text m = head_text m.column ++ first_text m ++ below_text m ++ codes "\n"
