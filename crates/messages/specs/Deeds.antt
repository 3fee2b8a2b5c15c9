-- The lines of a turn's steps, and of what they wrote.
use Rattle.std.specs.Prelude.{ℕ, Bool, true, false, List, [], ◌++◌, ◌+◌, ◌==◌, nat_lt, codes, decimal, if◌then◌else◌, Option, Some, None}
use Rattle.model.specs.Layout.{bitmap_block}
use Rattle.model.specs.declared.types.operations.Step.{Step}
use Rattle.model.specs.declared.types.operations.Step.TheVariants as step
use Rattle.wal.specs.Deeds.{commit_of}
use Rattle.wal.specs.declared.deeds.CommitDeed.{CommitDeed}
use Rattle.wal.specs.declared.deeds.Deed.{Deed}
use Rattle.wal.specs.declared.deeds.TaskDeed.{TaskDeed}
use Rattle.messages.specs.Events.{is_halt, step_text}
use Rattle.messages.specs.declared.deeds.Detail.{Detail}
use Rattle.messages.specs.declared.deeds.StepNote.{StepNote}

-- ---- what a step was to do, and what it came to

abbrev pub task_word : TaskDeed → List ℕ
task_word (TaskDeed.Reference i) = codes "ref"
task_word (TaskDeed.Lock i k) = codes "lock"
task_word (TaskDeed.Get b) = codes "get"
task_word (TaskDeed.Use b) = codes "use"
task_word (TaskDeed.Look b) = codes "look"
task_word TaskDeed.Finish = codes "finish"
task_word TaskDeed.Put = codes "put"

-- a block is told where it is got or used
abbrev pub task_text : TaskDeed → List ℕ
task_text (TaskDeed.Reference i) = task_word (TaskDeed.Reference i)
task_text (TaskDeed.Lock i k) = task_word (TaskDeed.Lock i k)
task_text (TaskDeed.Get b) = codes "get " ++ decimal b
task_text (TaskDeed.Use b) = codes "use " ++ decimal b
task_text (TaskDeed.Look b) = task_word (TaskDeed.Look b)
task_text TaskDeed.Finish = task_word TaskDeed.Finish
task_text TaskDeed.Put = task_word TaskDeed.Put

abbrev pub commit_word : CommitDeed → List ℕ
commit_word (CommitDeed.LogBlock place home) = codes "log"
commit_word (CommitDeed.Header count group) = codes "header"
commit_word (CommitDeed.Home b) = codes "home"
commit_word CommitDeed.Clear = codes "clear"
commit_word (CommitDeed.Sync part) = codes "sync"

abbrev pub deed_text : Option Deed → List ℕ
deed_text None = codes "none"
deed_text (Some Deed.Begin) = codes "begin"
deed_text (Some (Deed.Task deed)) = task_text deed
deed_text (Some Deed.End) = codes "end"
deed_text (Some (Deed.Commit deed)) = commit_word deed

-- of a step that moved or was answered its deed alone is told
abbrev pub is_plain : Step → Bool
is_plain step.Moved = true
is_plain step.Answered = true
is_plain (step.Sleeping cause) = false
is_plain step.Idle = false
is_plain step.NoMemory = false
is_plain step.ShutDown = false
is_plain step.Halted = false

-- who held what it was to get or to take
abbrev pub holder_text : Option ℕ → List ℕ
holder_text None = []
holder_text (Some p) = codes " by " ++ decimal p

abbrev pub came_text : Step → Option ℕ → List ℕ
came_text s holder = if is_plain s then [] else codes " " ++ step_text s ++ holder_text holder

-- the line of a step
abbrev pub step_line : StepNote → List ℕ
step_line note =
    codes "step " ++ deed_text note.deed ++ came_text note.step note.holder ++ codes "\n"

-- ---- what it wrote

-- what a block behind the log is, in an image of n inode numbers
abbrev pub role_text : ℕ → ℕ → List ℕ
role_text n b =
    if nat_lt b (bitmap_block n) then codes "inodes"
    else if b == bitmap_block n then codes "bitmap" else codes "data"

-- the write of a number, to a block
abbrev pub place_text : ℕ → ℕ → List ℕ
place_text number b = codes "write " ++ decimal number ++ codes " block " ++ decimal b ++ codes " "

-- what it is: the log block at a place, of a home; the header; or a home
abbrev pub log_text : ℕ → ℕ → List ℕ
log_text place home = codes "log " ++ decimal place ++ codes " of " ++ decimal home ++ codes "\n"

abbrev pub header_text : ℕ → ℕ → List ℕ
header_text count group =
    codes "header n " ++ decimal count ++ codes " group " ++ decimal group ++ codes "\n"

abbrev pub home_text : ℕ → ℕ → List ℕ
home_text n b = codes "home " ++ decimal b ++ codes " " ++ role_text n b ++ codes "\n"

-- the line of a write, or of a sync, by how many there were with it since the image was recovered
abbrev pub written_text : CommitDeed → ℕ → ℕ → ℕ → List ℕ
written_text (CommitDeed.LogBlock place home) n writes syncs =
    place_text writes (3 + place) ++ log_text place home
written_text (CommitDeed.Header count group) n writes syncs =
    place_text writes 2 ++ header_text count group
written_text (CommitDeed.Home b) n writes syncs = place_text writes b ++ home_text n b
written_text CommitDeed.Clear n writes syncs = place_text writes 2 ++ codes "clear\n"
written_text (CommitDeed.Sync part) n writes syncs = codes "sync " ++ decimal syncs ++ codes "\n"

-- what was told of a step that didn't halt, where it was one of a commit
abbrev pub made_deed : Step → Option Deed → Option CommitDeed
made_deed s deed = if is_halt s then None else commit_of deed

abbrev pub made_text : Option CommitDeed → ℕ → ℕ → ℕ → List ℕ
made_text None n writes syncs = []
made_text (Some deed) n writes syncs = written_text deed n writes syncs

abbrev pub write_line : ℕ → StepNote → List ℕ
write_line n note = made_text (made_deed note.step note.deed) n note.writes note.syncs

-- ---- WHAT IS TOLD of a step, over an image of n inode numbers
abbrev pub note_text : Detail → ℕ → StepNote → List ℕ
note_text detail n note =
    (if detail.steps then step_line note else [])
    ++ (if detail.writes then write_line n note else [])
