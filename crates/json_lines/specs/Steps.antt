-- The objects of a turn's steps.
use Rattle.std.specs.Prelude.{ℕ, ◌+◌, List, [], ◌∷◌, ◌++◌, codes, decimal, if◌then◌else◌, Option, Some, None}
use Rattle.messages.specs.Deeds.{commit_word, is_plain, made_deed, role_text, task_word}
use Rattle.messages.specs.Events.{name_of}
use Rattle.messages.specs.declared.deeds.StepNote.{StepNote}
use Rattle.model.specs.declared.types.operations.Step.{Step}
use Rattle.model.specs.declared.types.operations.Step.TheVariants as step
use Rattle.wal.specs.declared.deeds.CommitDeed.{CommitDeed}
use Rattle.wal.specs.declared.deeds.Deed.{Deed}
use Rattle.wal.specs.declared.deeds.TaskDeed.{TaskDeed}
use Rattle.wal.specs.declared.types.Part.{Part}
use Rattle.json_lines.specs.Blocks.{write_field}
use Rattle.json_lines.specs.Fields.{number_field, word_field}
use Rattle.json_lines.specs.declared.written.Written.{Written}

-- ---- what a step was to do, with the inode or the block that it is about

abbrev pub deed_field : List ℕ → List ℕ
deed_field word = word_field (codes "deed") word

unfoldable pub about_field : TaskDeed → List ℕ
about_field (TaskDeed.Reference i) = number_field (codes "inode") i
about_field (TaskDeed.Lock i k) = number_field (codes "inode") i
about_field (TaskDeed.Get b) = number_field (codes "block") b
about_field (TaskDeed.Use b) = number_field (codes "block") b
about_field (TaskDeed.Look b) = number_field (codes "block") b
about_field TaskDeed.Finish = []
about_field TaskDeed.Put = []

abbrev pub deed_fields : Option Deed → List ℕ
deed_fields None = deed_field (codes "none")
deed_fields (Some Deed.Begin) = deed_field (codes "begin")
deed_fields (Some (Deed.Task deed)) = deed_field (task_word deed) ++ about_field deed
deed_fields (Some Deed.End) = deed_field (codes "end")
deed_fields (Some (Deed.Commit deed)) = deed_field (commit_word deed)

-- ---- what it came to

abbrev pub came_word : Step → List ℕ
came_word step.Moved = codes "moved"
came_word step.Answered = codes "answered"
came_word (step.Sleeping cause) = codes "sleeping"
came_word step.Idle = codes "idle"
came_word step.NoMemory = codes "nomemory"
came_word step.ShutDown = codes "shutdown"
came_word step.Halted = codes "halted"

-- why a process sleeps
abbrev pub why_field : Step → List ℕ
why_field (step.Sleeping cause) = word_field (codes "why") (name_of cause)
why_field s = []

unfoldable pub came_fields : Step → List ℕ
came_fields s = word_field (codes "came") (came_word s) ++ why_field s

-- who held what it was to get or to take, where it neither moved nor was answered
abbrev pub holder_field : Option ℕ → List ℕ
holder_field None = []
holder_field (Some p) = number_field (codes "by") p

unfoldable pub by_field : Step → Option ℕ → List ℕ
by_field s holder = if is_plain s then [] else holder_field holder

-- ---- what it wrote

-- a write: its number, its block, and which part of the commit it is of
unfoldable pub place_fields : ℕ → ℕ → CommitDeed → List ℕ
place_fields number b deed =
    number_field (codes "write") number ++ number_field (codes "block") b
    ++ word_field (codes "part") (commit_word deed)

-- the part behind which a disk is synced
abbrev pub part_word : Part → List ℕ
part_word Part.Log = codes "log"
part_word Part.Header = codes "header"
part_word Part.Homes = codes "home"
part_word Part.Clear = codes "clear"

-- what a step of a commit wrote, over an image of n inode numbers: of which block a log block is, how
-- many homes of which group the header names, and what a home is; or the sync that it made
unfoldable pub written_fields : ℕ → CommitDeed → ℕ → ℕ → List ℕ
written_fields n (CommitDeed.LogBlock place home) writes syncs =
    place_fields writes (3 + place) (CommitDeed.LogBlock place home)
    ++ number_field (codes "place") place ++ number_field (codes "home") home
written_fields n (CommitDeed.Header count group) writes syncs =
    place_fields writes 2 (CommitDeed.Header count group)
    ++ number_field (codes "count") count ++ number_field (codes "group") group
written_fields n (CommitDeed.Home b) writes syncs =
    place_fields writes b (CommitDeed.Home b) ++ word_field (codes "area") (role_text n b)
written_fields n CommitDeed.Clear writes syncs = place_fields writes 2 CommitDeed.Clear
written_fields n (CommitDeed.Sync part) writes syncs =
    number_field (codes "sync") syncs ++ word_field (codes "part") (part_word part)

abbrev pub made_fields : Option CommitDeed → ℕ → ℕ → ℕ → List ℕ
made_fields None n writes syncs = []
made_fields (Some deed) n writes syncs = written_fields n deed writes syncs

-- the bytes of a step's write among those of a run's writes, in their order, where it made one
abbrev pub content_fields : List Written → Option CommitDeed → ℕ → List ℕ
content_fields written None writes = []
content_fields written (Some (CommitDeed.Sync part)) writes = []
content_fields written (Some deed) writes = write_field written writes

-- the groups that were opened with a step, and those that are committed
unfoldable pub group_fields : ℕ → ℕ → List ℕ
group_fields opened committed =
    number_field (codes "opened") opened ++ number_field (codes "committed") committed

-- ---- THE OBJECT OF A STEP, the k-th of its turn, over an image of n inode numbers, in a run of these
-- writes, with its line feed

unfoldable pub head_text : ℕ → ℕ → List ℕ
head_text k process = codes "{\"step\":" ++ decimal k ++ number_field (codes "process") process

unfoldable pub told_fields : StepNote → List ℕ
told_fields note =
    deed_fields note.deed ++ came_fields note.step ++ by_field note.step note.holder

unfoldable pub step_object : ℕ → List Written → ℕ → StepNote → List ℕ
step_object n written k note =
    head_text k note.process ++ told_fields note
    ++ made_fields (made_deed note.step note.deed) n note.writes note.syncs
    ++ group_fields note.opened note.committed
    ++ content_fields written (made_deed note.step note.deed) note.writes ++ codes "}\n"

-- those of steps that are numbered from k on
abbrev pub objects_from : ℕ → List Written → ℕ → List StepNote → List ℕ
objects_from n written k [] = []
objects_from n written k (note ∷ notes) =
    step_object n written k note ++ objects_from n written (k + 1) notes

-- those of a turn
abbrev pub step_objects : ℕ → List Written → List StepNote → List ℕ
step_objects n written notes = objects_from n written 1 notes
