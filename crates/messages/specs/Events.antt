-- The lines of a replay's turns.
use Rattle.std.specs.Prelude.{ℕ, Bool, true, false, List, ◌++◌, ◌==◌, length, codes, decimal, if◌then◌else◌}
use Rattle.hex.specs.Hex.{encode_lower}
use Rattle.model.specs.declared.types.operations.Answer.{Answer}
use Rattle.model.specs.declared.types.operations.Reply.{Reply}
use Rattle.model.specs.declared.types.operations.Reply.TheVariants.{Made, NoInode, Wrote, Bytes, Done, StatOf, NoFile, BadOffset, TooBig, TooLong, BadType}
use Rattle.model.specs.declared.types.operations.Step.{Step}
use Rattle.model.specs.declared.types.operations.Step.TheVariants as step
use Rattle.model.specs.declared.types.operations.Why.{Why}
use Rattle.model.specs.declared.types.operations.Why.TheVariants as why
use Rattle.messages.specs.declared.events.Event.{Event}
use Rattle.messages.specs.declared.events.Event.TheVariants.{Stepped, Answered, Shut, Stopped}

-- the number of what a step waits for
abbrev pub number_of : Why → ℕ
number_of why.Committing = 1
number_of why.LogFull = 2
number_of why.InodeHeld = 3
number_of why.BufferHeld = 4
number_of why.NoBuffer = 5
number_of why.AnswersFull = 6

abbrev pub name_of : Why → List ℕ
name_of why.Committing = codes "Committing"
name_of why.LogFull = codes "LogFull"
name_of why.InodeHeld = codes "InodeHeld"
name_of why.BufferHeld = codes "BufferHeld"
name_of why.NoBuffer = codes "NoBuffer"
name_of why.AnswersFull = codes "AnswersFull"

-- what a step came to
abbrev pub step_text : Step → List ℕ
step_text step.Moved = codes "moved"
step_text step.Answered = codes "answered"
step_text (step.Sleeping w) = codes "sleeping " ++ decimal (number_of w) ++ codes " " ++ name_of w
step_text step.Idle = codes "idle"
step_text step.NoMemory = codes "nomemory"
step_text step.ShutDown = codes "shutdown"
step_text step.Halted = codes "halted"

-- bytes as hexadecimal digits of lower case, or a dash where there are none
abbrev pub bytes_text : List ℕ → List ℕ
bytes_text bytes = if length bytes == 0 then codes "-" else encode_lower bytes

abbrev pub reply_text : Reply → List ℕ
reply_text (Made inode) = codes "made " ++ decimal inode
reply_text NoInode = codes "noinode"
reply_text (Wrote count) = codes "wrote " ++ decimal count
reply_text (Bytes bytes) = codes "bytes " ++ bytes_text bytes
reply_text Done = codes "done"
reply_text (StatOf kind links size) = codes "stat " ++ decimal kind ++ codes " " ++ decimal size
reply_text NoFile = codes "refused 1 NoFile"
reply_text BadOffset = codes "refused 2 BadOffset"
reply_text TooBig = codes "refused 3 TooBig"
reply_text TooLong = codes "refused 4 TooLong"
reply_text BadType = codes "refused 5 BadType"

abbrev pub answer_text : Answer → List ℕ
answer_text a =
    codes "answered " ++ decimal a.seq ++ codes " " ++ decimal a.group ++ codes " "
    ++ reply_text a.reply

-- what a turn came to
abbrev pub event_text : Event → List ℕ
event_text (Stepped pid s) = decimal pid ++ codes " " ++ step_text s
event_text (Answered pid a) = decimal pid ++ codes " " ++ answer_text a
event_text Shut = codes "shut"
event_text (Stopped n) = codes "stopped before write " ++ decimal n

abbrev pub is_halt : Step → Bool
is_halt step.Moved = false
is_halt step.Answered = false
is_halt (step.Sleeping _) = false
is_halt step.Idle = false
is_halt step.NoMemory = false
is_halt step.ShutDown = false
is_halt step.Halted = true

-- the disk failed in the turn, or was made to, and none comes behind it
abbrev pub is_last : Event → Bool
is_last (Stepped _ s) = is_halt s
is_last (Answered _ _) = false
is_last Shut = false
is_last (Stopped _) = true

-- the line of a turn
abbrev pub event_line : Event → List ℕ
event_line event = event_text event ++ codes "\n"
