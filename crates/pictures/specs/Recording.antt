-- The steps of a run, recorded turn by turn.
use Rattle.std.specs.Prelude.{ℕ, List, [], ◌∷◌, ◌++◌, nat_le, length, if◌then◌else◌, Option, Some, None}
use Rattle.model.specs.declared.types.operations.Step.{Step}
use Rattle.model.specs.declared.types.operations.Step.TheVariants as step
use Rattle.messages.specs.declared.deeds.StepNote.{StepNote}
use Rattle.messages.specs.declared.events.Event.{Event}
use Rattle.messages.specs.declared.events.Event.TheVariants.{Stepped, Answered, Shut, Stopped}
use Rattle.pictures.specs.Replies.{gist_of}
use Rattle.pictures.specs.declared.replies.Gist.{Gist}
use Rattle.pictures.specs.declared.types.Moment.{Moment}

-- what a process was answered in a turn
abbrev pub answer_in : Event → Option Gist
answer_in (Stepped p s) = None
answer_in (Answered p a) = Some (gist_of a.reply)
answer_in Shut = None
answer_in (Stopped n) = None

-- it was behind the last of its steps, which didn't move
abbrev pub answer_behind : Option Gist → Step → Option Gist
answer_behind answer step.Moved = None
answer_behind answer step.Answered = answer
answer_behind answer (step.Sleeping cause) = answer
answer_behind answer step.Idle = answer
answer_behind answer step.NoMemory = answer
answer_behind answer step.ShutDown = answer
answer_behind answer step.Halted = answer

abbrev pub moment_at : Option Gist → ℕ → StepNote → Moment
moment_at answer column note = record {
  column = column;
  note = note;
  answer = answer_behind answer note.step;
}

-- A step is recorded behind those before it: up to one more than a picture has.
abbrev pub with_moment : Option Gist → List Moment → StepNote → List Moment
with_moment answer ms note =
    if nat_le (length ms) 2000 then ms ++ moment_at answer (length ms) note ∷ [] else ms
