-- What a recorder heard.
use Rattle.std.specs.Prelude.{ℕ, List, ◌+◌, length, min}
use Rattle.messages.specs.declared.deeds.StepNote.{StepNote}
use Rattle.messages.specs.declared.events.Event.{Event}
use Rattle.pictures.specs.Along.{left_along}
use Rattle.pictures.specs.Recording.{answer_in, with_moment}
use Rattle.pictures.specs.declared.recorder.Recorder.{Recorder}

-- The steps of a turn are counted and recorded, with what came of it.
abbrev pub heard : Event → List StepNote → Recorder → Recorder
heard event notes r = record {
  moments = left_along (with_moment (answer_in event)) r.moments notes;
  steps = min (r.steps + length notes) 18446744073709551615;
}
