-- What an event makes of the entries.
use Rattle.std.specs.Prelude.{[]}
use Rattle.history.specs.declared.told.Event.{Event}
use Rattle.history.specs.Told.{Script, told_with, told_reply}

abbrev pub told_by : Event → Script
told_by Event.Start = record { list = []; events = 0 }
told_by (Event.Added s e) = told_with s e.value
told_by (Event.Replied s k reply) = told_reply s k reply.value
