-- The entries that a journal had, by the events that made them.
use Rattle.std.specs.Prelude.{ℕ, ◌+◌, ◌++◌, ◌∷◌, [], List, slice_set}
use Rattle.model.specs.declared.types.operations.Entry.{Entry}
use Rattle.model.specs.declared.types.operations.Reply.{Reply}
use Rattle.history.specs.Journal.{entry_in}
use Rattle.history.specs.Open.{told}

-- the entries, the oldest first, and how many events made them
pub record Script : Type 0 where
  pub list : List Entry
  pub events : ℕ

abbrev pub events_of : Script → ℕ
events_of s = s.events

abbrev pub told_with : Script → Entry → Script
told_with s e = record { list = s.list ++ e ∷ []; events = s.events + 1 }

abbrev pub told_reply : Script → ℕ → Reply → Script
told_reply s k reply =
    record { list = slice_set s.list k (told (entry_in s.list k) reply); events = s.events + 1 }
