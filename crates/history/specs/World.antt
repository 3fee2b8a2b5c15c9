-- The values of the journal and of the processes, as contracts see them.
use Rattle.std.specs.Prelude.{ℕ, Bool, List}
use Rattle.model.specs.declared.types.operations.Entry.{Entry}
use Rattle.history.specs.declared.types.Process.{Process}

-- the entries, the oldest first, and for how many more there is room
pub record Entries : Type 0 where
  pub list : List Entry
  pub room : ℕ

-- the processes, their journal, and whether no operation begins any more
pub record World : Type 0 where
  pub processes : List Process
  pub journal : Entries
  pub is_shut : Bool
