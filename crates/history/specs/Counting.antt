-- What is counted of operations and groups, so that each has room in the journal.
use Rattle.std.specs.Prelude.{◌≡◌, ◌≤◌, ℕ, ◌+◌, if◌then◌else◌, length, count_by}
use Rattle.history.specs.declared.types.Process.{Process}
use Rattle.history.specs.Processes.{World, process, is_before}

-- what was counted is in the journal, or will be
pub record IsCounted (opened : ℕ) (w : World) : Type 0 where
  -- there is room for each operation that has not had its turn
  pub room : w.journal.room ≡ count_by (λ (q : Process). is_before q.at) w.processes
  -- each operation of a process has its entry, but for that one
  pub begun : (p : ℕ) →
      (process w p).begun ≤ length w.journal.list + (if is_before (process w p).at then 1 else 0)
  -- each group has an operation
  pub groups : opened ≤ length w.journal.list + w.journal.room
