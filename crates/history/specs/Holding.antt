-- The entries of operations under way, which alone are in memory.
use Rattle.std.specs.Prelude.{◌≡◌, ◌<◌, ℕ, List, length, slice_index_or, Option, Some, None}
use Rattle.model.specs.declared.types.operations.Entry.{Entry}
use Rattle.history.specs.declared.types.Process.{Process}
use Rattle.history.specs.Journal.{entry_in}
use Rattle.history.specs.Processes.{idle, entry_index}

-- a process has the entry of its operation, at that index
abbrev pub HoldsAt : List Entry → ℕ → Option Entry → Option ℕ → Type 0
HoldsAt es p held None = Unit {0}
HoldsAt es p held (Some k) =
    (k < length es) × (held ≡ Some (entry_in es k)) × ((entry_in es k).pid ≡ p)

-- each process has the entry of its operation under way
pub record AreHeld (held : List (Option Entry)) (ps : List Process) (es : List Entry) : Type 0 where
  pub many : length held ≡ length ps
  pub each : (p : ℕ) →
      HoldsAt es p (slice_index_or held p None) (entry_index (slice_index_or ps p idle).at)
