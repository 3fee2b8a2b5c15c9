use Rattle.std.specs.Prelude.{◌≡◌, ◌<◌, ℕ, Bool, List, length}
use Rattle.blocks.specs.declared.sync.SyncDisk.{SyncDisk}
use Rattle.crash_check.specs.Choices.{HasDue, beginning}
use Rattle.crash_check.specs.declared.choices.Due.{Due}
use Rattle.crash_check.proofs.choices.try_beginnings.Given as goal

-- so many of the first get through, and each shorter beginning has its files
pub record HasShorter (d : SyncDisk) (due : Due) (held kept : ℕ) (keep : List Bool) : Type 0 where
  pub choice : keep ≡ beginning held kept
  pub each : (k : ℕ) → k < kept → HasDue d due (beginning held k)

abbrev pub invariant-loop-kept : goal.invariant-loop-kept
invariant-loop-kept l = HasShorter l.disk l.due (length l.fn.keep) l.kept l.keep
