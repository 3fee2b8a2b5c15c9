-- A process's two queues.
use Rattle.std.specs.Prelude.{◌≡◌, ℕ, ◌+◌, ◌-◌, ◌^◌, min, [], Option, Some, None}
use Rattle.model.specs.declared.types.operations.Answer.{Answer}
use Rattle.ports.specs.declared.lane.Lane.{Lane}

-- nothing waits, and nothing was ever put in
pub record IsEmptyLane (l : Lane) : Type 0 where
  pub waiting : l.waiting.items ≡ []
  pub answers : l.answers.items ≡ []
  pub submitted : l.submitted ≡ 0
  pub polled : l.polled ≡ 0

pub record SameAnswers (old new : Lane) : Type 0 where
  pub answers : new.answers.items ≡ old.answers.items
  pub polled : new.polled ≡ old.polled

-- a count of the answers that were polled, after one more or none
abbrev pub polled_after : Option Answer → ℕ → ℕ
polled_after None count = count
polled_after (Some answer) count = min (count + 1) (2 ^ 64 - 1)

pub record SameWaiting (old new : Lane) : Type 0 where
  pub waiting : new.waiting.items ≡ old.waiting.items
  pub submitted : new.submitted ≡ old.submitted
