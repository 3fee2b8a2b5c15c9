-- A queue intake as contracts see it.
use Rattle.std.specs.Prelude.{◌≡◌, ◌≢◌, ℕ, ◌+◌, ◌-◌, ◌<◌, ◌^◌, min, List, [], ◌∷◌, ◌++◌, Option, Some, None, length, slice_get, nat_lt}
use Rattle.model.specs.declared.types.operations.Op.{Op}
use Rattle.model.specs.declared.types.operations.Answer.{Answer}
use Rattle.ports.specs.History.{Side, History, AllFit, RoomStays}
use Rattle.ports.specs.declared.lane.Lane.{Lane}
use Rattle.ports.specs.declared.queues.QueueIntake.{QueueIntake}

abbrev pub waiting_at : Option Lane → List Op
waiting_at None = []
waiting_at (Some l) = l.waiting.items

abbrev pub answers_at : Option Lane → List Answer
answers_at None = []
answers_at (Some l) = l.answers.items

-- what a process handed in and the kernel has not taken, first in first out
abbrev pub waiting : QueueIntake → ℕ → List Op
waiting q p = waiting_at (slice_get q.lanes.items p)

-- what the kernel gave and a process has not polled, first in first out
abbrev pub answers : QueueIntake → ℕ → List Answer
answers q p = answers_at (slice_get q.lanes.items p)

abbrev pub polled_at : Option Lane → ℕ
polled_at None = 0
polled_at (Some l) = l.polled

-- how many answers a process has polled, up to the greatest number
abbrev pub polled : QueueIntake → ℕ → ℕ
polled q p = polled_at (slice_get q.lanes.items p)

abbrev pub submitted_at : Option Lane → ℕ
submitted_at None = 0
submitted_at (Some l) = l.submitted

-- how many operations a process has handed in
abbrev pub submitted : QueueIntake → ℕ → ℕ
submitted q p = submitted_at (slice_get q.lanes.items p)

-- what no call of the kernel's side changes: how many operations were handed in, and how many
-- answers polled
abbrev pub name_at : Option Lane → ℕ × ℕ
name_at lane = (submitted_at lane, polled_at lane)

abbrev pub queue_name : QueueIntake → ℕ → ℕ × ℕ
queue_name q p = name_at (slice_get q.lanes.items p)

-- how many processes it serves
abbrev pub queue_count : QueueIntake → ℕ
queue_count q = length q.lanes.items

abbrev pub queue_side : QueueIntake → ℕ → Side
queue_side q p = record { ahead = waiting q p; has_room = nat_lt (length (answers q p)) 16 }

-- what was handed in was taken or waits, and the answers that wait are those that were given and
-- not polled
pub record FitsLane (l : Lane) (h : History) : Type 0 where
  pub submitted : l.submitted ≡ length h.taken + length l.waiting.items
  pub given : (before : List Answer) × (h.given ≡ before ++ l.answers.items)
      × (l.polled ≡ min (length before) (2 ^ 64 - 1))

abbrev pub FitsAt : Option Lane → History → Type 0
FitsAt None h = Unit {0}
FitsAt (Some l) h = FitsLane l h

abbrev pub QueueFits : QueueIntake → ℕ → History → Type 0
QueueFits q p h = FitsAt (slice_get q.lanes.items p) h

-- every other process's queues stay
abbrev pub OthersWait : QueueIntake → QueueIntake → ℕ → Type 0
OthersWait old new pid = (p : ℕ) → p ≢ pid → (waiting new p ≡ waiting old p)
    × (answers new p ≡ answers old p) × (polled new p ≡ polled old p)

-- the operation stands behind those that waited, in one of 16 places, and n were handed in by now
pub record IsHandedIn (old new : QueueIntake) (pid : ℕ) (op : Op) (n : ℕ) : Type 0 where
  pub last : waiting new pid ≡ waiting old pid ++ op ∷ []
  pub number : (h : History) → QueueFits old pid h → n ≡ length h.taken + length (waiting new pid)
  pub places : length (waiting old pid) < 16

-- what a call of one process leaves: the others' queues, how many there are, each place that is
-- kept, and each history that fits
pub record LeavesRest (old new : QueueIntake) (pid : ℕ) : Type 0 where
  pub others : OthersWait old new pid
  pub processes : queue_count new ≡ queue_count old
  pub room : RoomStays (queue_side old) (queue_side new)
  pub fits : AllFit (QueueFits old) (QueueFits new)
