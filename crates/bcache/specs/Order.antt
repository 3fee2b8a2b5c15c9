-- The recency order of the 40 buffers, the one released last first.
use Rattle.std.specs.Prelude.{◌≡◌, ℕ, ◌<◌, ◌==◌, not, if◌then◌else◌, Bool, true, false, List, [], ◌∷◌, length, slice_index, reverse, Option, Some, None}
use Rattle.std.specs.List.{filter, range_with_len}
use Rattle.model.specs.Soundness.{count_of}

abbrev pub buffer_count : ℕ
buffer_count = 40

-- the order at the start
abbrev pub first_order : List ℕ
first_order = reverse (range_with_len 0 buffer_count)

-- 40 slots, each once
pub record IsOrder (order : List ℕ) : Type 0 where
  pub all : length order ≡ buffer_count
  pub each : (slot : ℕ) → slot < buffer_count → count_of slot order ≡ 1

-- a slot at the front, the others in their order
abbrev pub moved_to_front : List ℕ → ℕ → List ℕ
moved_to_front order slot = slot ∷ filter (λ s. not (s == slot)) order

-- a release moves its slot to the front where no reference is left, and else none
abbrev pub order_after_release : List ℕ → ℕ → ℕ → List ℕ
order_after_release order slot references_left =
    if references_left == 0 then moved_to_front order slot else order

abbrev pub later_or : Option ℕ → Bool → ℕ → Option ℕ
later_or (Some later) is_free slot = Some later
later_or None true slot = Some slot
later_or None false slot = None

-- the last slot of an order without references, if there is one
abbrev pub victim_in : List ℕ → List ℕ → Option ℕ
victim_in references [] = None
victim_in references (slot ∷ order) =
    later_or (victim_in references order) (slice_index references slot == 0) slot
