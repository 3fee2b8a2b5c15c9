-- What a turn of a process comes to, and turns one after the other.
use Rattle.std.specs.Prelude.{◌≡◌, ℕ, Bool, true, false, List, [], ◌∷◌, Option, Some, None, if◌then◌else◌}
use Rattle.wal.specs.declared.types.DeviceFault.{DeviceFault}
use Rattle.model.specs.declared.types.operations.Answer.{Answer}
use Rattle.model.specs.declared.types.operations.Step.{Step}
use Rattle.scripts.specs.declared.schedule.Word.{Word}
use Rattle.messages.specs.declared.events.Event.{Event}
use Rattle.messages.specs.declared.events.Event.TheVariants.{Stepped, Answered, Stopped}

-- what a turn came to whose last step answered so, and whose process had that answer waiting
abbrev pub answered_or : ℕ → Step → Option Answer → Event
answered_or p s (Some a) = Answered p a
answered_or p s None = Stepped p s

-- the same where the write to be stopped was reached, or not
abbrev pub event_of : Bool → ℕ → ℕ → Step → Option Answer → Event
event_of fired stop p s a = if fired then Stopped stop else answered_or p s a

abbrev pub IfLast : Bool → Type 0 → Type 0 → Type 0
IfLast true last more = last
IfLast false last more = more

-- The turns of these words, one for each up to the last that is made, make new of old, and come to
-- these: each turn does as `makes` says of its word and of what it comes to.
abbrev pub Turns : {S E : Type 0} → (E → Bool) → (Word → E → S → S → Type 0) → List Word → List E → S
    → S → Type 0
Turns last makes [] came old new = (came ≡ []) × (new ≡ old)
Turns last makes (first ∷ words) [] old new = ⊥
Turns {S} last makes (first ∷ words) (one ∷ came) old new =
    (mid : S) × makes first one old mid
    × IfLast (last one) ((came ≡ []) × (new ≡ mid)) (Turns last makes words came mid new)

-- the fault that is told: none where the write that was to be stopped was reached
abbrev pub told_fault : Bool → Option DeviceFault → Option DeviceFault
told_fault fired fault = if fired then None else fault
