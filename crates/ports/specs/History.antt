-- What a kernel took of a process and gave to it, and what an intake says of it.
use Rattle.std.specs.Prelude.{◌≡◌, ◌≢◌, ℕ, Bool, true, List, [], ◌∷◌, ◌++◌, Option, Some, None}
use Rattle.model.specs.declared.types.operations.Op.{Op}
use Rattle.model.specs.declared.types.operations.Answer.{Answer}

-- One process's side of an intake: the operations that are known to wait, the next first, and
-- whether a place for one answer is kept.
pub record Side : Type 0 where
  pub ahead : List Op
  pub has_room : Bool

-- a process's operations and answers, the oldest first
pub record History : Type 0 where
  pub taken : List Op
  pub given : List Answer

-- nothing was taken or given
abbrev pub nothing_yet : History
nothing_yet = record { taken = []; given = [] }

-- the first of a list
abbrev pub first_in : {A : Type 0} → List A → Option A
first_in [] = None
first_in (a ∷ rest) = Some a

-- the same ports as before
abbrev pub SameNames : {N : Type 0} → (ℕ → N) → (ℕ → N) → Type 0
SameNames old new = (p : ℕ) → new p ≡ old p

-- the other processes' sides are as they were
abbrev pub OthersStay : (ℕ → Side) → (ℕ → Side) → ℕ → Type 0
OthersStay old new pid = (p : ℕ) → p ≢ pid → new p ≡ old p

-- a place that was kept is kept
abbrev pub RoomStays : (ℕ → Side) → (ℕ → Side) → Type 0
RoomStays old new = (p : ℕ) → (old p).has_room ≡ true → (new p).has_room ≡ true

-- every history that fitted fits
abbrev pub AllFit : (ℕ → History → Type 0) → (ℕ → History → Type 0) → Type 0
AllFit old new = (p : ℕ) (h : History) → old p h → new p h

-- every history that fitted fits, with this change to that of one process
pub record FitWith (old new : ℕ → History → Type 0) (pid : ℕ) (f : History → History) : Type 0 where
  pub own : (h : History) → old pid h → new pid (f h)
  pub others : (p : ℕ) (h : History) → p ≢ pid → old p h → new p h

-- an operation was taken, if there was one
abbrev pub takes : Option Op → History → History
takes None h = h
takes (Some op) h = record { taken = h.taken ++ op ∷ []; given = h.given }

-- an answer was given
abbrev pub gives : Answer → History → History
gives answer h = record { taken = h.taken; given = h.given ++ answer ∷ [] }
