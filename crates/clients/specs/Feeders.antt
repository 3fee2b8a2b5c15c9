-- What a feeder of operations is.
use Rattle.std.specs.Prelude.{◌≡◌, ◌⊎◌, ◌+◌, ◌^◌, ℕ, List, [], ◌∷◌, ◌++◌, Option, Some, length, slice_get}
use Rattle.model.specs.declared.types.operations.Op.{Op}
use Rattle.rings.specs.Callers.{caller_names, places, polled, submitted}
use Rattle.rings.specs.declared.caller.Caller.{Caller}
use Rattle.rings.specs.declared.name.Names.{Names}
use Rattle.scripts.specs.declared.script.Task.{Task}
use Rattle.clients.specs.Backlogs.{backlog_of, ops_of}
use Rattle.clients.specs.declared.backlog.Backlog.{Backlog}
use Rattle.clients.specs.declared.feeder.Feeder.{Feeder}

-- the rings that it has
abbrev pub feeder_names : Feeder → Names
feeder_names s = caller_names s.caller

-- all its operations: those that it handed in, and then those that it still has
abbrev pub feeder_ops : Feeder → List Op
feeder_ops s = submitted s.caller ++ backlog_of s.backlog

-- the same one, after calls
abbrev pub IsSameFeeder : Feeder → Feeder → Type 0
IsSameFeeder old new =
    (feeder_names new ≡ feeder_names old) × (feeder_ops new ≡ feeder_ops old)

-- no operation can be handed in: there is none, or its ring has no place that it knows to be free,
-- or no number is left
abbrev pub HasHandedIn : Feeder → Type 0
HasHandedIn s = (backlog_of s.backlog ≡ []) ⊎ ((places s.caller ≡ 0)
    ⊎ (length (submitted s.caller) + 1 ≡ 2 ^ 64))

-- a feeder of these rings with these operations, which has done nothing
pub record IsNewSource (names : Option Names) (ops : List Op) (s : Feeder) : Type 0 where
  pub rings : names ≡ Some (feeder_names s)
  pub all : feeder_ops s ≡ ops
  pub fresh : (submitted s.caller ≡ []) × (polled s.caller ≡ [])

-- each process has its feeder, with its operations of a script
pub record AreNewFeeders (names : ℕ → Option Names) (tasks : List Task) (processes : ℕ)
    (ss : List Feeder) : Type 0 where
  pub count : length ss ≡ processes
  pub each : (p : ℕ) (s : Feeder) → slice_get ss p ≡ Some s
      → IsNewSource (names p) (ops_of p tasks) s

-- each of the feeders has its process's rings
abbrev pub HaveSourceRings : (ℕ → Option Names) → List Feeder → Type 0
HaveSourceRings names ss =
    (p : ℕ) (s : Feeder) → slice_get ss p ≡ Some s → names p ≡ Some (feeder_names s)

-- a feeder has that caller, and those operations
abbrev pub IsPaired : Caller → Backlog → Feeder → Type 0
IsPaired k b s = (s.caller ≡ k) × (s.backlog ≡ b)

-- each of the feeders has its caller and its operations
abbrev pub ArePaired : List Caller → List Backlog → List Feeder → Type 0
ArePaired [] [] [] = Unit {0}
ArePaired [] [] (s ∷ ss) = ⊥
ArePaired [] (b ∷ bs) ss = ⊥
ArePaired (k ∷ ks) [] ss = ⊥
ArePaired (k ∷ ks) (b ∷ bs) [] = ⊥
ArePaired (k ∷ ks) (b ∷ bs) (s ∷ ss) = IsPaired k b s × ArePaired ks bs ss
