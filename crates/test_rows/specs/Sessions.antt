-- What a session's callers and watches are.
use Rattle.std.specs.Prelude.{◌≡◌, ℕ, List, Option, Some, slice_get}
use Rattle.rings.specs.Callers.{caller_names, intake_names}
use Rattle.rings.specs.declared.caller.Caller.{Caller}
use Rattle.rings.specs.declared.intake.RingIntake.{RingIntake}

-- each caller that has not finished is of its process's rings
abbrev pub AreCallersOf : RingIntake → List (Option Caller) → Type 0
AreCallersOf i callers = (p : ℕ) (c : Caller) → slice_get callers p ≡ Some (Some c)
    → intake_names i p ≡ Some (caller_names c)
