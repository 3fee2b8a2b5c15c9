-- What is heard of the faults of an image; a hearer's relation says what it was, and is once it heard of
-- a list of them.
use Rattle.std.specs.Prelude.{◌≡◌, ◌≢◌, ℕ, List, [], ◌∷◌, ◌++◌, take, Result, MatchResult}
use Rattle.model.specs.declared.types.fault.CheckFault.{CheckFault}
use Rattle.model.specs.declared.types.fault.CheckFault.TheVariants.{Disk}

-- of these faults the first ones were heard, so many as there were until it broke off
abbrev pub HearsFirst : {H : Type 0} → (H → List CheckFault → H → Type 0) → List CheckFault → H → H
    → Type 0
HearsFirst hears faults old new = (count : ℕ) × hears old (take count faults) new

-- the same, with those that were heard and those that were not
pub record BreaksOff {H : Type 0} (hears : H → List CheckFault → H → Type 0)
    (faults : List CheckFault) (old new : H) : Type 0 where
  pub front : List CheckFault
  pub rest : List CheckFault
  pub split : faults ≡ front ++ rest
  pub heard : hears old front new

-- these faults were told, or a beginning of them
abbrev pub TellsAll : {H : Type 0} → (H → List CheckFault → H → Type 0) → List CheckFault → H → H
    → Result (Unit {0}) CheckFault → Type 0
TellsAll hears faults old new result =
    MatchResult result (λ _. hears old faults new) (λ _. BreaksOff hears faults old new)

-- that fault was told, alone, unless it is that the disk failed
abbrev pub TellsAlone : {H : Type 0} → (H → List CheckFault → H → Type 0) → CheckFault → H → H
    → Result (Unit {0}) CheckFault → Type 0
TellsAlone hears fault old new result =
    MatchResult result (λ _. (fault ≢ Disk) × hears old (fault ∷ []) new)
    (λ refusal. (refusal ≡ Disk) × (fault ≡ Disk) × (new ≡ old))
