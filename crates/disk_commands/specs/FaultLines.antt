-- What is printed of faults while they are heard of.
use Rattle.std.specs.Prelude.{◌≡◌, ℕ, ◌+◌, Bool, true, false, List, [], length, take, Option, None, Result, MatchResult}
use Rattle.std.specs.List.{flat_map}
use Rattle.std.specs.Io.KnownBytes.{Appends}
use Rattle.model.specs.Faults.{first_in}
use Rattle.model.specs.Verdict.{or_else}
use Rattle.model.specs.declared.types.fault.CheckFault.{CheckFault}
use Rattle.json_lines.specs.Arrays.{elements_behind}
use Rattle.json_lines.specs.Faults.{fault_object}
use Rattle.messages.specs.Output.{fault_line}
use Rattle.disk_commands.specs.declared.fault_lines.FaultLines.{FaultLines}
use Rattle.disk_commands.specs.declared.fault_lines.Heard.{Heard}

-- faults behind so many others, as elements of an array of JSON or as lines
abbrev pub faults_in : Bool → ℕ → List CheckFault → List ℕ
faults_in true others faults = elements_behind fault_object others faults
faults_in false others faults = flat_map fault_line faults

-- faults were printed behind others
pub record HasLines (json : Bool) (faults : List CheckFault) (old new : Option (List ℕ))
    (before after : Heard) : Type 0 where
  pub others : before.is_printed ≡ true
  pub count : after.count ≡ before.count + length faults
  pub lines : Appends old new (faults_in json before.count faults)

-- faults were heard of behind others, and printed unless the output failed
pub record PrintsFaults {O : Type 0} (contents : O → Option (List ℕ)) (json : Bool)
    (faults : List CheckFault) (old : O) (before : Heard) (new : O) (after : Heard) : Type 0 where
  pub none : faults ≡ [] → new ≡ old
  pub first : after.first ≡ or_else before.first (first_in faults)
  pub printed : after.is_printed ≡ true
      → HasLines json faults (contents old) (contents new) before after

-- the same of who holds the output
abbrev pub HearsLines : {O : Type 0} → (O → Option (List ℕ)) → FaultLines O → List CheckFault
    → FaultLines O → Type 0
HearsLines contents old faults new = (new.out.ghost_name ≡ old.out.ghost_name)
    × (new.json ≡ old.json)
    × PrintsFaults contents old.json faults old.out.now old.heard new.out.now new.heard

-- nothing was heard yet
abbrev pub nothing_heard : Heard
nothing_heard = record { first = None; count = 0; is_printed = true }

-- these faults were heard of, or a beginning of them
abbrev pub PrintsAll : {O : Type 0} → (O → Option (List ℕ)) → Bool → List CheckFault → O → O
    → Heard → Result (Unit {0}) CheckFault → Type 0
PrintsAll contents json faults old new heard ended =
    MatchResult ended (λ _. PrintsFaults contents json faults old nothing_heard new heard)
    (λ _. (count : ℕ) × PrintsFaults contents json (take count faults) old nothing_heard new heard)
