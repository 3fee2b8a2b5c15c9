-- What a check of a script's stops comes to, over a disk that holds writes back or over one that
-- doesn't.
use Rattle.std.specs.Prelude.{ℕ, Bool, true, false, List, codes, Option}
use Rattle.std.specs.Io.KnownBytes.{Appends}
use Rattle.scripts.specs.declared.schedule.Word.{Word}
use Rattle.scripts.specs.declared.script.Task.{Task}
use Rattle.json_lines.specs.Counts.{number_object}
use Rattle.messages.specs.Output.{images_text}
use Rattle.crash_check.specs.declared.fault.StopsFault.{StopsFault}
use Rattle.crash_check.specs.declared.fault.StopsFault.TheVariants.{Mismatch, NoMemory}
use Rattle.crash_check.specs.declared.mismatch.Mismatch.{Mismatch as SomeMismatch}
use Rattle.messages.specs.declared.printed.Printed.{Printed}
use Rattle.messages.specs.declared.printed.Printed.TheVariants.{Fault, Output}
use Rattle.stops.specs.Holding.{AllHeldPass, SomeHeldFails}
use Rattle.stops.specs.Trials.{AllPass, SomeFails}
use Rattle.pictures.specs.declared.stops.Column.{Column}

-- every run passes, with so many images in all, and these stops were tried
abbrev pub PassesAll : Bool → List Task → ℕ → List Word → ℕ → List Column → Type 0
PassesAll false tasks processes words images tried = AllPass tasks processes words images tried
PassesAll true tasks processes words images tried =
    AllHeldPass tasks processes words images tried

-- the one that a mismatch tells doesn't, and these passed before
abbrev pub FailsSome : Bool → List Task → ℕ → List Word → SomeMismatch → List Column → Type 0
FailsSome false tasks processes words m tried = SomeFails tasks processes words m tried
FailsSome true tasks processes words m tried = SomeHeldFails tasks processes words m tried

-- how many images there were, as an object of JSON or as a line
abbrev pub images_in : Bool → ℕ → List ℕ
images_in true images = number_object (codes "images") images
images_in false images = images_text images

-- all images passed, and how many there were was printed, as JSON or as text
abbrev pub ChecksAll : Bool → Bool → List Task → ℕ → List Word → List Column → Option (List ℕ)
    → Option (List ℕ) → Type 0
ChecksAll json held tasks processes words tried old new = (images : ℕ)
    × PassesAll held tasks processes words images tried × Appends old new (images_in json images)

-- why a check wasn't done; `none` says that nothing was printed
abbrev pub IsUnchecked : Bool → List Task → ℕ → List Word → List Column → Type 0
    → Printed StopsFault → Type 0
IsUnchecked held tasks processes words tried none (Fault (Mismatch m)) =
    FailsSome held tasks processes words m tried × none
IsUnchecked held tasks processes words tried none (Fault NoMemory) = none
IsUnchecked held tasks processes words tried none Output =
    (images : ℕ) × PassesAll held tasks processes words images tried
