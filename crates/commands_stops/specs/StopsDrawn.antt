-- What became of a script that was checked at each of its stops, and of their page.
use Rattle.std.specs.Prelude.{◌≡◌, ◌<◌, ◌≤◌, ⊤, ℕ, min, Bool, true, false, List, [], ◌++◌, length, codes, MatchResult, Option, Result, Ok, Some, None}
use Rattle.crash_check.specs.Faults.{mismatch_text}
use Rattle.crash_check.specs.declared.fault.StopsFault.{StopsFault}
use Rattle.crash_check.specs.declared.fault.StopsFault.TheVariants.{Mismatch, NoMemory as Memory}
use Rattle.crash_check.specs.declared.mismatch.Mismatch.{Mismatch as SomeMismatch}
use Rattle.messages.specs.Refusing.{refusal_line}
use Rattle.messages.specs.Telling.{Telling, naming, plain as simple}
use Rattle.messages.specs.declared.printed.Printed.{Printed}
use Rattle.messages.specs.declared.printed.Printed.TheVariants.{Fault, Output}
use Rattle.pictures.specs.Stops.{stops_text}
use Rattle.pictures.specs.declared.stops.Column.{Column}
use Rattle.pictures.specs.declared.stops.Lost.{Lost}
use Rattle.scripts.specs.declared.schedule.Word.{Word}
use Rattle.scripts.specs.declared.script.Task.{Task}
use Rattle.commands_drawing.specs.Drawn.{IsDrawn, picture_telling}
use Rattle.commands_runs.specs.Tried.{IsExploredNew, IsTooLong}
use Rattle.commands_runs.specs.declared.picturing.PicturedRefusal.{PicturedRefusal}
use Rattle.commands_runs.specs.declared.picturing.PicturedRefusal.TheVariants as pictured
use Rattle.stops.specs.Tried.{at_of}
use Rattle.commands_stops.specs.Scripts.{ChecksScript, IsUncheckedFor, place_text, stops_files_telling}
use Rattle.commands_stops.specs.declared.stopping.DrawnStopsRefusal.{DrawnStopsRefusal}
use Rattle.commands_stops.specs.declared.stopping.DrawnStopsRefusal.TheVariants.{NoMemory, Stops, Picture}
use Rattle.commands_stops.specs.declared.stopping.StopsRefusal.{StopsRefusal}
use Rattle.commands_stops.specs.declared.stopping.StopsRefusal.TheVariants as check
use Rattle.commands_stops.specs.declared.stops_drawing.Undrawn.{Undrawn}
use Rattle.commands_stops.specs.declared.stops_drawing.Undrawn.TheVariants as undrawn

-- ---- how the refusals are told

abbrev pub undrawn_telling : Undrawn → Telling
undrawn_telling (undrawn.TooLong n) = naming (codes "picture") 2 (codes "TooLong") n
undrawn_telling undrawn.NoMemory = simple (codes "picture") 1 (codes "NoMemory")
undrawn_telling (undrawn.Picture f) = picture_telling f

abbrev pub drawn_stops_telling : DrawnStopsRefusal → Telling
drawn_stops_telling NoMemory = simple (codes "picture") 1 (codes "NoMemory")
drawn_stops_telling (Stops r u) = stops_files_telling r
drawn_stops_telling (Picture u) = undrawn_telling u

-- where a mismatch was met
abbrev pub where_text : DrawnStopsRefusal → List ℕ
where_text NoMemory = []
where_text (Stops r u) = place_text r
where_text (Picture u) = []

-- the line of a program of that name for it, and behind it where a mismatch was met
abbrev pub unchecked_text : List ℕ → DrawnStopsRefusal → List ℕ
unchecked_text program r = refusal_line program (drawn_stops_telling r) ++ where_text r

-- ---- what a page's file gets

-- a plain page has so many stops, and a file got that of these, and of one behind them that didn't pass
abbrev pub DrawsPlain : {F : Type 0} → (F → Option (List ℕ)) → List Column → Option Lost → Type 0
DrawsPlain contents tried lost =
    (length tried ≤ 2000) × IsDrawn contents (stops_text tried lost)

-- a file got such a page, or one that walks through the whole run of these operations, and has these stops
abbrev pub DrawsStops : {F : Type 0} → (F → Option (List ℕ)) → Bool → Bool → List Task → ℕ
    → List Word → List Column → Option Lost → Type 0
DrawsStops contents true held tasks processes words tried lost = DrawsPlain contents tried lost
DrawsStops contents false held tasks processes words tried lost =
    IsExploredNew contents held tasks processes words tried lost

-- the one behind them is that of a mismatch, which is told there
abbrev pub DrawsLost : {F : Type 0} → (F → Option (List ℕ)) → Bool → Bool → List Task → ℕ
    → List Word → List Column → SomeMismatch → Type 0
DrawsLost contents plain held tasks processes words tried m = (lost : Lost)
    × (lost.at ≡ at_of m.stop) × (lost.words.now ≡ mismatch_text m)
    × DrawsStops contents plain held tasks processes words tried (Some lost)

-- The stops that were tried where a check was refused: those that passed, and the first that didn't;
-- or all, of which only the count couldn't be printed. Without memory there is no page: `HasNoPage`.
abbrev pub DrawsRefused : {F : Type 0} → (F → Option (List ℕ)) → Bool → Bool → List Task → ℕ
    → List Word → List Column → Printed StopsFault → Type 0
DrawsRefused contents plain held tasks processes words tried (Fault (Mismatch m)) =
    DrawsLost contents plain held tasks processes words tried m
DrawsRefused contents plain held tasks processes words tried (Fault Memory) = ⊤
DrawsRefused contents plain held tasks processes words tried Output =
    DrawsStops contents plain held tasks processes words tried None

-- why no file got a plain one
abbrev pub IsUnplain : List Column → Undrawn → Type 0
IsUnplain tried (undrawn.TooLong n) = (2000 < length tried) × (n ≡ min (length tried) 4294967295)
IsUnplain tried undrawn.NoMemory = ⊥
IsUnplain tried (undrawn.Picture f) = length tried ≤ 2000

-- the same of one that walks through a run
abbrev pub undrawn_of : PicturedRefusal → Undrawn
undrawn_of (pictured.TooLong n) = undrawn.TooLong n
undrawn_of (pictured.Picture f) = undrawn.Picture f
undrawn_of pictured.NoMemory = undrawn.NoMemory
undrawn_of pictured.Unfiled = undrawn.NoMemory
undrawn_of (pictured.Replay r) = undrawn.NoMemory

-- why no file got a page
abbrev pub IsUndrawn : Bool → Bool → List Task → ℕ → List Word → List Column → Undrawn → Type 0
IsUndrawn true held tasks processes words tried u = IsUnplain tried u
IsUndrawn false held tasks processes words tried (undrawn.TooLong n) =
    IsTooLong held tasks processes words n
IsUndrawn false held tasks processes words tried undrawn.NoMemory = ⊤
IsUndrawn false held tasks processes words tried (undrawn.Picture f) = ⊤

-- none was begun
abbrev pub HasNoFile : Undrawn → Type 0
HasNoFile (undrawn.TooLong n) = ⊤
HasNoFile undrawn.NoMemory = ⊤
HasNoFile (undrawn.Picture f) = ⊥

-- a check that was so refused has no page
abbrev pub HasNoPage : Printed StopsFault → Type 0
HasNoPage (Fault (Mismatch m)) = ⊥
HasNoPage (Fault Memory) = ⊤
HasNoPage Output = ⊥

abbrev pub HasNone : StopsRefusal → Type 0
HasNone (check.Script f) = ⊤
HasNone (check.Schedule f) = ⊤
HasNone (check.Stops r) = HasNoPage r

-- with this no page was begun
abbrev pub IsUnbegun : DrawnStopsRefusal → Type 0
IsUnbegun NoMemory = ⊤
IsUnbegun (Stops r u) = HasNone r
IsUnbegun (Picture u) = HasNoFile u

-- that is so where there is a path for a page
abbrev pub IsDrawnInto : {P : Type 0} → Option P → Type 0 → Type 0
IsDrawnInto None drawn = ⊤
IsDrawnInto (Some path) drawn = drawn

-- They have a page, or have none for this reason. Without a path nothing kept them from one.
abbrev pub DrawsInto : {P : Type 0} → Option P → Result (Unit {0}) Undrawn → (Undrawn → Type 0)
    → Type 0 → Type 0
DrawsInto None ended why drawn = ended ≡ Ok tt
DrawsInto (Some path) ended why drawn = MatchResult ended (λ done. drawn) why

-- there is one
abbrev pub IsAsked : {P : Type 0} → Option P → Type 0
IsAsked None = ⊥
IsAsked (Some path) = ⊤

-- ---- a script

-- it was checked, and a file got the page of its stops
abbrev pub ChecksInto : {F P : Type 0} → (F → Option (List ℕ)) → Bool → Bool → Bool
    → Option (List ℕ) → Option (List ℕ) → Option P → Type 0
ChecksInto contents json held plain old new picture = (tried : List Column)
    × (c : ChecksScript json held tried old new)
    × IsDrawnInto picture (DrawsStops contents plain held c.tasks c.processes c.words tried None)

-- Why it wasn't: nothing was done; or the check was refused, and a file got the page of what was tried
-- then; or it was done and printed, and has no page. Without a path only the check is refused.
abbrev pub IsUncheckedInto : {F P : Type 0} → (F → Option (List ℕ)) → Bool → Bool → Bool
    → Option (List ℕ) → Option (List ℕ) → Type 0 → Option P → DrawnStopsRefusal → Type 0
IsUncheckedInto contents json held plain old new none picture NoMemory = IsAsked picture × none
IsUncheckedInto contents json held plain old new none picture (Stops (check.Script f) u) =
    none × (u ≡ Ok tt)
IsUncheckedInto contents json held plain old new none picture (Stops (check.Schedule f) u) =
    none × (u ≡ Ok tt)
IsUncheckedInto contents json held plain old new none picture (Stops (check.Stops r) u) =
    (tried : List Column) × (c : IsUncheckedFor held tried none r)
    × DrawsInto picture u (IsUndrawn plain held c.tasks c.processes c.words tried)
    (DrawsRefused contents plain held c.tasks c.processes c.words tried r)
IsUncheckedInto contents json held plain old new none picture (Picture u) = IsAsked picture
    × ((tried : List Column) × (c : ChecksScript json held tried old new)
    × IsUndrawn plain held c.tasks c.processes c.words tried u)
