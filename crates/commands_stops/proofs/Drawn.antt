-- What is known of the page of stops.
use Rattle.std.proofs.Common.{◌≡◌, Bool, true, false, List, ℕ, Ok, refl, subst, sym}
use Rattle.std.specs.Prelude.{Option, Some, None, Result, Err, IfErr, MatchResult, OnOk}
use Rattle.crash_check.specs.declared.fault.StopsFault.{StopsFault}
use Rattle.messages.specs.declared.printed.Printed.{Printed}
use Rattle.stops.specs.Checks.{ChecksAll, IsUnchecked}
use Rattle.scripts.specs.declared.schedule.Word.{Word}
use Rattle.scripts.specs.declared.script.Task.{Task}
use Rattle.pictures.specs.declared.stops.Column.{Column}
use Rattle.commands_runs.specs.Pictures.{IsUnbegun as IsUnbegunPage}
use Rattle.commands_runs.specs.Tried.{IsUnexploredNew}
use Rattle.commands_runs.specs.declared.picturing.PicturedRefusal.{PicturedRefusal}
use Rattle.commands_runs.specs.declared.picturing.PicturedRefusal.TheVariants as pictured
use Rattle.commands_stops.specs.Scripts.{IsUnread}
use Rattle.commands_stops.specs.StopsDrawn.{ChecksInto, DrawsInto, DrawsRefused, DrawsStops, HasNoFile, IsDrawnInto, IsUncheckedInto, IsUndrawn, undrawn_of}
use Rattle.commands_stops.specs.declared.stopping.DrawnStopsRefusal.TheVariants.{Picture, Stops}
use Rattle.commands_stops.specs.declared.stops_drawing.Undrawn.{Undrawn}
use Rattle.commands_stops.specs.declared.stopping.StopsRefusal.{StopsRefusal}
use Rattle.commands_stops.specs.declared.stopping.StopsRefusal.TheVariants as check

-- what is so is so where there is a path for a page
pub where_asked : {P X : Type 0} (picture : Option P) → X → IsDrawnInto picture X
where_asked None so = tt
where_asked (Some path) so = so

-- a script was checked, and where it has a page, this is it
pub checked_so : {F P : Type 0} (contents : F → Option (List ℕ)) (json held plain : Bool) (old new : Option (List ℕ)) (picture : Option P) (tried : List Column) (tasks : List Task) (processes : ℕ) (words : List Word) →
    ChecksAll json held tasks processes words tried old new → IsDrawnInto picture (DrawsStops contents plain held tasks processes words tried None) → ChecksInto contents json held plain old new picture
checked_so contents json held plain old new picture tried tasks processes words checks drawn = (
  tried,
  record { tasks = tasks; processes = processes; words = words; checks = checks },
  drawn,
)

-- or wasn't, and this is what became of its page
pub unchecked_so : {F P : Type 0} (contents : F → Option (List ℕ)) (json held plain : Bool) (old new : Option (List ℕ)) (none : Type 0) (picture : Option P) (tried : List Column) (tasks : List Task) (processes : ℕ) (words : List Word) (r : Printed StopsFault) (u : Result (Unit {0}) Undrawn) →
    IsUnchecked held tasks processes words tried none r → DrawsInto picture u (IsUndrawn plain held tasks processes words tried) (DrawsRefused contents plain held tasks processes words tried r) →
    IsUncheckedInto contents json held plain old new none picture (Stops (check.Stops r) u)
unchecked_so contents json held plain old new none picture tried tasks processes words r u refused drawn = (
  tried,
  record { tasks = tasks; processes = processes; words = words; refused = refused },
  drawn,
)

-- or was, and has no page
pub undrawn_so : {F P : Type 0} (contents : F → Option (List ℕ)) (json held plain : Bool) (old new : Option (List ℕ)) (none : Type 0) (path : P) (tried : List Column) (tasks : List Task) (processes : ℕ) (words : List Word) (u : Undrawn) →
    ChecksAll json held tasks processes words tried old new → IsUndrawn plain held tasks processes words tried u →
    IsUncheckedInto contents json held plain old new none (Some path) (Picture u)
undrawn_so contents json held plain old new none path tried tasks processes words u checks why = (
  tt,
  (tried, record { tasks = tasks; processes = processes; words = words; checks = checks }, why),
)

-- a page was made, or wasn't
pub drawn_or : {T E : Type 0} (r : Result T E) (why : E → Type 0) (drawn : Type 0) → OnOk r drawn → IfErr r why → MatchResult r (λ done. drawn) why
drawn_or (Ok done) why drawn so else_so = so
drawn_or (Err e) why drawn so else_so = else_so

-- a page that walks through a run wasn't made for this reason
pub unexplored : (held : Bool) (tasks : List Task) (processes : ℕ) (words : List Word) (tried : List Column) (refusal : PicturedRefusal) →
    IsUnexploredNew held tasks processes words refusal → IsUndrawn false held tasks processes words tried (undrawn_of refusal)
unexplored held tasks processes words tried pictured.NoMemory why = absurd why
unexplored held tasks processes words tried (pictured.Replay r) why = absurd why
unexplored held tasks processes words tried (pictured.TooLong n) why = why
unexplored held tasks processes words tried pictured.Unfiled why = tt
unexplored held tasks processes words tried (pictured.Picture f) why = tt

-- and none was begun
pub unbegun : (refusal : PicturedRefusal) → HasNoFile (undrawn_of refusal) → IsUnbegunPage refusal
unbegun pictured.NoMemory none = tt
unbegun (pictured.Replay r) none = tt
unbegun (pictured.TooLong n) none = tt
unbegun pictured.Unfiled none = tt
unbegun (pictured.Picture f) none = none

-- a script that couldn't be had wasn't checked
pub unread : {F P : Type 0} (contents : F → Option (List ℕ)) (json held plain : Bool) (old new : Option (List ℕ)) (none : Type 0) (picture : Option P) (refusal : StopsRefusal) →
    IsUnread refusal → none → IsUncheckedInto contents json held plain old new none picture (Stops refusal (Ok tt))
unread contents json held plain old new none picture (check.Script f) why silent = (silent, cc)
unread contents json held plain old new none picture (check.Schedule f) why silent = (silent, cc)
unread contents json held plain old new none picture (check.Stops r) why silent = absurd why

-- without a path nothing kept the stops from a page
pub unasked : {P : Type 0} (picture : Option P) (why : Undrawn → Type 0) (drawn : Type 0) → ((path : P) → picture ≡ Some path → ⊥) → DrawsInto picture (Ok tt) why drawn
unasked None why drawn none = refl
unasked (Some path) why drawn none = absurd (none path refl)
