-- The stops that were tried, and passed, as a picture has them.
use Rattle.std.specs.Prelude.{◌≡◌, ℕ, List, ◌++◌}
use Rattle.crash_check.specs.declared.mismatch.Stop.{Stop}
use Rattle.crash_check.specs.declared.mismatch.Stop.TheVariants.{End, Write, Sync}
use Rattle.pictures.specs.declared.stops.At.{At}
use Rattle.pictures.specs.declared.stops.Column.{Column}

abbrev pub at_of : Stop → At
at_of End = At.End
at_of (Write n) = At.Write n
at_of (Sync n) = At.Sync n

abbrev pub tried_at : Stop → ℕ → Column
tried_at stop images = record { at = at_of stop; images = images }

-- some more were tried, and P says which
abbrev pub TriesMore : List Column → List Column → (List Column → Type 0) → Type 0
TriesMore old new P = (more : List Column) × (new ≡ old ++ more) × P more
