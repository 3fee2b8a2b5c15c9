use Rattle.std.proofs.Common.{◌≡◌, ℕ, ◌<◌, false, [], get_or}
use Rattle.directories.specs.Entries.{is_free, name_in, IsProper}
use Rattle.directories.proofs.checking.are_named.Given as goal

abbrev pub invariant-loop-entry : goal.invariant-loop-entry
invariant-loop-entry l =
    (k : ℕ) → k < l.entry-index → is_free (get_or l.entries k []) ≡ false → IsProper (name_in (get_or l.entries k []))
