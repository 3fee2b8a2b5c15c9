use Rattle.std.proofs.Common.{◌≡◌, ◌++◌}
use Rattle.directories.specs.Flaws.{entries_flaws}
use Rattle.directories.proofs.flaws.add_entries.Given as goal

-- those of the first entries were added
abbrev pub invariant-loop-place : goal.invariant-loop-place
invariant-loop-place l = l.flaws.items ≡ l.initial.flaws.items ++ entries_flaws l.files l.homes l.from l.entries l.place
