use Rattle.std.proofs.Common.{◌≡◌, ◌++◌, take, flat_map}
use Rattle.tree_changes.specs.Removing.{name_of_entry}
use Rattle.tree_changes.proofs.removing.add_entries.Given as goal

-- the names of the entries so far were added
abbrev pub invariant-loop-entry : goal.invariant-loop-entry
invariant-loop-entry l = l.below.items ≡ l.initial.below.items ++ flat_map (name_of_entry l.from) (take l.entry-index l.entry-items)
