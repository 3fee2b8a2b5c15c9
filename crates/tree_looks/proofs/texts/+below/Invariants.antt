use Rattle.std.proofs.Common.{◌≡◌, ◌++◌, ◌-◌, ◌*◌, ◌+◌, take}
use Rattle.std.specs.List.{flat_map}
use Rattle.tree_looks.specs.Listing.{told_entry}
use Rattle.tree_looks.proofs.texts.+below.Given as goal

abbrev pub decreases-add_below : goal.decreases-add_below
decreases-add_below g l = 2 * l.depth

abbrev pub decreases-add_entry : goal.decreases-add_entry
decreases-add_entry g l = 2 * l.depth + 1

-- the lines of the first entries were added
abbrev pub invariant-add_below-loop-entry : goal.invariant-add_below-loop-entry
invariant-add_below-loop-entry g l =
    l.text.items ≡ l.initial.text.items ++ flat_map (told_entry (g.T.ByPath.tells l.tell) (l.depth - 1) l.files l.front) (take l.entry-index l.entry-items)
