use Rattle.std.proofs.Common.{◌≡◌, ◌++◌, take}
use Rattle.std.specs.List.{flat_map}
use Rattle.tree_looks.specs.Listing.{entry_told}
use Rattle.tree_looks.proofs.texts.add_listing.Given as goal

-- the files of the first entries were added
abbrev pub invariant-loop-entry : goal.invariant-loop-entry
invariant-loop-entry l = l.text.items ≡ l.initial.text.items ++ flat_map (entry_told l.json l.files) (take l.entry-index l.entry-items)
