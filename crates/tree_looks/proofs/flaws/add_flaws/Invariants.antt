use Rattle.std.proofs.Common.{◌≡◌, ◌++◌, take}
use Rattle.std.specs.List.{flat_map}
use Rattle.tree_looks.specs.Flaws.{flaw_told}
use Rattle.tree_looks.proofs.flaws.add_flaws.Given as goal

-- what is told of the first flaws was added
abbrev pub invariant-loop-flaw : goal.invariant-loop-flaw
invariant-loop-flaw l = l.text.items ≡ l.initial.text.items ++ flat_map (flaw_told l.json l.files l.homes) (take l.flaw-index l.flaws)
