use Rattle.std.proofs.Common.{◌≡◌, drop}
use Rattle.directories.specs.Trees.{root}
use Rattle.directories.specs.Walks.{walked}
use Rattle.tree_looks.proofs.finding.walk.Given as goal

-- the names that are left lead on from where the others led
abbrev pub invariant-loop-name : goal.invariant-loop-name
invariant-loop-name l = walked l.files l.number (drop l.name-index l.names) ≡ walked l.files root l.names
