use Rattle.directories.proofs.FlawTrees.{no_flaw_counted, no_flaw_tree}
use Rattle.directories.proofs.FlawlessTrees.{tree_flawless}
use Rattle.directories.proofs.tree_laws.flaws_tell_trees.Goals as goal

pub returns-clause-tree : goal.returns-clause-tree
returns-clause-tree c = λ files none. (no_flaw_tree files none, no_flaw_counted files none)

pub returns-clause-flawless : goal.returns-clause-flawless
returns-clause-flawless c = λ files tree counted. tree_flawless files tree counted
