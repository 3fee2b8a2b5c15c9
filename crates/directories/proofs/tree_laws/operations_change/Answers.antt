use Rattle.directories.specs.Lemmas.Moves.{link_moves, unlink_moves}
use Rattle.directories.specs.Lemmas.NewDirectory.{files_are_new}
use Rattle.directories.specs.Lemmas.Unnamed.{link_adds, remove_drops}
use Rattle.directories.specs.Lemmas.Repoints.{repoint_leads_there}
use Rattle.directories.proofs.tree_laws.operations_change.Goals as goal

pub returns-clause-added : goal.returns-clause-added
returns-clause-added c = link_adds

pub returns-clause-dropped : goal.returns-clause-dropped
returns-clause-dropped c = remove_drops

pub returns-clause-moved : goal.returns-clause-moved
returns-clause-moved c = link_moves

pub returns-clause-moved_behind : goal.returns-clause-moved_behind
returns-clause-moved_behind c = unlink_moves

pub returns-clause-fresh : goal.returns-clause-fresh
returns-clause-fresh c = files_are_new

pub returns-clause-repointed : goal.returns-clause-repointed
returns-clause-repointed c = repoint_leads_there
