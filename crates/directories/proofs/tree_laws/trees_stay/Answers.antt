use Rattle.directories.specs.Lemmas.Adding.{adding_keeps}
use Rattle.directories.specs.Lemmas.Dropping.{dropping_keeps, keeping_keeps}
use Rattle.directories.specs.Lemmas.Moving.{moving_keeps}
use Rattle.directories.specs.Lemmas.NewDirectory.{root_is_tree}
use Rattle.directories.specs.Lemmas.MovingDirectory.{moving_directory_keeps}
use Rattle.directories.proofs.tree_laws.trees_stay.Goals as goal

pub returns-clause-begun : goal.returns-clause-begun
returns-clause-begun c = root_is_tree

pub returns-clause-added : goal.returns-clause-added
returns-clause-added c = adding_keeps

pub returns-clause-dropped : goal.returns-clause-dropped
returns-clause-dropped c = dropping_keeps

pub returns-clause-moved : goal.returns-clause-moved
returns-clause-moved c = moving_keeps

pub returns-clause-kept : goal.returns-clause-kept
returns-clause-kept c = keeping_keeps

pub returns-clause-moved_directory : goal.returns-clause-moved_directory
returns-clause-moved_directory c = moving_directory_keeps
