use Rattle.directories.specs.Lemmas.WholeChanges.{moves_directory_whole, makes_directory_whole, makes_file_whole, makes_root_whole, moves_file_whole, removes_file_whole, renames_file_whole}
use Rattle.directories.proofs.tree_laws.changes_leave_trees.Goals as goal

pub returns-clause-root : goal.returns-clause-root
returns-clause-root c = makes_root_whole

pub returns-clause-file : goal.returns-clause-file
returns-clause-file c = makes_file_whole

pub returns-clause-directory : goal.returns-clause-directory
returns-clause-directory c = makes_directory_whole

pub returns-clause-removed : goal.returns-clause-removed
returns-clause-removed c = removes_file_whole

pub returns-clause-renamed : goal.returns-clause-renamed
returns-clause-renamed c = renames_file_whole

pub returns-clause-moved : goal.returns-clause-moved
returns-clause-moved c = moves_file_whole

pub returns-clause-moved_directory : goal.returns-clause-moved_directory
returns-clause-moved_directory c = moves_directory_whole
