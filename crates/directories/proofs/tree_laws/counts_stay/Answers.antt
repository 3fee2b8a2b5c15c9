use Rattle.directories.proofs.CountMeaning.{adding_counts, adding_directory_counts, dropping_counts, dropping_directory_counts, keeping_counts, moving_counts, moving_directory_counts, root_counts}
use Rattle.directories.proofs.tree_laws.counts_stay.Goals as goal

pub returns-clause-root : goal.returns-clause-root
returns-clause-root c = root_counts

pub returns-clause-file : goal.returns-clause-file
returns-clause-file c = adding_counts

pub returns-clause-directory : goal.returns-clause-directory
returns-clause-directory c = adding_directory_counts

pub returns-clause-removed : goal.returns-clause-removed
returns-clause-removed c = dropping_counts

pub returns-clause-directory_removed : goal.returns-clause-directory_removed
returns-clause-directory_removed c = dropping_directory_counts

pub returns-clause-moved : goal.returns-clause-moved
returns-clause-moved c = moving_counts

pub returns-clause-moved_directory : goal.returns-clause-moved_directory
returns-clause-moved_directory c = moving_directory_counts

pub returns-clause-kept : goal.returns-clause-kept
returns-clause-kept c = keeping_counts
