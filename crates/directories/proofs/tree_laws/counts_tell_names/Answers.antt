use Rattle.directories.proofs.CountMeaning.{counts_are_one, directory_counts, linking_keeps, once_counted, other_counted, unlinking_keeps}
use Rattle.directories.proofs.tree_laws.counts_tell_names.Goals as goal

pub returns-clause-linked : goal.returns-clause-linked
returns-clause-linked c = linking_keeps

pub returns-clause-unlinked : goal.returns-clause-unlinked
returns-clause-unlinked c = unlinking_keeps

pub returns-clause-one : goal.returns-clause-one
returns-clause-one c = once_counted

pub returns-clause-more : goal.returns-clause-more
returns-clause-more c = other_counted

pub returns-clause-directories : goal.returns-clause-directories
returns-clause-directories c = directory_counts

pub returns-clause-unique : goal.returns-clause-unique
returns-clause-unique c = counts_are_one
