use Rattle.directories.specs.Lemmas.PathLaws.{directories_are_named_once, files_are_reached, names_are_one, names_lead}
use Rattle.directories.proofs.tree_laws.paths_name_files.Goals as goal

pub returns-clause-lead : goal.returns-clause-lead
returns-clause-lead c = names_lead

pub returns-clause-reached : goal.returns-clause-reached
returns-clause-reached c = files_are_reached

pub returns-clause-one : goal.returns-clause-one
returns-clause-one c = names_are_one

pub returns-clause-directories : goal.returns-clause-directories
returns-clause-directories c = directories_are_named_once
