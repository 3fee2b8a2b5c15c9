use Rattle.directories.specs.Lemmas.TreeMeaning.{directories_are_tidy, entries_lead, no_half_is_tree, numbers_stand_once, steps_lead}
use Rattle.directories.specs.Lemmas.Below.{root_is_outside, parents_decide}
use Rattle.directories.proofs.tree_laws.trees_mean.Goals as goal

pub returns-clause-tidy : goal.returns-clause-tidy
returns-clause-tidy c = directories_are_tidy

pub returns-clause-steps : goal.returns-clause-steps
returns-clause-steps c = steps_lead

pub returns-clause-entries : goal.returns-clause-entries
returns-clause-entries c = entries_lead

pub returns-clause-once : goal.returns-clause-once
returns-clause-once c = numbers_stand_once

pub returns-clause-halves : goal.returns-clause-halves
returns-clause-halves c = no_half_is_tree

pub returns-clause-root : goal.returns-clause-root
returns-clause-root c = root_is_outside

pub returns-clause-parents : goal.returns-clause-parents
returns-clause-parents c = parents_decide
