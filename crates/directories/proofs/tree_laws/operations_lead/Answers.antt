use Rattle.directories.specs.Lemmas.EntrySteps.{link_leads_there, reads_part, unlink_leads_nowhere}
use Rattle.directories.specs.Lemmas.Moves.{relink_leads}
use Rattle.directories.specs.Lemmas.Plain.{plain_keeps}
use Rattle.directories.specs.Lemmas.Unnamed.{create_makes, remove_undoes, write_fills}
use Rattle.directories.proofs.tree_laws.operations_lead.Goals as goal

pub returns-clause-read : goal.returns-clause-read
returns-clause-read c = reads_part

pub returns-clause-linked : goal.returns-clause-linked
returns-clause-linked c = link_leads_there

pub returns-clause-unlinked : goal.returns-clause-unlinked
returns-clause-unlinked c = unlink_leads_nowhere

pub returns-clause-linked_again : goal.returns-clause-linked_again
returns-clause-linked_again c = relink_leads

pub returns-clause-made : goal.returns-clause-made
returns-clause-made c = create_makes

pub returns-clause-filled : goal.returns-clause-filled
returns-clause-filled c = write_fills

pub returns-clause-undone : goal.returns-clause-undone
returns-clause-undone c = remove_undoes

pub returns-clause-plain : goal.returns-clause-plain
returns-clause-plain c = plain_keeps
