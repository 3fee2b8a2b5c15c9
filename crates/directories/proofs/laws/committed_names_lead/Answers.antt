use Rattle.directories.specs.Lemmas.Keeping.{committed_names_lead}
use Rattle.directories.proofs.laws.committed_names_lead.Goals as goal

pub returns : goal.returns
returns c = committed_names_lead
