use Rattle.tree_changes.proofs.Copied.{copies_hold}
use Rattle.tree_changes.proofs.laws.copies_hold.Goals as goal

pub returns : goal.returns
returns c = copies_hold
