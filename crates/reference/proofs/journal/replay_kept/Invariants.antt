use Rattle.std.specs.Prelude.{◌&&◌, nat_le}
use Rattle.model.specs.Journal.{is_changing}
use Rattle.reference.proofs.ReplayLemmas.{Run}
use Rattle.reference.proofs.journal.replay_kept.Given as goal

abbrev pub invariant-loop-entry : goal.invariant-loop-entry
invariant-loop-entry l =
    Run (λ e. is_changing l.inode_count e.op && nat_le e.group l.c) l.form l.fn.files.items l.files.items l.entries l.entry-index
