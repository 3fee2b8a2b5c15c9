use Rattle.std.specs.Prelude.{is_some}
use Rattle.reference.proofs.ReplayLemmas.{Run}
use Rattle.reference.proofs.journal.replay_answered.Given as goal

abbrev pub invariant-loop-entry : goal.invariant-loop-entry
invariant-loop-entry l = Run (λ e. is_some e.reply) l.form l.fn.files.items l.files.items l.entries l.entry-index
