use Rattle.std.proofs.Common.{◌≡◌}
use Rattle.bcache.proofs.LinkLemmas.{before_made, after_made}
use Rattle.bcache.proofs.links.Links.new.Given as goal

abbrev pub invariant-loop-slot : goal.invariant-loop-slot
invariant-loop-slot l = record { before : l.before ≡ before_made l.slot; after : l.after ≡ after_made l.slot }
