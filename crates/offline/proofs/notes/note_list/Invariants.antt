use Rattle.std.proofs.Common.{ℕ, List, drop}
use Rattle.offline.specs.Common.{Image, SameLimits, Stand}
use Rattle.offline.proofs.NoteLemmas.{IsNoting}
use Rattle.offline.proofs.notes.note_list.Given as goal

abbrev pub invariant-loop-k : goal.invariant-loop-k
invariant-loop-k g l = record {
  limits : SameLimits l.fn.owners l.owners;
  noted : (y : Image) (earlier : List ℕ) → Stand l.fn.owners y earlier →
      IsNoting g.H.HearsFaults.hears y l.owner earlier l.list.items (drop l.k l.list.items) l.owners l.fn.hearer l.hearer;
}
