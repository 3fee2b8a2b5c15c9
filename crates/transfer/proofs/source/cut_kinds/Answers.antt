use Rattle.std.proofs.Common.{◌≡◌, ◌<◌, ◌≤◌, ℕ, List, length, get_or, subst}
use Rattle.transfer.proofs.SourceLemmas.{same_cut}
use Rattle.transfer.proofs.source.cut_kinds.Goals as goal

pub returns-clause-same : goal.returns-clause-same
returns-clause-same c =
    let used = c.used_count-used.result in
    let value = c.as_slice.ensures.value in
    same_cut c.args.kinds.now.items c.truncate.new.self.items used
    (subst (λ (ks : List ℕ). used ≤ length ks) value c.used_count-used.ensures.few)
    (subst (λ (ks : List ℕ). (k : ℕ) → used ≤ k → k < length ks → get_or ks k 0 ≡ 0) value c.used_count-used.ensures.rest)
    c.truncate.ensures.items
