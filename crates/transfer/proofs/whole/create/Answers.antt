use Rattle.std.proofs.Common.{◌≡◌, ◌∙◌, None, Some, ⊎_elim, sym, subst}
use Rattle.transfer.specs.Midst.{IsCleared}
use Rattle.transfer.proofs.MidstLemmas.{creates}
use Rattle.transfer.proofs.whole.create.Goals as goal

pub unreachable-requires : goal.unreachable-requires
unreachable-requires g c =
    let call = c.in_ok-number.ensures in
    ⊎_elim (λ (i, so, cleared). c.in_default.not-Made i so) (λ (so, cleared). c.in_default.not-NoInode so)
    (creates g.D.Disk c.args.kernel.now c.call.new.kernel c.in_ok-number.field-0 call.inside call.opening c.requires.midst call.adds)

pub returns-in-Made-clause-created : goal.returns-in-Made-clause-created
returns-in-Made-clause-created g c =
    let call = c.in_ok-number.ensures in
    ⊎_elim (λ (i, so, cleared). (let same : i ≡ c.in-Made.number = cc (so, c.in-Made.is) in subst (λ n. IsCleared g.D.Disk None c.args.kernel.now c.call.new.kernel (Some n)) same cleared))
    (λ (so, cleared). (let both = sym so ∙ c.in-Made.is in absurd (cc both)))
    (creates g.D.Disk c.args.kernel.now c.call.new.kernel c.in_ok-number.field-0 call.inside call.opening c.requires.midst call.adds)

pub returns-in-NoInode-clause-created : goal.returns-in-NoInode-clause-created
returns-in-NoInode-clause-created g c =
    let call = c.in_ok-number.ensures in
    ⊎_elim (λ (i, so, cleared). (let both = sym so ∙ c.in-NoInode.is in absurd (cc both))) (λ (so, cleared). cleared)
    (creates g.D.Disk c.args.kernel.now c.call.new.kernel c.in_ok-number.field-0 call.inside call.opening c.requires.midst call.adds)
