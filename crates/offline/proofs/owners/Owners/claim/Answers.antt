use Rattle.offline.proofs.OwnersLemmas.{judged}
use Rattle.offline.proofs.owners.Owners.claim.Goals as goal

pub returns-then-pointer-ne0-clause-judged : goal.returns-then-pointer-ne0-clause-judged
returns-then-pointer-ne0-clause-judged c = λ y earlier h.
    judged y c.args.i earlier c.args.pointer c.claim_address.new.self c.claim_address.result c.if-pointer-ne0.true (c.claim_address.ensures.judged y earlier h)
