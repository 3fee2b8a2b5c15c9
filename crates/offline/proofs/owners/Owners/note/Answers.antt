use Rattle.std.proofs.Common.{◌∙◌, ◌++◌, List, ℕ, sym, subst}
use Rattle.offline.specs.Common.{Owners, pointer_fault, Stand}
use Rattle.offline.proofs.OwnersLemmas.{or_none, there_is}
use Rattle.offline.proofs.owners.Owners.note.Goals as goal

pub returns-in-Ok-clause-noted : goal.returns-in-Ok-clause-noted
returns-in-Ok-clause-noted c = λ y earlier stand.
    let here = c.in-Ok.ensures.judged y earlier stand in
    (sym here.0 ∙ or_none (pointer_fault y c.args.i earlier c.args.pointer), here.1)

pub returns-in-Err-clause-noted : goal.returns-in-Err-clause-noted
returns-in-Err-clause-noted c = λ y earlier stand.
    let p = c.args.pointer in
    let kept = subst (λ (o : Owners). Stand o y earlier) (sym c.in-Err.ensures.kept) stand in (
      sym (c.in-Err.ensures.judged y earlier stand) ∙ or_none (pointer_fault y c.args.i earlier p),
      subst (λ (l : List ℕ). Stand c.place.new.self y (earlier ++ l)) (there_is p) (c.place.ensures.stand y earlier kept),
    )
