use Rattle.std.proofs.Common.{◌∙◌, sym, ap, subst, ⊎_elim, ℕ, ◌<◌, get_or}
use Rattle.blockmap.specs.Common.{address_under, Branch, reach}
use Rattle.blockmap.specs.BmapAlloc.{IsLed, MapState}
use Rattle.blockmap.specs.Map.{IsBranchOf}
use Rattle.blockmap.specs.Lemmas.Branches.{address_there, is_branch, lies_first}
use Rattle.blockmap.proofs.mapping.map_for_writing.Goals as goal
use Rattle.blockmap.proofs.mapping.map_for_writing.Goals.{then-address-eq0, else-address-eq0}

pub returns-then-branch-eq0-clause-there : goal.returns-then-branch-eq0-clause-there
returns-then-branch-eq0-clause-there c = λ x is.
    let b = c.branch_of-branch.result in
    let stands : IsBranchOf x c.args.k b = subst (IsBranchOf x c.args.k) (sym c.branch_of-branch.ensures.branch) (address_there x c.args.form is c.args.k c.requires.within) in
    stands c.args.inode.now c.requires.addrs
    ∙ ap (λ (n : ℕ). address_under x n b.rest (get_or c.args.inode.now.addrs b.index 0)) c.if-branch-eq0.true

pub returns-clause-there : goal.returns-clause-there
returns-clause-there c = λ x is.
    let b = c.branch_of-branch.result in
    let d = c.args.inode.now in
    let stands : IsBranchOf x c.args.k b = subst (IsBranchOf x c.args.k) (sym c.branch_of-branch.ensures.branch) (address_there x c.args.form is c.args.k c.requires.within) in
    let low : b.rest < reach b.depth =
    subst (λ (o : Branch). o.rest < reach o.depth) (sym c.branch_of-branch.ensures.branch) (is_branch c.args.k c.args.form c.requires.within).rest in
    let led : IsLed x d b c.if-address-eq0.at = elim c.if-address-eq0.branch [
      | then-address-eq0 w ↦ subst (IsLed x d b) (sym w.at-is) tt
      | else-address-eq0 w ↦ subst (IsLed x d b) (sym (w.at-is ∙ w.entry_behind-at.ensures))
          (⊎_elim (λ some. lies_first x d b some.1 low some.0) (λ none. absurd (w.if-address-eq0.false none)) c.else-address-ne0.either)
    ] in
    subst (λ (m : MapState). IsBranchOf x c.args.k m.branch × IsLed x d m.branch m.at) (sym c.begin.ensures) (stands, led)
