use Rattle.std.proofs.Common.{◌∙◌, ⊎_elim, inl, inr, sym, ap, subst}
use Rattle.blockmap.specs.Common.{Node}
use Rattle.blockmap.specs.Bmap.{EntryState, first_entry, sought_in}
use Rattle.blockmap.specs.Map.{IsBranchOf, address_or_zero}
use Rattle.blockmap.specs.Lemmas.Addresses.{address_or_zero_of}
use Rattle.blockmap.specs.Lemmas.Branches.{address_there}
use Rattle.blockmap.specs.Lemmas.Targets.{found_at_once, found_behind}
use Rattle.blockmap.proofs.mapping.map.Goals as goal

pub returns-then-address-eq0-clause-address : goal.returns-then-address-eq0-clause-address
returns-then-address-eq0-clause-address c = λ x is.
    let b = c.branch_of-branch.result in
    let d = c.args.inode.now in
    let stands : IsBranchOf x c.args.k b = subst (IsBranchOf x c.args.k) (sym c.branch_of-branch.ensures.branch) (address_there x c.args.form is c.args.k c.requires.within) in
    stands d c.requires.addrs ∙ found_at_once x d b (⊎_elim inl (λ flat. inr flat.1) c.then-address-eq0.either)
    ∙ sym (ap address_or_zero c.some_address.ensures ∙ address_or_zero_of _)

pub returns-clause-address : goal.returns-clause-address
returns-clause-address c = λ x is.
    let b = c.branch_of-branch.result in
    let d = c.args.inode.now in
    let stands : IsBranchOf x c.args.k b = subst (IsBranchOf x c.args.k) (sym c.branch_of-branch.ensures.branch) (address_there x c.args.form is c.args.k c.requires.within) in
    stands d c.requires.addrs ∙ found_behind x d b c.if-branch-eq0.false
    ∙ sym (ap (λ (m : EntryState). sought_in x m) c.new.ensures ∙ ap (λ (n : Node). sought_in x (first_entry n)) c.at.ensures)
