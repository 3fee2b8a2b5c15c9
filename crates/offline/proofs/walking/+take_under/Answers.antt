use Rattle.std.proofs.Common.{◌≡◌, ◌∙◌, ◌-◌, ◌++◌, ℕ, List, [], ◌∷◌, Ok, Err, ap, get_or, inl, inr, refl, sym, subst, arith}
use Rattle.offline.specs.Common.{entry_pointers, err_from_is_err_and, Image, length-recovered, Pointer, pointer_of, pointers_under, reads_then, recovered, Rose, words_of}
use Rattle.offline.specs.Taking.{TakesAll}
use Rattle.offline.proofs.ClaimLemmas.{entry_all, entry_more, under_block, under_data, under_first, under_none, under_outside}
use Rattle.offline.proofs.TakingLemmas.{taken_all, taken_fails, taken_first, taken_next, taken_whole}
use Rattle.offline.proofs.walking.+take_under.Goals as goal
use Rattle.offline.proofs.walking.+take_under.Goals.{then-branch-eq0-via-then-branch-eq0, then-branch-eq0-via-else-branch-eq0+then-branch-eq0-2, then-branch-eq0-via-else-branch-eq0+else-branch-eq0-2+then-branch-size}

pub returns-in_err-take-clause-taken : goal.returns-in_err-take-clause-taken
returns-in_err-take-clause-taken g t c =
    let branch = c.args.branch in
    let takes = g.T.TakesPointers.takes in
    let fault = c.in_err-take.field-0.0 in
    let p = err_from_is_err_and c.from_residual.result c.from_residual.ensures.1 in
    let here = subst (λ (q : Pointer). takes c.args.taker.now c.args.i (q ∷ []) c.take.new.self (Err fault)) c.pointer.ensures c.in_err-take.ensures in
    let parts = under_first (recovered (g.D.Disk.image c.args.disk.now)) c.args.size branch.depth branch.first branch.address in
    rw (p.1, p.2, parts.1) (inl (g.met.T.TakesPointers.refuses_early _ _ _ _ parts.0 fault here, refl {a = g.D.Disk.fault_count c.args.disk.now}))

pub returns-then-branch-eq0-clause-taken : goal.returns-then-branch-eq0-clause-taken
returns-then-branch-eq0-clause-taken g t c =
    let x = g.D.Disk.image c.args.disk.now in
    let y = recovered x in
    let size = c.args.size in
    let branch = c.args.branch in
    let takes = g.T.TakesPointers.takes in
    let alone : pointers_under y size branch.depth branch.first branch.address ≡ pointer_of size branch.first branch.address ∷ [] =
    elim c.then-branch-eq0.branch [
      | then-branch-eq0-via-then-branch-eq0 w ↦ under_data y size branch.depth branch.first branch.address w.if-branch-eq0.true
      | then-branch-eq0-via-else-branch-eq0+then-branch-eq0-2 w ↦ under_none y size branch.depth branch.first branch.address w.if-branch-eq0-2.true
      | then-branch-eq0-via-else-branch-eq0+else-branch-eq0-2+then-branch-size w ↦ under_outside y size branch.depth branch.first branch.address (omega (arith, w.if-branch-size.true, w.size.ensures, length-recovered x))
    ] in
    rw alone (inl (subst (λ (q : Pointer). takes c.args.taker.now c.args.i (q ∷ []) c.take.new.self (Ok tt)) c.pointer.ensures c.in_ok-take.ensures, refl {a = g.D.Disk.fault_count c.args.disk.now}))

pub returns-in_err-any_block-clause-taken : goal.returns-in_err-any_block-clause-taken
returns-in_err-any_block-clause-taken g t c =
    let count = g.D.Disk.fault_count in
    let branch = c.args.branch in
    let p = err_from_is_err_and c.from_residual-in_err-any_block.result c.from_residual-in_err-any_block.ensures.1 in
    let parts = under_first (recovered (g.D.Disk.image c.args.disk.now)) c.args.size branch.depth branch.first branch.address in
    let rose : Rose (count c.args.disk.now) (count c.any_block.new.disk) = omega (arith, c.in_err-any_block.ensures.faults) in
    inr (
      (p.1 ∙ ap Err p.2, (parts.0, taken_first g.T.TakesPointers.takes c.args.i _ _ _ _ _ _ c.in_ok-take.ensures c.pointer.ensures parts.1)),
      rose,
    )

pub loop-k-init : goal.loop-k-init
loop-k-init g t c =
    let y = recovered (g.D.Disk.image c.args.disk.now) in
    let size = c.args.size in
    let branch = c.args.branch in
    let words = c.read_all-addresses.ensures.value ∙ ap words_of c.in_ok-any_block.ensures.ok in
    record {
      reads = c.any_block.ensures.reads;
      counts = c.in_ok-any_block.ensures.faults;
      early = omega arith;
      taken = taken_first g.T.TakesPointers.takes c.args.i _ _ _ _ _ _ c.in_ok-take.ensures c.pointer.ensures
          (under_block y size branch.depth branch.first branch.address c.if-branch-eq0.false c.if-branch-eq0-2.false
          ∙ ap (λ (ws : List ℕ). (pointer_of size branch.first branch.address ∷ []) ++ entry_pointers y size (branch.depth - 1) branch.first ws) (sym words));
    }

pub returns-in_err-take_under-clause-taken : goal.returns-in_err-take_under-clause-taken
returns-in_err-take_under-clause-taken g t c =
    let d = g.D.Disk in
    let met = g.met.T.TakesPointers in
    let y = recovered (d.image c.args.disk.now) in
    let size = c.args.size in
    let depth = c.args.branch.depth - 1 in
    let entries = c.read_all-addresses.result in
    let loop = c.loop-k in
    let first = loop.first in
    let entry = get_or entries loop.k 0 in
    let fault = c.in_err-take_under.field-0.0 in
    let p = err_from_is_err_and c.from_residual-in_err-take_under.result c.from_residual-in_err-take_under.ensures.1 in
    let here = subst (λ (x : Image). TakesAll g.T.TakesPointers.takes c.args.i (pointers_under (recovered x) size depth first entry) (d.fault_count loop.disk) (d.fault_count c.take_under.new.disk) loop.taker c.take_under.new.taker (Err fault))
    loop.invariant.reads.image c.in_err-take_under.ensures.taken in
    rw (p.1, p.2)
    (taken_fails g.T.TakesPointers.takes met.takes_more met.refuses_early c.args.i _ _ _ _ _ _ _ loop.invariant.taken (entry_more y size depth first entries loop.k (omega (arith, c.read_all-addresses.ensures.len)))
    _ _ _ fault loop.invariant.counts here)

pub loop-k-preserved : goal.loop-k-preserved
loop-k-preserved g t c =
    let takes = g.T.TakesPointers.takes in
    let met = g.met.T.TakesPointers in
    let depth = c.args.branch.depth - 1 in
    let entries = c.read_all-addresses.result in
    let loop = c.loop-k in
    let here = taken_whole takes c.args.i _ _ _ _ _ c.in_ok-take_under.ensures.taken in
    let under = subst (λ (x : Image). takes loop.taker c.args.i (pointers_under (recovered x) c.args.size depth loop.first (get_or entries loop.k 0)) c.take_under.new.taker (Ok tt)) loop.invariant.reads.image here.0 in
    record {
      reads = reads_then g.D.Disk c.args.disk.now loop.disk c.take_under.new.disk loop.invariant.reads c.take_under.ensures.reads;
      counts = here.1 ∙ loop.invariant.counts;
      early = omega (arith, c.requires.shallow, c.reach-step.ensures.smaller);
      taken = rw c.reach-step.ensures.value
          (taken_next takes met.takes_more met.refuses_early c.args.i _ _ _ _ _ _ _ loop.invariant.taken (entry_more _ c.args.size depth loop.first entries loop.k (omega (arith, c.read_all-addresses.ensures.len))) under);
    }

pub returns-clause-taken : goal.returns-clause-taken
returns-clause-taken g t c =
    let y = recovered (g.D.Disk.image c.args.disk.now) in
    let loop = c.loop-k in
    taken_all g.T.TakesPointers.takes c.args.i _ _ _ _ _ _ loop.invariant.taken
    (entry_all y c.args.size (c.args.branch.depth - 1) loop.first c.read_all-addresses.result loop.k (omega (arith, c.read_all-addresses.ensures.len))) loop.invariant.counts
