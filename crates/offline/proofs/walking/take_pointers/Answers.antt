use Rattle.std.proofs.Common.{◌∙◌, Ok, Err, get_or, subst, arith}
use Rattle.offline.specs.Common.{err_from_is_err_and, Image, pointers_under, reads_then, recovered}
use Rattle.offline.specs.Taking.{TakesAll}
use Rattle.offline.proofs.ClaimLemmas.{along_all, along_more}
use Rattle.offline.proofs.TakingLemmas.{taken_all, taken_fails, taken_next, taken_whole}
use Rattle.offline.proofs.walking.take_pointers.Goals as goal

pub returns-in_err-take_under-clause-taken : goal.returns-in_err-take_under-clause-taken
returns-in_err-take_under-clause-taken g c =
    let d = g.D.Disk in
    let takes = g.T.TakesPointers.takes in
    let met = g.met.T.TakesPointers in
    let inode = c.args.inode.now in
    let depths = c.depths-depths.result in
    let loop = c.loop-k in
    let fault = c.in_err-take_under.field-0.0 in
    let p = err_from_is_err_and c.from_residual.result c.from_residual.ensures.1 in
    let here = subst (λ (x : Image). TakesAll takes c.args.i (pointers_under (recovered x) inode.size (get_or depths loop.k 0) loop.first (get_or inode.addrs loop.k 0)) (d.fault_count loop.disk) (d.fault_count c.take_under.new.disk) loop.taker c.take_under.new.taker (Err fault))
    loop.invariant.reads.image c.in_err-take_under.ensures.taken in
    rw (p.1, p.2, ← c.depths-depths.ensures.value)
    (taken_fails takes met.takes_more met.refuses_early c.args.i _ _ _ _ _ _ _ loop.invariant.taken
    (along_more _ inode.size loop.first depths inode.addrs loop.k (omega (arith, c.depths-depths.ensures.len)) (omega (arith, c.depths-depths.ensures.len))) _ _ _ fault loop.invariant.counts here)

pub loop-k-preserved : goal.loop-k-preserved
loop-k-preserved g c =
    let takes = g.T.TakesPointers.takes in
    let met = g.met.T.TakesPointers in
    let inode = c.args.inode.now in
    let depths = c.depths-depths.result in
    let loop = c.loop-k in
    let here = taken_whole takes c.args.i _ _ _ _ _ c.in_ok-take_under.ensures.taken in
    let under = subst (λ (x : Image). takes loop.taker c.args.i (pointers_under (recovered x) inode.size (get_or depths loop.k 0) loop.first (get_or inode.addrs loop.k 0)) c.take_under.new.taker (Ok tt)) loop.invariant.reads.image here.0 in
    record {
      reads = reads_then g.D.Disk c.args.disk.now loop.disk c.take_under.new.disk loop.invariant.reads c.take_under.ensures.reads;
      counts = here.1 ∙ loop.invariant.counts;
      early = omega (arith, c.reach-first.ensures.small);
      taken = rw c.reach-first.ensures.value
          (taken_next takes met.takes_more met.refuses_early c.args.i _ _ _ _ _ _ _ loop.invariant.taken
          (along_more _ inode.size loop.first depths inode.addrs loop.k (omega (arith, c.depths-depths.ensures.len)) (omega (arith, c.depths-depths.ensures.len))) under);
    }

pub returns-clause-taken : goal.returns-clause-taken
returns-clause-taken g c =
    let inode = c.args.inode.now in
    let depths = c.depths-depths.result in
    let loop = c.loop-k in
    rw (← c.depths-depths.ensures.value)
    (taken_all g.T.TakesPointers.takes c.args.i _ _ _ _ _ _ loop.invariant.taken
    (along_all _ inode.size loop.first depths inode.addrs loop.k (omega (arith, c.depths-depths.ensures.len))) loop.invariant.counts)
