use Rattle.std.proofs.Common.{◌≡◌, ◌∙◌, ◌+◌, ◌-◌, ℕ, cond, None, inr, subst, arith, rules}
use Rattle.std.specs.Prelude.{is_some}
use Rattle.offline.specs.Common.{block_at, err_from_is_err_and, file_at, Image, inode_block, IsCause, places_below, reads_then, recovered, Stand}
use Rattle.model.specs.Verdict.{inode_fault}
use Rattle.offline.proofs.InodeLemmas.{judged_next, cause_next, judged_all}
use Rattle.offline.proofs.checking.check_inodes.Goals as goal
use Rattle.offline.proofs.checking.check_inodes.Goals.{then-branch, else-branch}

pub loop-i-preserved : goal.loop-i-preserved
loop-i-preserved g c =
    let d = g.D.Disk in
    let i = c.loop-i.i in
    let used = c.in_ok-next_inode.field-0 in
    let y = recovered (d.image c.args.disk.now) in
    let same = c.loop-i.invariant.reads.image in
    let count : c.if-branch.files ≡ c.loop-i.files + cond used 1 0 =
    elim c.if-branch.branch [ then-branch w ↦ rw w.if-branch.true w.files-is | else-branch w ↦ rw w.if-branch.false (omega (arith, w.files-is)) ] in
    let here = subst (λ (x : Image). Stand c.loop-i.owners (recovered x) (places_below (recovered x) i) →
    (inode_fault (recovered x) i ≡ None) × Stand c.next_inode.new.owners (recovered x) (places_below (recovered x) (i + 1)) × (used ≡ is_some (file_at (recovered x) i)))
    same c.in_ok-next_inode.ensures.judged in
    record {
      reads = reads_then d c.args.disk.now c.loop-i.disk c.next_inode.new.disk c.loop-i.invariant.reads c.next_inode.ensures.reads;
      faults = c.in_ok-next_inode.ensures.faults ∙ c.loop-i.invariant.faults;
      limits = search rules;
      loaded = inr (subst (λ (x : Image). c.next_inode.new.block ≡ block_at (recovered x) (inode_block (i + 1 - 1))) same
          (let back : i + 1 - 1 ≡ i = omega arith in rw back c.in_ok-next_inode.ensures.block));
      few = elim c.if-branch.branch [ then-branch w ↦ omega (arith, w.files-is) | else-branch w ↦ omega (arith, w.files-is) ];
      judged = λ stand.
          let before = c.loop-i.invariant.judged stand in
          judged_next y i c.loop-i.files c.if-branch.files used c.loop-i.owners c.next_inode.new.owners (omega (arith, c.requires.count)) before count (here before.stand);
    }

pub returns-in_err-next_inode-clause-judged : goal.returns-in_err-next_inode-clause-judged
returns-in_err-next_inode-clause-judged g c = λ stand.
    let d = g.D.Disk in
    let i = c.loop-i.i in
    let y = recovered (d.image c.args.disk.now) in
    let fault = c.in_err-next_inode.field-0.0 in
    let before = c.loop-i.invariant.judged stand in
    let here = subst (λ (x : Image). Stand c.loop-i.owners (recovered x) (places_below (recovered x) i) →
    IsCause (inode_fault (recovered x) i) (d.fault_count c.loop-i.disk) (d.fault_count c.next_inode.new.disk) fault)
    c.loop-i.invariant.reads.image c.in_err-next_inode.ensures.judged before.stand in
    let p = err_from_is_err_and c.from_residual.result c.from_residual.ensures.1 in
    rw (p.1, p.2)
    (cause_next y i c.loop-i.files (d.fault_count c.args.disk.now) (d.fault_count c.next_inode.new.disk) c.loop-i.owners fault
    (omega (arith, c.requires.count)) before
    (subst (λ (n : ℕ). IsCause (inode_fault y i) n (d.fault_count c.next_inode.new.disk) fault) c.loop-i.invariant.faults here))

pub returns-clause-judged : goal.returns-clause-judged
returns-clause-judged g c = λ stand.
    let d = g.D.Disk in
    judged_all (recovered (d.image c.args.disk.now)) c.loop-i.i c.loop-i.files (d.fault_count c.args.disk.now) (d.fault_count c.loop-i.disk) c.loop-i.owners
    (omega (arith, c.requires.count, c.requires.some)) (omega (arith, c.requires.some)) (c.loop-i.invariant.judged stand)
