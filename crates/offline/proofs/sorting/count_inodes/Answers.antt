use Rattle.std.proofs.Common.{◌∙◌, ℕ, subst, arith}
use Rattle.offline.specs.Common.{places_below, reads_then, recovered}
use Rattle.offline.specs.Clean.{Counts}
use Rattle.offline.proofs.SortingLemmas.{numbers_end}
use Rattle.offline.proofs.sorting.count_inodes.Goals as goal

pub count_inode-requires-clause-counts : goal.count_inode-requires-clause-counts
count_inode-requires-clause-counts g c =
    rw c.loop-i.invariant.reads.image c.loop-i.invariant.counts

pub loop-i-preserved : goal.loop-i-preserved
loop-i-preserved g c =
    let d = g.D.Disk in
    let before = c.loop-i.invariant in
    record {
      reads = reads_then d c.args.disk.now c.loop-i.disk c.count_inode.new.disk before.reads c.count_inode.ensures.reads;
      faults = c.in_ok-count_inode.ensures.faults ∙ before.faults;
      counts = rw (← before.reads.image) c.in_ok-count_inode.ensures.counted;
    }

pub returns-clause-counted : goal.returns-clause-counted
returns-clause-counted g c =
    let x = g.D.Disk.image c.args.disk.now in
    subst (λ (n : ℕ). Counts c.loop-i.table (recovered x) (places_below (recovered x) n)) (numbers_end x c.args.image.now c.loop-i.i c.requires.recovered (λ some. omega (arith, some))) c.loop-i.invariant.counts
