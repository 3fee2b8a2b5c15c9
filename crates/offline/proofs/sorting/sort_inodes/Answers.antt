use Rattle.std.proofs.Common.{◌≡◌, ◌∙◌, ◌-◌, ℕ, Bool, subst, arith}
use Rattle.std.specs.List.{range_with_len}
use Rattle.offline.specs.Common.{Dinode, Image, reads_then, recovered}
use Rattle.model.specs.Layout.{inode_of}
use Rattle.offline.specs.Clean.{is_clean_inode, Joins, Sorts}
use Rattle.offline.proofs.SortingLemmas.{numbers_end, sorts_next}
use Rattle.offline.proofs.sorting.sort_inodes.Goals as goal

pub loop-i-preserved : goal.loop-i-preserved
loop-i-preserved g c =
    let i = c.loop-i.i in
    let y = recovered (g.D.Disk.image c.args.disk.now) in
    let before = c.loop-i.invariant in
    let inode = c.in_ok-inode.inode in
    let read : inode ≡ inode_of y i = subst (λ (x : Image). inode ≡ inode_of (recovered x) i) before.reads.image c.in_ok-inode.ensures.ok in
    let clean = subst (λ (x : Image). c.in_ok-is_clean.is_clean ≡ is_clean_inode (recovered x) i inode) (c.inode.ensures.reads.image ∙ before.reads.image) c.in_ok-is_clean.ensures.clean in
    record {
      reads = reads_then g.D.Disk c.args.disk.now c.inode.new.disk c.is_clean.new.disk (reads_then g.D.Disk c.args.disk.now c.loop-i.disk c.inode.new.disk before.reads c.inode.ensures.reads) c.is_clean.ensures.reads;
      faults = c.in_ok-is_clean.ensures.faults ∙ c.in_ok-inode.ensures.faults ∙ before.faults;
      sorted = sorts_next y i c.loop-i.sorted c.join.new.sorted (omega (arith, c.loop-i.auto.i)) before.sorted
          (subst (λ (e : Dinode). Joins i e.kind (is_clean_inode y i e) c.loop-i.sorted c.join.new.sorted) read
          (subst (λ (b : Bool). Joins i inode.kind b c.loop-i.sorted c.join.new.sorted) clean c.in_ok-join.ensures));
    }

pub returns-clause-sorted : goal.returns-clause-sorted
returns-clause-sorted g c =
    let x = g.D.Disk.image c.args.disk.now in
    subst (λ (n : ℕ). Sorts (recovered x) (range_with_len 1 (n - 1)) c.loop-i.sorted) (numbers_end x c.args.image.now c.loop-i.i c.requires.recovered (λ some. omega (arith, some))) c.loop-i.invariant.sorted
