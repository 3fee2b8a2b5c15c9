use Rattle.std.proofs.Common.{◌≡◌, ◌∙◌, subst, arith}
use Rattle.conversion.specs.Common.{Image, reads_then}
use Rattle.conversion.specs.Older.{older_inode}
use Rattle.conversion.proofs.NodeLemmas.{noted_more}
use Rattle.conversion.proofs.nodes.note_nodes.Goals as goal

pub loop-i-preserved : goal.loop-i-preserved
loop-i-preserved g c =
    let i = c.loop-i.i in
    let x = g.D.Disk.image c.args.old.now in
    let before = c.loop-i.invariant in
    let inode = c.in_ok-inode.inode in
    record {
      reads = reads_then g.D.Disk c.args.old.now c.loop-i.old c.read_inode.new.old before.reads c.read_inode.ensures.reads;
      faults = c.in_ok-inode.ensures.faults ∙ before.faults;
      noted = noted_more x i inode c.loop-i.nodes c.note_node.new.nodes (omega (arith, c.loop-i.auto.i))
          (subst (λ (y : Image). inode ≡ older_inode y i) before.reads.image c.in_ok-inode.ensures.inode) before.noted c.note_node.ensures;
    }
