use Rattle.std.proofs.Common.{◌≡◌, ◌∙◌, refl, subst, arith}
use Rattle.blocks.specs.contracts.memory.MemDiskDisk.TheImpl.{ghosts}
use Rattle.conversion.specs.Common.{Image, moved_block, reads_none, reads_then}
use Rattle.conversion.proofs.FillLemmas.{filled_all, filled_more}
use Rattle.conversion.proofs.filling.fill.Goals as goal

pub loop-b-init : goal.loop-b-init
loop-b-init g c = record {
  reads = reads_none g.D.Disk c.args.old.now;
  faults = refl;
  filled = record { long = c.requires.size; made = λ k low. absurd (omega (arith, low)) };
}

pub loop-b-preserved : goal.loop-b-preserved
loop-b-preserved g c =
    let x = g.D.Disk.image c.args.old.now in
    let plan = c.args.prepared.now.plan in
    let b = c.loop-b.b in
    let before = c.loop-b.invariant in
    let block = c.read_moved.new.block in
    record {
      reads = reads_then g.D.Disk c.args.old.now c.loop-b.old c.read_moved.new.old before.reads c.read_moved.ensures.reads;
      faults = c.in_ok-read_moved.ensures.faults ∙ before.faults;
      filled = filled_more x plan.to plan.size b (ghosts.image c.loop-b.new) (ghosts.image c.put.new.new) block before.filled c.loop-b-test.true
          (subst (λ (y : Image). block ≡ moved_block y plan.to plan.size b) before.reads.image c.in_ok-read_moved.ensures.moved) c.put.ensures;
    }

pub returns-clause-filled : goal.returns-clause-filled
returns-clause-filled g c =
    let x = g.D.Disk.image c.args.old.now in
    let plan = c.args.prepared.now.plan in
    filled_all x plan.to plan.size c.loop-b.b (ghosts.image c.loop-b.new) (omega (arith, c.loop-b-test.false, c.loop-b.auto.b-end)) c.loop-b.invariant.filled
