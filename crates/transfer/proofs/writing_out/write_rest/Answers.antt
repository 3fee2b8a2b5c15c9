use Rattle.std.proofs.Common.{◌≡◌, ◌≢◌, ◌∙◌, ◌≤◌, ap, length, set, subst, arith}
use Rattle.blocks.specs.Calls.{WritesOne}
use Rattle.blocks.specs.Disk.{Image, block_at, one_more}
use Rattle.blocks.specs.contracts.memory.MemDiskDisk.TheImpl.{ghosts}
use Rattle.transfer.proofs.WritingLemmas.{counted_more, stops_besides, written_more}
use Rattle.transfer.proofs.writing_out.write_rest.Goals as goal

pub returns-in_err-write_block-2-clause-stops : goal.returns-in_err-write_block-2-clause-stops
returns-in_err-write_block-2-clause-stops g c =
    let d = g.E.Disk in
    let b = c.loop-b.b in
    let other : b ≢ 1 = omega (arith, c.loop-b.auto.b) in
    stops_besides d c.write_block-in-loop-b.result b _ c.args.disk.now c.loop-b.disk c.write_block-in-loop-b.new.disk (g.met.E.Disk.counts_now c.loop-b.disk) other
    c.write_block-in-loop-b.ensures.writes c.loop-b.invariant.stops

pub loop-b-preserved : goal.loop-b-preserved
loop-b-preserved g c =
    let d = g.E.Disk in
    let b = c.loop-b.b in
    let whole = ghosts.image c.args.memory.now in
    let kept = c.loop-b.invariant in
    let write = subst (λ (x : Image). WritesOne d b (block_at x b) c.write_block-in-loop-b.result c.loop-b.disk c.write_block-in-loop-b.new.disk) kept.keeps c.write_block-in-loop-b.ensures.writes in
    let done = subst (λ (x : Image). d.image c.write_block-in-loop-b.new.disk ≡ set (d.image c.loop-b.disk) b (block_at x b)) kept.keeps c.in_ok-write_block-2.ensures.writes.ok in
    let other : b ≢ 1 = omega (arith, c.loop-b.auto.b) in
    let some : 1 ≤ b = omega (arith, c.loop-b.auto.b) in
    record {
      keeps = c.write_block-in-loop-b.ensures.keeps ∙ kept.keeps;
      image = written_more whole (d.image c.args.disk.now) (d.image c.loop-b.disk) (d.image c.write_block-in-loop-b.new.disk) b c.requires.size kept.image (omega (arith, c.loop-b-test.true, ap length c.write_block.ensures.keeps)) other done;
      name = c.write_block-in-loop-b.ensures.writes.name ∙ kept.name;
      writes = c.in_ok-write_block-2.ensures.writes.writes ∙ ap one_more kept.writes ∙ counted_more (d.write_count c.args.disk.now) b some;
      faults = c.in_ok-write_block-2.ensures.writes.faults ∙ kept.faults;
      syncs = c.write_block-in-loop-b.ensures.writes.syncs ∙ kept.syncs;
      stops = stops_besides d c.write_block-in-loop-b.result b (block_at whole b) c.args.disk.now c.loop-b.disk c.write_block-in-loop-b.new.disk (g.met.E.Disk.counts_now c.loop-b.disk) other write kept.stops;
    }
