use Rattle.std.proofs.Common.{◌-◌, ap, ◌∙◌, inr, arith}
use Rattle.offline.specs.Common.{one_more}
use Rattle.offline.proofs.MakingLemmas.{counted_all, last_made, order_last, part_more}
use Rattle.offline.proofs.making.write_image.Goals as goal

pub returns-in_err-write_block-clause-writes : goal.returns-in_err-write_block-clause-writes
returns-in_err-write_block-clause-writes g c =
    let d = g.D.Disk in
    let image = c.args.image.now in
    let made = c.in_ok-write_behind.ensures in
    let write = c.in_err-write_block.ensures.writes in
    record {
      name = write.name ∙ made.writes.name;
      syncs = write.syncs ∙ made.writes.syncs;
      order = λ plain. part_more d.image d.moment d.leaves image.form image.size image.ninodes (image.size - 1) 1 c.args.disk.now c.write_behind.new.disk c.write_block.new.disk
          (g.met.D.Disk.only_now c.write_block.new.disk (ap d.holding (write.name ∙ made.writes.name) ∙ plain))
          c.requires.some (omega (arith, c.requires.some)) (order_last image.size c.requires.some) made.ok.last write.err write.time (made.writes.order plain);
    }

pub returns-clause-made : goal.returns-clause-made
returns-clause-made g c =
    let d = g.D.Disk in
    let image = c.args.image.now in
    let made = c.in_ok-write_behind.ensures in
    let write = c.in_ok-write_block.ensures.writes in
    record {
      image = last_made image.form image.size image.ninodes (d.image c.args.disk.now) (d.image c.write_behind.new.disk) (d.image c.write_block.new.disk) made.ok.image c.requires.some write.ok;
      writes = write.writes ∙ ap one_more made.ok.writes ∙ counted_all (d.write_count c.args.disk.now) image.size (omega (arith, c.requires.some));
      faults = write.faults ∙ made.ok.faults;
    }

pub returns-clause-writes : goal.returns-clause-writes
returns-clause-writes g c =
    let d = g.D.Disk in
    let image = c.args.image.now in
    let made = c.in_ok-write_behind.ensures in
    let write = c.in_ok-write_block.ensures.writes in
    record {
      name = write.name ∙ made.writes.name;
      syncs = write.syncs ∙ made.writes.syncs;
      order = λ plain. part_more d.image d.moment d.leaves image.form image.size image.ninodes (image.size - 1) 1 c.args.disk.now c.write_behind.new.disk c.write_block.new.disk
          (g.met.D.Disk.only_now c.write_block.new.disk (ap d.holding (write.name ∙ made.writes.name) ∙ plain))
          c.requires.some (omega (arith, c.requires.some)) (order_last image.size c.requires.some) made.ok.last (inr write.ok) write.time (made.writes.order plain);
    }
