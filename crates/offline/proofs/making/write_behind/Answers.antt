use Rattle.std.proofs.Common.{◌≡◌, ◌≢◌, ℕ, ◌+◌, ◌-◌, ap, ◌∙◌, sym, inr, refl, arith}
use Rattle.std.specs.Prelude.{slice_set}
use Rattle.offline.specs.Common.{Image, made_block, one_more}
use Rattle.offline.specs.Making.{made_first}
use Rattle.offline.proofs.MakingLemmas.{counted_more, has_made_more, made_first-more, made_two, order_behind, part_more, part_started}
use Rattle.offline.proofs.making.write_behind.Goals as goal

pub returns-in_err-write_block-clause-writes : goal.returns-in_err-write_block-clause-writes
returns-in_err-write_block-clause-writes g c =
    let d = g.D.Disk in
    let only_now = g.met.D.Disk.only_now in
    let image = c.args.image.now in
    let write = c.write_block.ensures.writes in
    record {
      name = write.name;
      syncs = write.syncs;
      order = λ plain. part_more d.image d.moment d.leaves image.form image.size image.ninodes 0 0 c.args.disk.now c.args.disk.now c.write_block.new.disk
          (only_now c.write_block.new.disk (ap d.holding write.name ∙ plain))
          c.requires.some (omega (arith, c.requires.some)) refl refl c.in_err-write_block.ensures.writes.err write.time
          (part_started d.image d.moment d.leaves image.form image.size image.ninodes c.args.disk.now (only_now c.args.disk.now plain));
    }

pub loop-b-init : goal.loop-b-init
loop-b-init g c =
    let d = g.D.Disk in
    let only_now = g.met.D.Disk.only_now in
    let image = c.args.image.now in
    let old = d.image c.args.disk.now in
    let write = c.in_ok-write_block.ensures.writes in
    record {
      made = made_two image.form image.size image.ninodes old (d.image c.write_block.new.disk) c.requires.size c.requires.some write.ok;
      first = write.ok ∙ sym (made_first-more image.form image.size image.ninodes 0 0 old c.requires.some (omega (arith, c.requires.some)) refl);
      name = write.name;
      syncs = write.syncs;
      writes = write.writes;
      faults = write.faults;
      order = λ plain. part_more d.image d.moment d.leaves image.form image.size image.ninodes 0 0 c.args.disk.now c.args.disk.now c.write_block.new.disk
          (only_now c.write_block.new.disk (ap d.holding write.name ∙ plain))
          c.requires.some (omega (arith, c.requires.some)) refl refl (inr write.ok) write.time
          (part_started d.image d.moment d.leaves image.form image.size image.ninodes c.args.disk.now (only_now c.args.disk.now plain));
    }

pub returns-in_err-write_block-2-clause-writes : goal.returns-in_err-write_block-2-clause-writes
returns-in_err-write_block-2-clause-writes g c =
    let d = g.D.Disk in
    let image = c.args.image.now in
    let b = c.loop-b.b in
    let kept = c.loop-b.invariant in
    let write = c.in_err-write_block-2.ensures.writes in
    record {
      name = write.name ∙ kept.name;
      syncs = write.syncs ∙ kept.syncs;
      order = λ plain. part_more d.image d.moment d.leaves image.form image.size image.ninodes (b - 1) b c.args.disk.now c.loop-b.disk c.write_block-in-loop-b.new.disk
          (g.met.D.Disk.only_now c.write_block-in-loop-b.new.disk (ap d.holding (write.name ∙ kept.name) ∙ plain))
          c.requires.some (omega (arith, c.loop-b-test.true, c.loop-b.auto.b)) (order_behind image.size b (omega (arith, c.loop-b.auto.b)) c.loop-b-test.true)
          kept.first write.err write.time (kept.order plain);
    }

pub loop-b-preserved : goal.loop-b-preserved
loop-b-preserved g c =
    let d = g.D.Disk in
    let image = c.args.image.now in
    let old = d.image c.args.disk.now in
    let b = c.loop-b.b in
    let kept = c.loop-b.invariant in
    let write = c.in_ok-write_block-2.ensures.writes in
    let behind : b ≢ 1 = omega (arith, c.loop-b.auto.b) in
    let next : b - 1 + 1 ≡ b + 1 - 1 = omega (arith, c.loop-b.auto.b) in
    let place = order_behind image.size b (omega (arith, c.loop-b.auto.b)) c.loop-b-test.true in
    record {
      made = has_made_more image.form image.size image.ninodes b old (d.image c.loop-b.disk) (d.image c.write_block-in-loop-b.new.disk) kept.made c.loop-b-test.true behind write.ok;
      first = write.ok ∙ ap (λ (x : Image). slice_set x b (made_block image.form image.size image.ninodes b)) kept.first
          ∙ sym (made_first-more image.form image.size image.ninodes (b - 1) b old c.requires.some (omega (arith, c.loop-b-test.true, c.loop-b.auto.b)) place)
          ∙ ap (λ (k : ℕ). made_first image.form image.size image.ninodes k old) next;
      name = write.name ∙ kept.name;
      syncs = write.syncs ∙ kept.syncs;
      writes = write.writes ∙ ap one_more kept.writes ∙ counted_more (d.write_count c.args.disk.now) b (omega (arith, c.loop-b.auto.b));
      faults = write.faults ∙ kept.faults;
      order = λ plain. part_more d.image d.moment d.leaves image.form image.size image.ninodes (b - 1) b c.args.disk.now c.loop-b.disk c.write_block-in-loop-b.new.disk
          (g.met.D.Disk.only_now c.write_block-in-loop-b.new.disk (ap d.holding (write.name ∙ kept.name) ∙ plain))
          c.requires.some (omega (arith, c.loop-b-test.true, c.loop-b.auto.b)) place kept.first (inr write.ok) write.time (kept.order plain);
    }
