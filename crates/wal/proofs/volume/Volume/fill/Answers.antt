use Rattle.std.proofs.Common.{◌≡◌, ◌∙◌, ap, subst, rules}
use Rattle.wal.specs.Common.{block_at, block_or_zero, Buffer, filled, now_stays, seen}
use Rattle.wal.proofs.BlocksLemmas.{blocks_filled}
use Rattle.wal.proofs.VolumeLemmas.{floats_at, read_afloat, if_whole, joint_here, blocks_here, buffer_here, joint_got, seen_unfilled, block_inside, inside_here}
use Rattle.wal.proofs.volume.Volume.fill.Goals as goal

pub fill-requires-clause-inside : goal.fill-requires-clause-inside
fill-requires-clause-inside g c = block_inside _ c.args.slot c.args.block (joint_here g.D.Disk _ _ c.self.view_is c.requires.fault c.self.invariant) (ap (λ (s : Buffer). s.block) (buffer_here _ _ c.args.slot c.self.view_is) ∙ c.requires.lacks.block)

pub invariant_of-self : goal.invariant_of-self
invariant_of-self g c =
    let slot = buffer_here _ _ c.args.slot c.self.view_is in
    let block = ap (λ (s : Buffer). s.block) slot ∙ c.requires.lacks.block in
    let valid = ap (λ (s : Buffer). s.valid) slot ∙ c.requires.lacks.valid in
    let bytes = ap (λ o. filled c.self.inside.cache c.args.slot (block_at (g.D.Disk.image c.self.inside.disk) (block_or_zero o))) block in
    let joint = joint_here g.D.Disk _ _ c.self.view_is c.requires.fault c.self.invariant in
    if_whole _ (joint_got _ _ c.args.slot c.args.block joint c.requires.lacks.slot block valid (c.in-Ok.ensures.ok ∙ bytes) c.in-Ok.ensures.reads.image).0
    (blocks_filled (g.D.Disk.image c.self.inside.disk) _ _ c.args.slot c.args.block joint.cache c.requires.lacks.slot (blocks_here g.D.Disk _ _ c.self.view_is c.requires.fault c.self.invariant)
    (g.met.D.Disk.is_image c.self.inside.disk) (inside_here _ c.args.slot c.args.block joint block) (c.in-Ok.ensures.ok ∙ bytes))
    (read_afloat _ _ (floats_at g.D.Disk _ _ c.self.view_is c.requires.fault c.self.invariant) c.in-Ok.ensures.reads.image (now_stays g.D.Disk.moment g.D.Disk.leaves c.self.inside.disk c.fill.new.disk (g.met.D.Disk.counts_now c.fill.new.disk) c.in-Ok.ensures.reads.time) (ap g.D.Disk.holding c.in-Ok.ensures.reads.name))

pub returns-in-Ok-clause-reads : goal.returns-in-Ok-clause-reads
returns-in-Ok-clause-reads g c =
    let slot = buffer_here _ _ c.args.slot c.self.view_is in
    let block = ap (λ (s : Buffer). s.block) slot ∙ c.requires.lacks.block in
    let valid = ap (λ (s : Buffer). s.valid) slot ∙ c.requires.lacks.valid in
    let bytes = ap (λ o. filled c.self.inside.cache c.args.slot (block_at (g.D.Disk.image c.self.inside.disk) (block_or_zero o))) block in
    record {
      fault = search rules;
      log = search rules;
      current = subst (λ s. seen (g.D.Disk.image c.fill.new.disk) c.fill.new.self ≡ seen (g.D.Disk.image s.device) s.buffers) c.self.view_is
          (joint_got _ _ c.args.slot c.args.block (joint_here g.D.Disk _ _ c.self.view_is c.requires.fault c.self.invariant) c.requires.lacks.slot block valid (c.in-Ok.ensures.ok ∙ bytes) c.in-Ok.ensures.reads.image).1;
      device = search rules;
      faults = search rules;
    }

pub returns-in-Err-clause-reads : goal.returns-in-Err-clause-reads
returns-in-Err-clause-reads g c =
    let valid = ap (λ (s : Buffer). s.valid) (buffer_here _ _ c.args.slot c.self.view_is) ∙ c.requires.lacks.valid in
    record {
      fault = search rules;
      log = search rules;
      current = subst (λ s. seen (g.D.Disk.image c.fill.new.disk) c.fill.new.self ≡ seen (g.D.Disk.image s.device) s.buffers) c.self.view_is
          (seen_unfilled c.self.inside.cache c.fill.new.self c.args.slot valid c.in-Err.ensures.err c.in-Err.ensures.reads.image);
      device = search rules;
      faults = search rules;
    }
