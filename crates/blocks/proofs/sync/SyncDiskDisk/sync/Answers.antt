use Rattle.std.proofs.Common.{◌∙◌, ap, sym, refl, arith, length, true}
use Rattle.blocks.proofs.HeldLemmas.{adds_none_settled, held_none, settled_now, shadow_settled}
use Rattle.blocks.proofs.sync.SyncDiskDisk.sync.Goals as goal

pub invariant_of-self-clause-same_size : goal.invariant_of-self-clause-same_size
invariant_of-self-clause-same_size c = ap length c.settle.ensures.synced

pub invariant_of-self-clause-inside : goal.invariant_of-self-clause-inside
invariant_of-self-clause-inside c k lt = absurd (omega (arith, lt, ap length (held_none c.settle.new.self c.settle.ensures.count)))

pub invariant_of-self-clause-synced : goal.invariant_of-self-clause-synced
invariant_of-self-clause-synced c = c.settle.ensures.synced ∙ sym c.settle-2.ensures.state.synced

pub invariant_of-self-clause-held : goal.invariant_of-self-clause-held
invariant_of-self-clause-held c = held_none c.settle.new.self c.settle.ensures.count ∙ sym c.settle-2.ensures.state.held

pub invariant_of-self-clause-shadowed : goal.invariant_of-self-clause-shadowed
invariant_of-self-clause-shadowed c =
    let d = c.args.self.now in
    shadow_settled d.shadow c.settle-2.new.self c.settle-2.ensures.past d.shown.items c.settle-2.ensures.state true d.shown.items d.is_image d.shadowed

pub returns-clause-syncs : goal.returns-clause-syncs
returns-clause-syncs c =
    let d = c.args.self.now in
    record {
      name = refl;
      settled = settled_now d.shadow c.settle-2.new.self c.settle-2.ensures.past d.shown.items c.settle-2.ensures.state;
      image = refl;
      writes = refl;
      faults = refl;
      syncs = c.saturating_add-self.ensures;
      time = adds_none_settled d.shadow c.settle-2.new.self c.settle-2.ensures.past d.shown.items c.settle-2.ensures.state true d.shadowed;
    }
