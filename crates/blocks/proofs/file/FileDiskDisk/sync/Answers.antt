use Rattle.std.proofs.Common.{◌∙◌, ap, arith, refl, sym, subst, ℕ}
use Rattle.std.specs.Prelude.{Ok, Err, OnOk, Result}
use Rattle.blocks.specs.Disk.{CountsFault}
use Rattle.blocks.specs.Common.{Image, IsSettledOn, IsShadow}
use Rattle.blocks.proofs.HeldLemmas.{adds_none_settled, settled_now, shadow_settled}
use Rattle.blocks.proofs.file.FileDiskDisk.sync.Goals as goal

on_ok : {T E P : Type 0} (r : Result T E) → P → OnOk r P
on_ok (Ok t) p = p
on_ok (Err e) p = tt

-- a disk in memory has no fault
no_fault : {T E : Type 0} (r : Result T E) (n : ℕ) → CountsFault r 0 0 → CountsFault r n n
no_fault (Ok t) n none = refl
no_fault (Err e) n one = absurd (omega (arith, one))

pub invariant_of-self-2-clause-shadowed : goal.invariant_of-self-2-clause-shadowed
invariant_of-self-2-clause-shadowed g c =
    let d = c.args.self.now in
    let shown = d.copy.blocks.items in
    let settled = subst (λ (x : Image). IsSettledOn x c.settle.new.self.state) (ap (λ v. v.items) c.blocks-2.ensures.blocks) c.settle.ensures.state in
    subst (λ (x : Image). IsShadow d.holds x c.settle.new.self) (sym c.sync-2.ensures.image)
    (shadow_settled d.shadow c.settle.new.self c.settle.ensures.past shown settled d.holds shown d.copy.is_image d.shadowed)

pub returns-clause-syncs : goal.returns-clause-syncs
returns-clause-syncs g c =
    let d = c.args.self.now in
    let settled = subst (λ (x : Image). IsSettledOn x c.settle.new.self.state) (ap (λ v. v.items) c.blocks-2.ensures.blocks) c.settle.ensures.state in
    record {
      name = refl;
      settled = on_ok c.sync-2.result (λ x left. settled_now d.shadow c.settle.new.self c.settle.ensures.past d.copy.blocks.items settled x left ∙ sym c.sync-2.ensures.image);
      image = c.sync-2.ensures.image;
      writes = c.sync-2.ensures.writes;
      faults = no_fault c.sync-2.result d.faults c.sync-2.ensures.faults;
      syncs = c.sync-2.ensures.syncs;
      time = adds_none_settled d.shadow c.settle.new.self c.settle.ensures.past d.copy.blocks.items settled d.holds d.shadowed;
    }
