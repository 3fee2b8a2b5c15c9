use Rattle.std.proofs.Common.{◌∙◌, ap, subst, sym, refl, arith, length, length-set, set, true, List, ◌++◌, ◌∷◌, []}
use Rattle.blocks.specs.Common.{AreInside, held_by, IsBlock, IsShadow, Write}
use Rattle.blocks.proofs.BlockLemmas.{is_image-set}
use Rattle.blocks.proofs.HeldLemmas.{crash_noted, elapses_on, inside_push, lost_noted, shadow_noted}
use Rattle.blocks.proofs.sync.SyncDiskDisk.write.Goals as goal

pub invariant_of-self-2-clause-same_size : goal.invariant_of-self-2-clause-same_size
invariant_of-self-2-clause-same_size c = ap (λ v. length v.items) c.hold.ensures.synced ∙ c.args.self.now.same_size ∙ sym (length-set c.args.self.now.shown.items c.args.block c.copy_from_slice.new.self)

pub invariant_of-self-2-clause-inside : goal.invariant_of-self-2-clause-inside
invariant_of-self-2-clause-inside c =
    let d = c.args.self.now in
    subst (λ v. AreInside (length v.items) (held_by c.hold.new.self)) (sym c.hold.ensures.synced)
    (subst (AreInside (length d.state.synced.items)) (sym c.hold.ensures.held)
    (inside_push (length d.state.synced.items) (held_by d.state) (c.args.block, c.args.from.now) d.inside (omega (arith, c.requires, d.same_size))))

pub invariant_of-self-2-clause-is_image : goal.invariant_of-self-2-clause-is_image
invariant_of-self-2-clause-is_image c = is_image-set c.args.self.now.shown.items c.args.block c.copy_from_slice.new.self c.args.self.now.is_image (subst IsBlock (sym (c.copy_from_slice.ensures.after ∙ c.as_slice.ensures.value)) c.hold.ensures.block)

pub invariant_of-self-2-clause-synced : goal.invariant_of-self-2-clause-synced
invariant_of-self-2-clause-synced c = ap (λ v. v.items) c.hold.ensures.synced ∙ c.args.self.now.synced ∙ sym (ap (λ s. s.value.items) c.note.ensures.state.synced)

pub invariant_of-self-2-clause-held : goal.invariant_of-self-2-clause-held
invariant_of-self-2-clause-held c =
    let d = c.args.self.now in
    c.hold.ensures.held ∙ ap (λ (h : List Write). h ++ (c.args.block, c.args.from.now) ∷ []) d.held ∙ sym c.note.ensures.state.held

pub invariant_of-self-2-clause-shadowed : goal.invariant_of-self-2-clause-shadowed
invariant_of-self-2-clause-shadowed c =
    let d = c.args.self.now in
    subst (λ (b : List _). IsShadow true (set d.shown.items c.args.block b) c.note.new.self) (sym (c.copy_from_slice.ensures.after ∙ c.as_slice.ensures.value))
    (shadow_noted d.shadow c.note.new.self c.note.ensures.past c.args.block c.args.from.now c.note.ensures.state d.shown.items c.hold.ensures.block d.shadowed)

pub returns-clause-writes : goal.returns-clause-writes
returns-clause-writes c =
    let d = c.args.self.now in
    record {
      name = refl;
      ok = ap (set d.shown.items c.args.block) (c.copy_from_slice.ensures.after ∙ c.as_slice.ensures.value);
      err = tt;
      writes = c.saturating_add-self-2.ensures;
      faults = refl;
      syncs = refl;
      time = elapses_on d.shadow c.note.new.self c.note.ensures.past;
      crash = crash_noted d.shadow c.note.new.self c.note.ensures.past c.args.block c.args.from.now c.note.ensures.state;
      may_lose = λ holds. lost_noted d.shadow c.note.new.self c.note.ensures.past c.args.block c.args.from.now c.note.ensures.state;
    }
