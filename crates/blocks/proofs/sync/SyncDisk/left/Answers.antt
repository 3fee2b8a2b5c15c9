use Rattle.std.proofs.Common.{◌∙◌, ap, subst, sym, inl, length}
use Rattle.blocks.specs.Common.{CanFloat, held_by, IsImage}
use Rattle.blocks.proofs.HeldLemmas.{chosen_left, length-chosen}
use Rattle.blocks.proofs.sync.SyncDisk.left.Goals as goal

pub of-requires-clause-sized : goal.of-requires-clause-sized
of-requires-clause-sized c =
    let d = c.args.self.now in
    d.sized ∙ sym (ap length c.in_ok-blocks.ensures ∙ length-chosen d.state.synced.items (held_by d.state) c.args.keep.now ∙ d.same_size)

pub of-requires-clause-blocks : goal.of-requires-clause-blocks
of-requires-clause-blocks c =
    let d = c.args.self.now in
    subst IsImage (sym c.in_ok-blocks.ensures) (d.shadowed.are _ (chosen_left d.shadow d.state.synced.items (held_by d.state) c.args.keep.now d.synced d.held c.requires))

pub returns-clause-leaves : goal.returns-clause-leaves
returns-clause-leaves c =
    let d = c.args.self.now in
    inl (subst (CanFloat d.shadow.state) (sym (c.of.ensures.image ∙ c.in_ok-blocks.ensures)) (chosen_left d.shadow d.state.synced.items (held_by d.state) c.args.keep.now d.synced d.held c.requires))
