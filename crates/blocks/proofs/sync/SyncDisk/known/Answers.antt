use Rattle.std.proofs.Common.{List, inl, subst, sym}
use Rattle.blocks.specs.Common.{held_by, HeldImages, Image, noted_by, Write}
use Rattle.blocks.specs.Lemmas.Held.{only_left}
use Rattle.blocks.proofs.sync.SyncDisk.known.Goals as goal

pub returns : goal.returns
returns c x =
    let d = c.args.self.now in (
      λ left. subst (λ (h : List Write). HeldImages d.state.synced.items h x) (sym d.held)
          (subst (λ (z : Image). HeldImages z (noted_by d.shadow.state) x) (sym d.synced) (only_left d.shadow x left)),
      λ held. inl (subst (λ (h : List Write). HeldImages d.shadow.state.synced.value.items h x) d.held
          (subst (λ (z : Image). HeldImages z (held_by d.state) x) d.synced held)),
    )
