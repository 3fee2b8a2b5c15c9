-- Writes that are held back, and one more.
use Rattle.std.specs.Prelude.{◌≡◌, List, [], ◌∷◌, ◌++◌, slice_set, refl}
use Rattle.std.proofs.Common.{inl, inr}
use Rattle.blocks.specs.Common.{applied, HeldImages, Image, IsOldOrNew, Write}

-- what may be left then might be left before, but for its block
pub held_push : (synced : Image) (held : List Write) (write : Write) (x : Image) → HeldImages synced (held ++ write ∷ []) x → (y : Image) × HeldImages synced held y × IsOldOrNew y write.0 write.1 x
held_push synced [] write x (inl is) = (synced, refl, inl is)
held_push synced [] write x (inr is) = (synced, refl, inr is)
held_push synced (w ∷ held) write x (inl without) = let r = held_push synced held write x without in (r.0, inl r.1, r.2)
held_push synced (w ∷ held) write x (inr with_it) = let r = held_push (slice_set synced w.0 w.1) held write x with_it in (r.0, inr r.1, r.2)

pub applied_push : (synced : Image) (held : List Write) (write : Write) → applied synced (held ++ write ∷ []) ≡ slice_set (applied synced held) write.0 write.1
applied_push synced [] write = refl
applied_push synced (w ∷ held) write = applied_push (slice_set synced w.0 w.1) held write
