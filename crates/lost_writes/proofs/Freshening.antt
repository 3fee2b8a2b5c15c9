-- What a failed sync leaves, and the header that is written anew behind it.
use Rattle.std.proofs.Common.{◌≡◌, ◌⊎◌, inl, inr, ⊎_elim, ℕ, List, [], ◌∷◌, length, sym, ◌∙◌, subst, set}
use Rattle.std.proofs.lemmas.List.{set_past}
use Rattle.blocks.specs.Held.{applied}
use Rattle.wal.specs.Common.{block_at, cases_lt, recovered}
use Rattle.lost_writes.specs.Device.{MayTear, StopLeaves}
use Rattle.lost_writes.specs.Laws.{BreaksAsStopped, FreshensSafely}
use Rattle.lost_writes.specs.Stale.{RecoversTo, freshened}
use Rattle.lost_writes.proofs.Sector.{SameSector, recovers_sector, torn_header}
use Rattle.lost_writes.proofs.Writes.{torn_more}
use Rattle.lost_writes.proofs.Stale.{recovers_stale}

pub breaks_as_stopped : BreaksAsStopped
breaks_as_stopped x z y w [] none = absurd none
breaks_as_stopped x z y w (part ∷ parts) (inl first) = inl (torn_more z w first.0 part first.1)
breaks_as_stopped x z y w (part ∷ parts) (inr later) = inr (breaks_as_stopped (applied x part) (applied z part) y w parts later)

pub freshens_safely : FreshensSafely
freshens_safely a y w v lawful stale before left = by_stop left
  where
    behind : RecoversTo (recovered y) (freshened y w)
    behind = recovers_stale y (freshened y w) lawful stale

    torn : (bytes : List ℕ) → MayTear w (2, block_at y 2) bytes → v ≡ set w 2 bytes → RecoversTo a v ⊎ RecoversTo (recovered y) v
    torn bytes tears is = elim (cases_lt 2 (length w)) [
      | inl long ↦ ⊎_elim
          (λ (old : SameSector w v). inl (recovers_sector a w v old before))
          (λ (new : SameSector (freshened y w) v). inr (recovers_sector (recovered y) (freshened y w) v new behind))
          (torn_header w v (block_at y 2) bytes long tears is)
      | inr short ↦ inl (subst (RecoversTo a) (sym (is ∙ set_past w 2 bytes short)) before)
    ]

    by_stop : StopLeaves w (((2, block_at y 2) ∷ []) ∷ []) v → RecoversTo a v ⊎ RecoversTo (recovered y) v
    by_stop (inl (bytes, tears, is)) = torn bytes tears is
    by_stop (inr is) = inr (subst (RecoversTo (recovered y)) (sym is) behind)
