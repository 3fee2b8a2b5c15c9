-- A block that no held write is of stays as it is, whichever of them a device has.
use Rattle.std.proofs.Common.{◌≡◌, ℕ, Bool, true, false, List, [], ◌∷◌, ◌∙◌, refl, sym, ap, subst, set}
use Rattle.std.specs.Prelude.{◌==◌, ◌||◌}
use Rattle.blocks.specs.Common.{applied, chosen, eq-eqb, get_or-set_other, Image, true≢false, Write}
use Rattle.blocks.specs.Disk.{block_at}
use Rattle.blocks.specs.ForgetfulDisk.{is_held}

neither : (a b : Bool) → (a || b) ≡ false → (a ≡ false) × (b ≡ false)
neither false b none = (refl, none)
neither true b none = absurd (true≢false none)

-- the write at the front is of another block
passed : (z : Image) (w : Write) (b : ℕ) → (w.0 == b) ≡ false → block_at (set z w.0 w.1) b ≡ block_at z b
passed z w b differs = get_or-set_other z w.0 b w.1 [] (λ same. true≢false (sym (eq-eqb w.0 b (sym same)) ∙ differs))

pub applied_other : (z : Image) (held : List Write) (b : ℕ) → is_held b held ≡ false → block_at (applied z held) b ≡ block_at z b
applied_other z [] b none = refl
applied_other z (w ∷ held) b none =
    let r = neither (w.0 == b) (is_held b held) none in
    applied_other (set z w.0 w.1) held b r.1 ∙ passed z w b r.0

pub chosen_other : (z : Image) (held : List Write) (keep : List Bool) (b : ℕ) → is_held b held ≡ false → block_at (chosen z held keep) b ≡ block_at z b
chosen_other z [] keep b none = refl
chosen_other z (w ∷ held) [] b none = refl
chosen_other z (w ∷ held) (true ∷ keep) b none =
    let r = neither (w.0 == b) (is_held b held) none in
    chosen_other (set z w.0 w.1) held keep b r.1 ∙ passed z w b r.0
chosen_other z (w ∷ held) (false ∷ keep) b none = chosen_other z held keep b (neither (w.0 == b) (is_held b held) none).1
