-- What a check of a disk before its recovery gives.
use Rattle.std.proofs.Common.{◌≡◌, true, length, ◌∙◌, ap, None}
use Rattle.kernel.specs.Common.{Image, is_lawful_super, Super, super_of, verdict, verdict_sound}

-- the superblock that a check without a fault answers is lawful
pub lawful_super : (x : Image) (sup : Super) → verdict x ≡ None → sup ≡ super_of x
    → is_lawful_super sup (length x) ≡ true
lawful_super x sup none is =
    ap (λ (s : Super). is_lawful_super s (length x)) is ∙ (verdict_sound x none).0.fields
