-- What a stop leaves of a copy to a disk that had no image.
use Rattle.std.specs.Prelude.{◌≡◌, ◌⊎◌, ◌≤◌, ℕ, false, length, Some}
use Rattle.blocks.specs.Disk.{Image}
use Rattle.model.specs.declared.types.fault.CheckFault.TheVariants.{BadMagic}
use Rattle.model.specs.Layout.{has_known_magic}
use Rattle.model.specs.Verdict.{verdict}
use Rattle.transfer.specs.Copies.{IsCopyOf, IsNoneOrWhole}

-- where block 1 of image n is no superblock, a check refuses what is left, or it is a whole copy
abbrev pub StoppedCopyIsRefused : Type 0
StoppedCopyIsRefused = (size : ℕ) (old n x : Image) →
    2 ≤ length n → has_known_magic n ≡ false → IsNoneOrWhole size old n x →
    (verdict x ≡ Some BadMagic) ⊎ IsCopyOf size old x
