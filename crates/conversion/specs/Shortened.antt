-- An image with a shorter log, and why there is none.
use Rattle.std.specs.Prelude.{◌≡◌, ℕ, ◌<◌, ◌≤◌, IsTrue, length, Option, None}
use Rattle.blocks.specs.Disk.{Image, IsImage, block_at}
use Rattle.model.specs.Crash.{labels_of}
use Rattle.model.specs.Files.{files_of}
use Rattle.model.specs.Format.{log_blocks}
use Rattle.model.specs.Layout.{inode_count_of, super_of}
use Rattle.model.specs.Log.{logged_count}
use Rattle.model.specs.Verdict.{verdict}
use Rattle.offline.specs.Cause.{IsCause}
use Rattle.conversion.specs.Converted.{IsUnmoved, chosen_size, conversion_fault, least_size}
use Rattle.conversion.specs.Moving.{moved_image}
use Rattle.conversion.specs.Older.{is_log_length, older_files, older_labels, super_with}
use Rattle.conversion.specs.OlderSound.{IsOlderSound}
use Rattle.conversion.specs.declared.fault.ConversionFault.{ConversionFault}
use Rattle.conversion.specs.declared.fault.ConversionFault.TheVariants.{Unsound}

-- Image y has a log of `to` blocks, is sound as such an image, and has the files of image x; each number
-- has its labels, and the boot block is the same.
pub record IsShortened (x : Image) (to size : ℕ) (y : Image) : Type 0 where
  -- its blocks are those of x where they belong now
  pub blocks : y ≡ moved_image x to size
  pub sound : IsOlderSound y
  pub fields : super_of y ≡ super_with to size (inode_count_of x)
  pub long : length y ≡ size
  pub files : older_files y ≡ files_of x
  pub labels : (i : ℕ) → 1 ≤ i → i < inode_count_of x → older_labels y i ≡ labels_of x i
  pub boot : block_at y 0 ≡ block_at x 0

-- image x has that fault, or could not be checked
abbrev pub IsUnchecked : Image → ℕ → ℕ → ConversionFault → Type 0
IsUnchecked x was is (Unsound fault) = IsCause (verdict x) was is fault
IsUnchecked x was is fault = ⊥

-- why image x got no shorter log: it has a fault or could not be checked, or else it was not moved
abbrev pub IsNotShortened : Image → ℕ → Option ℕ → ℕ → ℕ → ConversionFault → Type 0
IsNotShortened x to asked was is (Unsound fault) = IsCause (verdict x) was is fault
IsNotShortened x to asked was is fault =
    (verdict x ≡ None) × IsUnmoved x to asked was is fault

-- an image that is sound, whatever the length of its log, is sound with another log
abbrev pub SoundnessIsKept : Type 0
SoundnessIsKept = (x : Image) (to : ℕ) (asked : Option ℕ) → IsTrue (is_log_length to) → IsImage x →
    IsOlderSound x → conversion_fault x to asked ≡ None →
    IsOlderSound (moved_image x to (chosen_size x to asked))

-- so none that is sound is refused as unsound
abbrev pub SoundOnesConvert : Type 0
SoundOnesConvert = (x : Image) (asked : Option ℕ) → IsImage x → IsOlderSound x →
    conversion_fault x log_blocks asked ≡ None →
    verdict (moved_image x log_blocks (chosen_size x log_blocks asked)) ≡ None

-- what was made of image x by shortening its log, image y, is converted to a sound one of the size of x, with
-- its files
pub record ConvertsBack (x y : Image) : Type 0 where
  pub taken : conversion_fault y log_blocks None ≡ None
  pub size : chosen_size y log_blocks None ≡ length x
  pub judged : verdict (moved_image y log_blocks (length x)) ≡ None
  pub files : files_of (moved_image y log_blocks (length x)) ≡ files_of x

-- each that was shortened is
abbrev pub ShortenedOnesConvert : Type 0
ShortenedOnesConvert = (x y : Image) (to : ℕ) → IsTrue (is_log_length to) → IsImage y →
    verdict x ≡ None → logged_count x ≡ 0 → IsShortened x to (least_size x to) y → ConvertsBack x y
