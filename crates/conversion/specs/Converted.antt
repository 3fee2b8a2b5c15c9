-- A converted image, and why there is none.
use Rattle.std.specs.Prelude.{◌≡◌, ℕ, ◌<◌, ◌≤◌, ◌==◌, ◌&&◌, not, nat_le, nat_lt, if◌then◌else◌, Bool, length, ⊤, Option, Some, None, unwrap_or}
use Rattle.blocks.specs.Disk.{Image, IsImage, Rose, block_at}
use Rattle.model.specs.Crash.{labels_of}
use Rattle.model.specs.Files.{files_of}
use Rattle.model.specs.Format.{log_blocks, most_blocks}
use Rattle.model.specs.Layout.{form_of, inode_count_of, magic_at, magic_of, planned_super, super_of}
use Rattle.model.specs.Log.{logged_count}
use Rattle.model.specs.Soundness.{IsSound}
use Rattle.model.specs.Verdict.{verdict}
use Rattle.model.specs.declared.types.image.Form.TheVariants.{One}
use Rattle.conversion.specs.Moving.{goal_in, moved_image}
use Rattle.conversion.specs.Older.{is_older_super, older_files, older_labels}
use Rattle.conversion.specs.OlderSound.{IsOlderSound}
use Rattle.conversion.specs.declared.fault.ConversionFault.{ConversionFault}
use Rattle.conversion.specs.declared.fault.ConversionFault.TheVariants.{BadGeometry, BadMagic, Disk, Logged, NoMemory, SizeRange, Unsound}

-- the blocks of the image, with a log of `to` blocks in the place of its own
abbrev pub least_size : Image → ℕ → ℕ
least_size x to = goal_in (super_of x) to (super_of x).size

-- the size of the new image: that which is asked for, or else the least
abbrev pub chosen_size : Image → ℕ → Option ℕ → ℕ
chosen_size x to asked = unwrap_or asked (least_size x to)

-- the size has room for the blocks that there are, and an image may have it
abbrev pub is_room : Image → ℕ → ℕ → Bool
is_room x to size = nat_le (least_size x to) size && nat_le size most_blocks

-- why an image can't get a log of `to` blocks, by what its superblock and its log say, and by the size
-- asked for
unfoldable pub conversion_fault : Image → ℕ → Option ℕ → Option ConversionFault
conversion_fault x to asked =
    if nat_lt (length x) 2 then Some BadGeometry
    else if not (magic_at x == magic_of One) then Some BadMagic
    else if not (is_older_super (super_of x) (length x)) then Some BadGeometry
    else if not (logged_count x == 0) then Some (Logged (logged_count x))
    else if not (is_room x to (chosen_size x to asked)) then Some SizeRange
    else None

-- Image y is sound, has our log, and has the files of image x, whose log may be shorter; each number has
-- its labels, and the boot block is the same.
pub record IsConverted (x : Image) (size : ℕ) (y : Image) : Type 0 where
  -- its blocks are those of x where they belong now
  pub blocks : y ≡ moved_image x log_blocks size
  pub sound : IsSound y
  pub judged : verdict y ≡ None
  pub fields : super_of y ≡ planned_super size (inode_count_of x)
  pub form : form_of y ≡ One
  pub long : length y ≡ size
  pub files : files_of y ≡ older_files x
  pub labels : (i : ℕ) → 1 ≤ i → i < inode_count_of x → labels_of y i ≡ older_labels x i
  pub boot : block_at y 0 ≡ block_at x 0

-- why image x was not moved to a log of `to` blocks, on a disk whose faults were and are so many
abbrev pub IsUnmoved : Image → ℕ → Option ℕ → ℕ → ℕ → ConversionFault → Type 0
IsUnmoved x to asked was is (Unsound fault) = ⊥
IsUnmoved x to asked was is (Disk b) = (b < length x) × Rose was is
IsUnmoved x to asked was is NoMemory = is ≡ was
IsUnmoved x to asked was is fault = (conversion_fault x to asked ≡ Some fault) × (is ≡ was)

-- why image x was not converted: what it would be has that fault, which none has that is made of a sound
-- image; or it was not moved
abbrev pub IsRefusal : Image → Option ℕ → ℕ → ℕ → ConversionFault → Type 0
IsRefusal x asked was is (Unsound fault) =
    (conversion_fault x log_blocks asked ≡ None)
    × (verdict (moved_image x log_blocks (chosen_size x log_blocks asked)) ≡ Some fault)
    × (is ≡ was) × (IsOlderSound x → ⊥)
IsRefusal x asked was is fault = IsUnmoved x log_blocks asked was is fault

-- a read of image x failed, or memory was refused, which the disk doesn't count as a fault
abbrev pub IsBreak : Image → ℕ → ℕ → ConversionFault → Type 0
IsBreak x was is (Disk b) = (b < length x) × Rose was is
IsBreak x was is NoMemory = is ≡ was
IsBreak x was is fault = ⊥

-- the fault of image y, or of memory
abbrev pub IsNewFault : Image → ConversionFault → Type 0
IsNewFault y (Unsound fault) = verdict y ≡ Some fault
IsNewFault y NoMemory = ⊤
IsNewFault y fault = ⊥

-- where an image may be converted, and what comes of it is sound, it is converted
abbrev pub FilesComeOver : Type 0
FilesComeOver = (x : Image) (asked : Option ℕ) → IsImage x →
    conversion_fault x log_blocks asked ≡ None →
    verdict (moved_image x log_blocks (chosen_size x log_blocks asked)) ≡ None →
    IsConverted x (chosen_size x log_blocks asked)
    (moved_image x log_blocks (chosen_size x log_blocks asked))
