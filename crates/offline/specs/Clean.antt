-- The numbers whose files are whole, though others of the image may not be.
use Rattle.std.specs.Prelude.{◌≡◌, ℕ, ◌<◌, ◌==◌, ◌&&◌, ◌||◌, not, nat_le, min, is_none, if◌then◌else◌, Bool, List, [], ◌∷◌, ◌++◌, length, map, slice_index, None}
use Rattle.std.specs.List.{filter, list_all, range_with_len}
use Rattle.blocks.specs.Disk.{Image, block_at}
use Rattle.model.specs.declared.types.image.Dinode.{Dinode}
use Rattle.model.specs.declared.types.image.Pointer.{Pointer}
use Rattle.model.specs.Files.{Files, file_at}
use Rattle.model.specs.Layout.{first_data_block, form_of, inode_count_of, inode_of, super_of}
use Rattle.model.specs.Places.{numbers_of, pointers_in}
use Rattle.model.specs.Soundness.{count_of, place_count}
use Rattle.model.specs.Verdict.{pointer_fault}
use Rattle.offline.specs.Notes.{early_fault}
use Rattle.offline.specs.declared.sorting.Sorted.{Sorted}
use Rattle.offline.specs.declared.table.Table.{Table}

-- a pointer without a fault of its own, whose block, if it has one, is at no other place
abbrev pub is_clean_pointer : Image → ℕ → Pointer → Bool
is_clean_pointer y i p =
    is_none (pointer_fault y i [] p) && ((p.address == 0) || nat_le (place_count y p.address) 1)

-- a used inode of a type and a size that there are, with clean pointers
unfoldable pub is_clean_inode : Image → ℕ → Dinode → Bool
is_clean_inode y i d =
    not (d.kind == 0) && (is_none (early_fault i d (form_of y))
    && list_all (is_clean_pointer y i) (pointers_in y d))

abbrev pub is_clean : Image → ℕ → Bool
is_clean y i = is_clean_inode y i (inode_of y i)

-- used, and not clean
abbrev pub is_left : Image → ℕ → Bool
is_left y i = not ((inode_of y i).kind == 0) && not (is_clean y i)

-- these numbers, in order
abbrev pub clean_numbers : Image → List ℕ
clean_numbers y = filter (is_clean y) (numbers_of y)

abbrev pub left_numbers : Image → List ℕ
left_numbers y = filter (is_left y) (numbers_of y)

-- the type of a clean number, 0 of another
abbrev pub clean_kind : Image → ℕ → ℕ
clean_kind y i = if is_clean y i then (inode_of y i).kind else 0

-- the files of the clean numbers, each at its place
abbrev pub clean_files : Image → Files
clean_files y =
    map (λ i. if is_clean y i then file_at y i else None) (range_with_len 0 (inode_count_of y))

-- ---- how they are found

-- a number of this type joined the sorted ones
pub record Joins (i kind : ℕ) (whole : Bool) (old new : Sorted) : Type 0 where
  pub kinds : new.kinds.items ≡ old.kinds.items ++ (if whole then kind else 0) ∷ []
  pub clean : new.clean.items ≡ old.clean.items ++ (if whole then i ∷ [] else [])
  pub left : new.left.items
      ≡ old.left.items ++ (if not (kind == 0) && not whole then i ∷ [] else [])

-- these numbers were sorted
pub record Sorts (y : Image) (numbers : List ℕ) (sorted : Sorted) : Type 0 where
  pub kinds : sorted.kinds.items ≡ map (clean_kind y) numbers
  pub clean : sorted.clean.items ≡ filter (is_clean y) numbers
  pub left : sorted.left.items ≡ filter (is_left y) numbers

-- the table has the limits and the bitmap of an image, and for each of its blocks at how many of
-- these places it stands, or 2 for more
pub record Counts (table : Table) (y : Image) (places : List ℕ) : Type 0 where
  pub first : table.first_data ≡ first_data_block y
  pub bitmap : table.bitmap ≡ block_at y (super_of y).bmapstart
  pub long : length table.counts.items ≡ length y
  pub each : (b : ℕ) → b < length y →
      slice_index table.counts.items b ≡ min 2 (count_of b places)
