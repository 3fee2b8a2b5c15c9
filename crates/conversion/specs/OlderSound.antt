-- A sound image whose log has any length.
use Rattle.std.specs.Prelude.{◌≡◌, ℕ, ◌<◌, ◌≤◌, ◌||◌, nat_lt, All, IsTrue, List, length}
use Rattle.std.specs.List.{flat_map}
use Rattle.blocks.specs.Disk.{Image}
use Rattle.model.specs.Layout.{is_marked, magic_at, magic_of, super_of}
use Rattle.model.specs.Log.{logged_count}
use Rattle.model.specs.Places.{addresses_in, numbers_of, pointers_in}
use Rattle.model.specs.Soundness.{IsFilled, IsLawfulInode, count_of}
use Rattle.model.specs.declared.types.image.Form.TheVariants.{One}
use Rattle.model.specs.declared.types.image.Pointer.{Pointer}
use Rattle.conversion.specs.Older.{is_older_super, meta_with, older_inode}

-- the pointers of a number, and the places of all
abbrev pub older_pointers : Image → ℕ → List Pointer
older_pointers x i = pointers_in x (older_inode x i)

abbrev pub older_places : Image → List ℕ
older_places x = flat_map (λ i. addresses_in (older_pointers x i)) (numbers_of x)

-- the first block behind the bitmap
abbrev pub older_first_data : Image → ℕ
older_first_data x = meta_with (super_of x).nlog (super_of x).size (super_of x).ninodes

-- What `IsSound` says of an image of the first form with our log, said of one with a log of any length.
pub record IsOlderSound (x : Image) : Type 0 where
  pub magic : magic_at x ≡ magic_of One
  pub fields : IsTrue (is_older_super (super_of x) (length x))
  pub empty_log : logged_count x ≡ 0
  pub inodes : All (λ i. IsLawfulInode One (older_inode x i)) (numbers_of x)
  pub filled : All (λ i. All IsFilled (older_pointers x i)) (numbers_of x)
  pub in_data : All (λ a. (older_first_data x ≤ a) × (a < length x)) (older_places x)
  pub once : (b : ℕ) → count_of b (older_places x) ≤ 1
  pub marked : (b : ℕ) → b < length x →
      is_marked x b ≡ (nat_lt b (older_first_data x) || nat_lt 0 (count_of b (older_places x)))
