-- The table of the blocks that inodes own, as `check` fills it.
use Rattle.std.specs.Prelude.{◌≡◌, ℕ, ◌+◌, ◌<◌, ◌==◌, if◌then◌else◌, Bool, false, List, [], ◌∷◌, ◌++◌, length, slice_index_or, Result, MatchResult, Some, None, is_some}
use Rattle.std.specs.List.{list_any}
use Rattle.blocks.specs.Disk.{Image, block_at}
use Rattle.model.specs.declared.types.fault.CheckFault.{CheckFault}
use Rattle.model.specs.declared.types.image.Pointer.{Pointer}
use Rattle.model.specs.Layout.{super_of, first_data_block, reach}
use Rattle.model.specs.Places.{addresses_in, pointers_behind, pointers_under, places_of}
use Rattle.model.specs.Verdict.{address_fault, first_pointer_fault, inode_fault, places_below, inodes_fault, mark_fault, marks_fault}
use Rattle.model.specs.Files.{file_at, files_of, file_count}
use Rattle.offline.specs.Cause.{IsCause}
use Rattle.offline.specs.declared.owners.Owners.{Owners}

-- the table says of each of its blocks whether it stands among these places
abbrev pub Records : List Bool → List ℕ → Type 0
Records owned places = (b : ℕ) →
    b < length owned → slice_index_or owned b false ≡ list_any (λ a. a == b) places

-- an address, if there is one
abbrev pub there : ℕ → List ℕ
there address = if address == 0 then [] else address ∷ []

-- the limits and the bitmap are those of an image
pub record AreOf (owners : Owners) (y : Image) : Type 0 where
  pub first : owners.first_data ≡ first_data_block y
  pub size : owners.size ≡ length y
  pub bitmap : owners.bitmap ≡ block_at y (super_of y).bmapstart

-- the table of an image, with the places so far
pub record Stand (owners : Owners) (y : Image) (places : List ℕ) : Type 0 where
  pub limits : AreOf owners y
  pub records : Records owners.owned.items places

-- the pointers under the entries of a block of addresses, each of which has that depth; the first of
-- them leads to the file's block `first`
abbrev pub entry_pointers : Image → ℕ → ℕ → ℕ → List ℕ → List Pointer
entry_pointers y size depth first entries =
    pointers_behind (λ f a. pointers_under y size depth f a) first (reach depth) entries

-- the address of inode i was judged by the places before it: it joined them, or it has that fault
abbrev pub JudgesAddress : Image → ℕ → List ℕ → ℕ → Owners → Result (Unit {0}) CheckFault → Type 0
JudgesAddress y i earlier address new result =
    MatchResult result
    (λ _. (address_fault y i earlier address ≡ None) × Stand new y (earlier ++ address ∷ []))
    (λ fault. address_fault y i earlier address ≡ Some fault)

-- the pointers of inode i were judged by the places before them: their addresses joined the places,
-- or the first fault came
abbrev pub Judges : Image →
    ℕ → List ℕ → List Pointer → Owners → Result (Unit {0}) CheckFault → Type 0
Judges y i earlier pointers new result =
    MatchResult result
    (λ _. (first_pointer_fault y i earlier pointers ≡ None)
    × Stand new y (earlier ++ addresses_in pointers))
    (λ fault. first_pointer_fault y i earlier pointers ≡ Some fault)

-- inode i was judged: without a fault its places joined those of the inodes below it, and the
-- answer says whether it is used
abbrev pub JudgesInode : Image → ℕ → ℕ → ℕ → Owners → Result Bool CheckFault → Type 0
JudgesInode y i old_faults new_faults new result =
    MatchResult result
    (λ used. (inode_fault y i ≡ None)
    × Stand new y (places_below y (i + 1)) × (used ≡ is_some (file_at y i)))
    (λ fault. IsCause (inode_fault y i) old_faults new_faults fault)

-- the limits and the bitmap stay
pub record SameLimits (old new : Owners) : Type 0 where
  pub first : new.first_data ≡ old.first_data
  pub size : new.size ≡ old.size

-- the bit of block b was judged, and all bits
abbrev pub JudgesMark : Image → ℕ → Result (Unit {0}) CheckFault → Type 0
JudgesMark y b result =
    MatchResult result (λ _. mark_fault y b ≡ None) (λ fault. mark_fault y b ≡ Some fault)

abbrev pub JudgesMarks : Image → Result (Unit {0}) CheckFault → Type 0
JudgesMarks y result =
    MatchResult result (λ _. marks_fault y ≡ None) (λ fault. marks_fault y ≡ Some fault)

-- all inodes were judged: without a fault their places are those of the image, and the answer is
-- how many are used
abbrev pub JudgesInodes : Image → ℕ → ℕ → Owners → Result ℕ CheckFault → Type 0
JudgesInodes y old_faults new_faults new result =
    MatchResult result
    (λ files. (inodes_fault y ≡ None)
    × Stand new y (places_of y) × (files ≡ file_count (files_of y)))
    (λ fault. IsCause (inodes_fault y) old_faults new_faults fault)
