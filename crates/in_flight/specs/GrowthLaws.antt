-- Laws over images in which tasks write files.
use Rattle.std.specs.Prelude.{◌≡◌, ◌≢◌, ◌⊎◌, ℕ, suc, ◌+◌, ◌*◌, ◌/◌, ◌%◌, ◌<◌, ◌≤◌, Bool, true, false, List, [], ◌∷◌, ◌++◌, length, take, slice_index, slice_set, max, Some, None}
use Rattle.std.specs.List.{AllByRecursion}
use Rattle.blocks.specs.Block.{overwritten, zero_block, block_size}
use Rattle.blocks.specs.Disk.{Image, block_at}
use Rattle.model.specs.Format.{addresses_per_block}
use Rattle.model.specs.declared.types.image.Dinode.{Dinode}
use Rattle.model.specs.declared.types.image.File.{File}
use Rattle.model.specs.declared.types.operations.Op.TheVariants.{Write}
use Rattle.model.specs.declared.types.operations.Reply.TheVariants.{BadOffset, TooBig, Wrote}
use Rattle.model.specs.Codec.{with_inode}
use Rattle.model.specs.Files.{Files, file_in}
use Rattle.model.specs.Layout.{form_of, inode_of, is_marked, greatest_size}
use Rattle.model.specs.Operations.{after, with_bytes, transfer_limit}
use Rattle.model.specs.Places.{address_in}
use Rattle.model.specs.Tasks.{Marks}
use Rattle.in_flight.specs.Held.{Growth, Claims, grows, FitsHeld, IsClaimedNow, marked, zeroed, with_address, with_data, taking, placing, placed_behind, reaching}
use Rattle.in_flight.specs.HeldLaws.{FitsThen, IsHeldIn, HasMarkedBlocks}
use Rattle.in_flight.specs.Loose.{LiesInData}
use Rattle.in_flight.specs.Looks.{IsUsed, HasDataBlocks}
use Rattle.in_flight.specs.Trees.{depth_of, entry_of, led_to, place_of}

-- ---- the turn

-- a task that begins to write into a file whose inode is this
abbrev pub beginning : Dinode → ℕ → Bool → Growth
beginning d off at_end =
    record { copy = d; taken = None; offset = off; at_end = at_end; written = [] }

-- a used number at rest is held by the task whose turn it is, with the image's inode as its copy
abbrev pub TurnGrows : Type 0
TurnGrows = (m : Files) (x : Image) (claims new : Claims) (i off : ℕ) (at_end : Bool) →
    FitsHeld m x claims → IsUsed x i → claims i ≡ None → off ≤ (inode_of x i).size →
    (at_end ≡ true → (inode_of x i).size ≤ off) →
    IsClaimedNow claims i (Some (grows (beginning (inode_of x i) off at_end))) new →
    FitsThen m x claims i x new

-- what a write answers that begins behind the file's end, or that no file has room for
abbrev pub RestingRefuses : Type 0
RestingRefuses = (m : Files) (x : Image) (claims : Claims) (i off : ℕ) (bytes : List ℕ) →
    FitsHeld m x claims → IsUsed x i → claims i ≡ None → length bytes ≤ transfer_limit →
    ((inode_of x i).size < off → after (form_of x) m (Write i off bytes) BadOffset ≡ Some m)
    × (off ≤ (inode_of x i).size → greatest_size (form_of x) < off + length bytes →
    after (form_of x) m (Write i off bytes) TooBig ≡ Some m)

-- ---- a block is taken

-- a block whose bit is clear: the bit is set
abbrev pub BlockTaken : Type 0
BlockTaken = (m : Files) (x : Image) (claims new : Claims) (i b : ℕ) (g : Growth) →
    IsHeldIn m x claims i (grows g) → g.taken ≡ None → b < length x → is_marked x b ≡ false →
    IsClaimedNow claims i (Some (grows (taking g b))) new →
    FitsThen m x claims i (marked x b) new

-- it is filled with zeroes
abbrev pub TakenZeroed : Type 0
TakenZeroed = (m : Files) (x : Image) (claims : Claims) (i b : ℕ) (g : Growth) →
    IsHeldIn m x claims i (grows g) → g.taken ≡ Some b → FitsThen m x claims i (zeroed x b) claims

-- ---- and named

-- by one of the copy's own addresses. As a block of addresses it is one of zeroes
abbrev pub AddressPlaced : Type 0
AddressPlaced = (m : Files) (x : Image) (claims new : Claims) (i slot b : ℕ) (g : Growth) →
    IsHeldIn m x claims i (grows g) → g.taken ≡ Some b → slot < length g.copy.addrs →
    slice_index g.copy.addrs slot ≡ 0 → (depth_of x slot ≢ 0 → block_at x b ≡ zero_block) →
    IsClaimedNow claims i (Some (grows (placing g slot b))) new → FitsHeld m x new

-- A way leads from an inode's address to the block of addresses a, whose entry e is not there. Of
-- that depth is what the entry would name
pub record LeadsToNone (x : Image) (d : Dinode) (slot : ℕ) (way : List ℕ) (a e depth : ℕ) : Type 0
  where
    pub below : length way + suc depth ≡ depth_of x slot
    pub entries : AllByRecursion (λ f. f < addresses_per_block) way
    pub led : led_to x way (slice_index d.addrs slot) ≡ a
    pub there : a ≢ 0
    pub entry : e < addresses_per_block
    pub none : entry_of x a e ≡ 0

-- by an entry of a block of addresses to which the copy leads. It has then its place in the file
abbrev pub EntryPlaced : Type 0
EntryPlaced = (m : Files) (x : Image) (claims new : Claims) (i slot a e b depth : ℕ)
    (way : List ℕ) (g : Growth) → IsHeldIn m x claims i (grows g) → g.taken ≡ Some b →
    LeadsToNone x g.copy slot way a e depth → (depth ≢ 0 → block_at x b ≡ zero_block) →
    IsClaimedNow claims i (Some (grows (placed_behind g))) new →
    FitsThen m x claims i (with_address x a e b) new
    × (depth ≡ 0 →
    address_in (with_address x a e b) g.copy (place_of x slot (way ++ e ∷ [])) ≡ b)

-- ---- bytes are written

-- the next of them into the block that has the place of the first, to whose end they may reach
pub record WritesNext (x : Image) (g : Growth) (k at b : ℕ) (bytes : List ℕ) : Type 0 where
  pub place : g.offset + length g.written ≡ k * block_size + at
  pub inside : at + length bytes ≤ block_size
  pub some : 1 ≤ length bytes
  pub fits : g.offset + length g.written + length bytes ≤ greatest_size (form_of x)
  pub block : address_in x g.copy k ≡ b
  pub there : b ≢ 0

abbrev pub BytesWritten : Type 0
BytesWritten = (m : Files) (x : Image) (claims new : Claims) (i k at b : ℕ) (bytes : List ℕ)
    (g : Growth) → IsHeldIn m x claims i (grows g) → WritesNext x g k at b bytes →
    IsClaimedNow claims i
    (Some (grows (reaching g (max g.copy.size (k * block_size + at + length bytes)) bytes))) new →
    FitsThen m x claims i (with_data x b at bytes) new

-- ---- the end

-- the file with the written bytes over its own
abbrev pub files_grown : Files → ℕ → File → Growth → Files
files_grown m i old g = slice_set m i (with_bytes old (overwritten old.bytes g.offset g.written))

-- the copy is written back: the number is at rest, and its file has the written bytes
abbrev pub GrowthRests : Type 0
GrowthRests = (m : Files) (x : Image) (claims new : Claims) (i : ℕ) (g : Growth) (old : File) →
    IsHeldIn m x claims i (grows g) → g.taken ≡ None → file_in m i ≡ Some old →
    IsClaimedNow claims i None new →
    FitsThen (files_grown m i old g) x claims i (with_inode x i g.copy) new

-- k bytes of a write were written: all, or as many as there was room for, up to a block that the
-- copy does not have
pub record HasWritten (x : Image) (g : Growth) (off : ℕ) (bytes : List ℕ) (k : ℕ) : Type 0 where
  pub offset : g.offset ≡ off
  pub written : g.written ≡ take k bytes
  pub most : k ≤ length bytes
  pub few : length bytes ≤ transfer_limit
  pub fits : off + length bytes ≤ greatest_size (form_of x)
  pub ends : (k ≡ length bytes)
      ⊎ (((off + k) % block_size ≡ 0) × (address_in x g.copy ((off + k) / block_size) ≡ 0))

-- these are the files after that write
abbrev pub GrowthAnswers : Type 0
GrowthAnswers = (m : Files) (x : Image) (claims : Claims) (i : ℕ) (g : Growth) (old : File)
    (off k : ℕ) (bytes : List ℕ) → IsHeldIn m x claims i (grows g) → HasWritten x g off bytes k →
    file_in m i ≡ Some old →
    after (form_of x) m (Write i off bytes) (Wrote k) ≡ Some (files_grown m i old g)

-- ---- what a task that writes holds

-- the copy leads to data blocks, and has the size that was reached
pub record HasGrowthBlocks (x : Image) (g : Growth) (old : File) : Type 0 where
  pub leads : HasDataBlocks x g.copy
  pub blocks : HasMarkedBlocks x (grows g)
  pub size : g.copy.size ≡ max (length old.bytes) (g.offset + length g.written)

abbrev pub GrowthHasBlocks : Type 0
GrowthHasBlocks = (m : Files) (x : Image) (claims : Claims) (i : ℕ) (g : Growth) (old : File) →
    IsHeldIn m x claims i (grows g) → file_in m i ≡ Some old → HasGrowthBlocks x g old

-- ---- what no file shows

-- where a bit is set
abbrev pub SetBitKeeps : Type 0
SetBitKeeps = (m : Files) (x : Image) (claims : Claims) (b : ℕ) → FitsHeld m x claims →
    b < length x → Marks None x (marked x b)

-- where a data block is written
abbrev pub DataKeeps : Type 0
DataKeeps = (m : Files) (x : Image) (claims : Claims) (b : ℕ) (bytes : List ℕ) →
    FitsHeld m x claims → LiesInData x b → Marks None x (slice_set x b bytes)

-- where a copy is written back
abbrev pub GrowthKeeps : Type 0
GrowthKeeps = (m : Files) (x : Image) (claims : Claims) (i : ℕ) (g : Growth) →
    IsHeldIn m x claims i (grows g) → Marks None x (with_inode x i g.copy)
