-- Images in which tasks at work hold files, and the files that such an image stands for.
use Rattle.std.specs.Prelude.{◌≡◌, ◌≢◌, ◌⊎◌, ℕ, ◌+◌, ◌<◌, ◌≤◌, ◌==◌, if◌then◌else◌, List, [], ◌∷◌, ◌++◌, length, slice_set, Option, Some, None, Bool, true}
use Rattle.std.specs.List.{flat_map}
use Rattle.blocks.specs.Block.{overwritten, zero_block}
use Rattle.blocks.specs.Disk.{Image, block_at}
use Rattle.model.specs.declared.types.image.Dinode.{Dinode}
use Rattle.model.specs.declared.types.image.File.{File}
use Rattle.model.specs.declared.types.image.Form.{Form}
use Rattle.model.specs.declared.types.image.Form.TheVariants.{One, Two}
use Rattle.model.specs.Codec.{IsDinode, with_bit, without_bit, with_entry}
use Rattle.model.specs.Crash.{labels_of}
use Rattle.model.specs.Files.{Files, file_in, bytes_in}
use Rattle.model.specs.Format.{most_blocks, addresses_per_block}
use Rattle.model.specs.Layout.{super_of, inode_of, inode_count_of}
use Rattle.model.specs.Places.{pointers_in, pointers_of, addresses_in, numbers_of}
use Rattle.model.specs.Soundness.{IsLawfulGeometry}
use Rattle.in_flight.specs.Loose.{AreFull, IsLoose, IsFit, IsAtRest}
use Rattle.in_flight.specs.Trees.{names_left}

-- A task that gives up a file's blocks, behind its turn. Its copy of the inode has 0 at the
-- addresses that it gave up. Of the blocks of addresses the image keeps all entries, and the cursor
-- says how many of the first were given up at each level. In the end the inode has the last type: 0
-- where the file is removed
pub record Held : Type 0 where
  pub copy : Dinode
  pub cursor : List ℕ
  pub last_kind : ℕ

-- A task that writes bytes into a file, from an offset on. Its copy of the inode has the addresses
-- that it made and the size that it reached. It may have taken a block that the copy does not name
-- yet. So many bytes lie in the file's blocks by now. An extension begins where the file ends
pub record Growth : Type 0 where
  pub copy : Dinode
  pub taken : Option ℕ
  pub offset : ℕ
  pub at_end : Bool
  pub written : List ℕ

-- what a task holds of its file's number
pub data Claim : Type 0 where
  frees : Held → Claim
  grows : Growth → Claim

-- for each number the claim of the task that holds it, or none: then it is at rest
abbrev pub Claims : Type 0
Claims = ℕ → Option Claim

-- the block that was taken, if there is one
abbrev pub listed : Option ℕ → List ℕ
listed None = []
listed (Some b) = b ∷ []

-- the blocks that a task owns: what its copy names, and what it took
abbrev pub names_held : Image → Claim → List ℕ
names_held x (frees h) = names_left x h.copy h.cursor
names_held x (grows g) = listed g.taken ++ addresses_in (pointers_in x g.copy)

-- the blocks that a number owns
abbrev pub names_claimed : Image → ℕ → Option Claim → List ℕ
names_claimed x i None = addresses_in (pointers_of x i)
names_claimed x i (Some c) = names_held x c

abbrev pub owned : Image → Claims → List ℕ
owned x claims = flat_map (λ i. names_claimed x i (claims i)) (numbers_of x)

-- what is left of a file: an empty one of that type with so many links, or none
abbrev pub file_left : ℕ → ℕ → Option File
file_left kind links =
    if kind == 0 then None else Some (record { kind = kind; links = links; bytes = [] })

-- A task gives up the number's file. The image's inode is still used, with the copy's type and
-- labels, and the number has the file that the turn left, with the copy's links
pub record IsHeld (x : Image) (i : ℕ) (h : Held) (file : Option File) : Type 0 where
  pub fields : IsDinode h.copy
  pub used : h.copy.kind ≢ 0
  pub kind : h.copy.kind ≤ 3
  pub same_kind : (inode_of x i).kind ≡ h.copy.kind
  pub labels : labels_of x i ≡ (h.copy.major, h.copy.minor)
  pub last : (h.last_kind ≡ 0) ⊎ (h.last_kind ≡ h.copy.kind)
  pub told : file ≡ file_left h.last_kind h.copy.nlink

-- A task writes into the number's file. The image's inode has the copy's type and labels. The
-- number has its old file still, with the copy's type and links, and the copy's blocks have it with
-- the written bytes over it
pub record IsGrowing (x : Image) (i : ℕ) (g : Growth) (file : Option File) : Type 0 where
  pub fit : IsFit x g.copy
  pub same_kind : (inode_of x i).kind ≡ g.copy.kind
  pub labels : labels_of x i ≡ (g.copy.major, g.copy.minor)
  pub old : File
  pub was : file ≡ Some old
  pub kind : g.copy.kind ≡ old.kind
  pub links : g.copy.nlink ≡ old.links
  pub reaches : g.offset ≤ length old.bytes
  pub ends : g.at_end ≡ true → length old.bytes ≤ g.offset
  pub bytes : bytes_in x g.copy ≡ overwritten old.bytes g.offset g.written

abbrev pub IsFine : Image → ℕ → Option Claim → Option File → Type 0
IsFine x i None file = IsAtRest x i file
IsFine x i (Some (frees h)) file = IsHeld x i h file
IsFine x i (Some (grows g)) file = IsGrowing x i g file

-- the image stands for these files, where tasks hold numbers so
pub record FitsHeld (files : Files) (x : Image) (claims : Claims) : Type 0 where
  pub geometry : IsLawfulGeometry x
  pub full : AreFull x
  pub loose : IsLoose x (owned x claims)
  pub count : length files ≡ inode_count_of x
  pub zero : file_in files 0 ≡ None
  pub each : (i : ℕ) → 1 ≤ i → i < inode_count_of x → IsFine x i (claims i) (file_in files i)

-- no number is held
abbrev pub AreAtRest : Image → Claims → Type 0
AreAtRest x claims = (i : ℕ) → 1 ≤ i → i < inode_count_of x → claims i ≡ None

-- the claims, but with this one of number i
pub record IsClaimedNow (claims : Claims) (i : ℕ) (claim : Option Claim) (new : Claims) : Type 0
  where
    pub own : new i ≡ claim
    pub others : (j : ℕ) → j ≢ i → new j ≡ claims j

-- ---- what a task gives up

-- the image with a block's bit cleared
abbrev pub unmarked : Image → ℕ → Image
unmarked x b =
    slice_set x (super_of x).bmapstart (without_bit (block_at x (super_of x).bmapstart) b)

-- a task whose copy is without its address at place e
abbrev pub without_address : Held → ℕ → Held
without_address h e = record h { copy = record h.copy { addrs = slice_set h.copy.addrs e 0 } }

-- how many blocks it has still to give up
abbrev pub blocks_left : Image → Held → ℕ
blocks_left x h = length (names_left x h.copy h.cursor)

-- The most that there can be: in the first form one for each address of the inode and one for each
-- entry of its block of addresses. In the second form no more than an image has
abbrev pub most_left : Form → ℕ
most_left One = 13 + addresses_per_block
most_left Two = most_blocks

-- what the task writes back in the end
abbrev pub last_inode : Held → Dinode
last_inode h = record h.copy { kind = h.last_kind; size = 0 }

-- ---- what a task writes

-- the image with a block's bit set
abbrev pub marked : Image → ℕ → Image
marked x b = slice_set x (super_of x).bmapstart (with_bit (block_at x (super_of x).bmapstart) b)

-- with a block of zeroes
abbrev pub zeroed : Image → ℕ → Image
zeroed x b = slice_set x b zero_block

-- with another address at an entry of a block of addresses
abbrev pub with_address : Image → ℕ → ℕ → ℕ → Image
with_address x a e b = slice_set x a (with_entry (block_at x a) e b)

-- with bytes in a block, from a place in it on
abbrev pub with_data : Image → ℕ → ℕ → List ℕ → Image
with_data x b at bytes = slice_set x b (overwritten (block_at x b) at bytes)

-- a task took a block
abbrev pub taking : Growth → ℕ → Growth
taking g b = record g { taken = Some b }

-- its copy names the block, at a place of its own
abbrev pub placing : Growth → ℕ → ℕ → Growth
placing g e b = record g {
  copy = record g.copy { addrs = slice_set g.copy.addrs e b };
  taken = None;
}

-- a block of addresses that its copy leads to names it
abbrev pub placed_behind : Growth → Growth
placed_behind g = record g { taken = None }

-- it wrote more bytes, up to this size at least
abbrev pub reaching : Growth → ℕ → List ℕ → Growth
reaching g size bytes = record g {
  copy = record g.copy { size = size };
  written = g.written ++ bytes;
}
