-- Where the addresses of an inode lead.
use Rattle.std.specs.Prelude.{◌≡◌, ℕ, ◌==◌, ◌&&◌, ◌||◌, not, if◌then◌else◌, length, slice_index, Option, Some, None}
use Rattle.blocks.specs.Disk.{Image}
use Rattle.model.specs.declared.types.image.Form.{Form}
use Rattle.model.specs.declared.types.image.Dinode.{Dinode}
use Rattle.model.specs.Places.{address_in}
use Rattle.blockmap.specs.declared.mapping.Mapped.{Mapped}
use Rattle.blockmap.specs.declared.mapping.MappedForWriting.{MappedForWriting}
use Rattle.blockmap.specs.Bmap.{first_entry, some_address, sought_in}
use Rattle.blockmap.specs.Balloc.{first_alloc}
use Rattle.blockmap.specs.BmapAlloc.{IsLed}
use Rattle.blockmap.specs.Branch.{address_on, branch_of, node_at}
use Rattle.blockmap.specs.declared.bmap_alloc.MapAt.{MapAt}
use Rattle.blockmap.specs.declared.branch.Branch.{Branch}

-- where an inode's addresses lead from block k of its file: to the block at once, where the inode
-- itself names it or nothing there, or below a block of addresses
abbrev pub mapped : Form → Dinode → ℕ → Mapped
mapped form d k =
    let b = branch_of form k in
    let a = slice_index d.addrs b.index in
    if (a == 0) || (b.depth == 0) then Mapped.At (some_address a)
    else Mapped.Behind (first_entry (node_at b.depth b.rest a))

abbrev pub address_or_zero : Option ℕ → ℕ
address_or_zero None = 0
address_or_zero (Some b) = b

-- the block to which that leads in an image, 0 for none
abbrev pub address_mapped : Image → Mapped → ℕ
address_mapped x (Mapped.At found) = address_or_zero found
address_mapped x (Mapped.Behind m) = sought_in x m

-- where a writer finds it: the inode itself names it, or there is a way to it, which begins with
-- what isn't there
abbrev pub mapped_for_writing : Form → Dinode → ℕ → ℕ → ℕ → MappedForWriting
mapped_for_writing form d k bitmap size =
    let b = branch_of form k in
    let a = slice_index d.addrs b.index in
    if not (a == 0) && (b.depth == 0) then MappedForWriting.At a
    else MappedForWriting.Behind (record {
      branch = b;
      bitmap = bitmap;
      size = size;
      at =
          if a == 0 then MapAt.Address (first_alloc bitmap size)
          else MapAt.Entry (node_at b.depth b.rest a) None;
    })

-- what stands at a branch is a block of the file, for any inode of that file
abbrev pub IsBranchOf : Image → ℕ → Branch → Type 0
IsBranchOf x k b = (d : Dinode) → length d.addrs ≡ 13 → address_in x d k ≡ address_on x d b

-- What it finds at once is the file's block, and the way leads to it from where it begins.
abbrev pub IsThere : Image → Dinode → ℕ → MappedForWriting → Type 0
IsThere x d k (MappedForWriting.At b) = address_in x d k ≡ b
IsThere x d k (MappedForWriting.Behind m) = IsBranchOf x k m.branch × IsLed x d m.branch m.at
