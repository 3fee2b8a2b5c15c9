-- The steps in which bytes are written into a file, and its inode is written back.
use Rattle.std.specs.Prelude.{◌≡◌, ◌<◌, ◌≤◌, ℕ, ◌+◌, ◌-◌, ◌/◌, ◌%◌, ◌==◌, min, max, if◌then◌else◌, List, length, slice_set, Option, Some, None}
use Rattle.blocks.specs.Block.{overwritten, block_size}
use Rattle.blocks.specs.Disk.{Image, block_at}
use Rattle.blocks.specs.declared.disk.Disk.{Ghosts}
use Rattle.model.specs.Layout.{greatest_size}
use Rattle.model.specs.Format.{inode_start}
use Rattle.model.specs.declared.types.image.Dinode.{Dinode}
use Rattle.model.specs.Operations.{part_of}
use Rattle.wal.specs.Joint.{seen}
use Rattle.wal.specs.Volume.{VolumeState, GetsFor}
use Rattle.blockmap.specs.BmapAlloc.{MapState, MayMap, MapSteps, LeadsThere}
use Rattle.blockmap.specs.Getting.{HoldsWhereGot, WritesBlock}
use Rattle.blockmap.specs.Map.{mapped_for_writing}
use Rattle.blockmap.specs.declared.mapping.MappedForWriting.{MappedForWriting}
use Rattle.model.specs.Progress.{one_more}
use Rattle.model.specs.declared.types.progress.Progress.{Progress}
use Rattle.inodes.specs.Iupdate.{UpdateState, MayUpdate, Updates, first_update}
use Rattle.inodes.specs.declared.writei.Extent.{Extent}
use Rattle.inodes.specs.declared.writei.WriteAt.{WriteAt}

-- Where the writing of a file's bytes stands.
pub record WriteState : Type 0 where
  pub number : ℕ
  -- the inode as it was read, with the addresses that were made and the size that was reached
  pub inode : Dinode
  -- the place of the first byte, how many there are, and how many of them were written
  pub offset : ℕ
  pub count : ℕ
  pub done : ℕ
  -- where blocks are taken
  pub extent : Extent
  pub at : WriteAt

-- a block that is found at once is got, and others have a way to them
abbrev pub place_of_mapped : MappedForWriting → WriteAt
place_of_mapped (MappedForWriting.At b) = WriteAt.Block b None
place_of_mapped (MappedForWriting.Behind way) = WriteAt.Mapping way

-- what comes next, where so many bytes are left from a place on: the block of that place, or the
-- inode
abbrev pub next_place : ℕ → Dinode → ℕ → ℕ → Extent → WriteAt
next_place number d next left extent =
    if left == 0 then WriteAt.Updating (first_update number)
    else place_of_mapped
    (mapped_for_writing extent.form d (next / block_size) extent.bitmap extent.size)

-- the writing that begins
abbrev pub first_write : ℕ → Dinode → ℕ → ℕ → Extent → WriteState
first_write number d offset count extent = record {
  number = number;
  inode = d;
  offset = offset;
  count = count;
  done = 0;
  extent = extent;
  at = next_place number d offset count extent;
}

-- the place of the next byte in the file, and how many are written into its block
abbrev pub next_byte : WriteState → ℕ
next_byte m = m.offset + m.done

abbrev pub piece : WriteState → ℕ
piece m = min (block_size - next_byte m % block_size) (m.count - m.done)

-- those bytes
abbrev pub piece_of : WriteState → List ℕ → List ℕ
piece_of m bytes = part_of bytes m.done (piece m)

-- ---- a step

-- it may be made over this volume, by where the writing stands
abbrev pub MayWriteAt : {D : Type 0} → (D → Image) → VolumeState D → ℕ → WriteState → WriteAt
    → Type 0
MayWriteAt image v p m (WriteAt.Mapping way) = MayMap image v p way m.inode
MayWriteAt image v p m (WriteAt.Block b slot) =
    (m.done < m.count) × (inode_start ≤ b) × (b < v.log.size)
    × HoldsWhereGot (seen (image v.device) v.buffers) v.buffers p b slot
MayWriteAt image v p m (WriteAt.Updating u) = MayUpdate image v p u

pub record MayWrite {D : Type 0} (image : D → Image) (v : VolumeState D) (p : ℕ) (m : WriteState)
    : Type 0 where
  pub addrs : length m.inode.addrs ≡ 13
  pub done : m.done ≤ m.count
  pub fits : m.offset + m.count ≤ greatest_size m.extent.form
  pub at : MayWriteAt image v p m m.at

-- the block to which the way came, or none
abbrev pub place_found : ℕ → Option ℕ → WriteAt
place_found number None = WriteAt.Updating (first_update number)
place_found number (Some b) = WriteAt.Block b None

-- where the writing stands then, with the way and the inode as they are then
abbrev pub write_mapped : WriteState → MapState → Dinode → Progress (Option ℕ) → WriteState
write_mapped m way d Progress.Moved = record m { inode = d; at = WriteAt.Mapping way }
write_mapped m way d (Progress.Sleeping why) = record m { inode = d }
write_mapped m way d (Progress.Over found) =
    record m { inode = d; at = place_found m.number found }
write_mapped m way d (Progress.Fault fault) = record m { inode = d }

-- A step on the way to the next block.
pub record MapsOn {D N : Type 0} (disk : Ghosts D N) (v : VolumeState D) (p : ℕ) (m : WriteState)
    (way : MapState) (r : Progress (Unit {0})) (n : WriteState) (w : VolumeState D) : Type 0 where
  pub answer : Progress (Option ℕ)
  pub now : MapState
  pub inode : Dinode
  pub steps : MapSteps disk way.at v p way m.inode answer now inode w
  pub there : LeadsThere disk.image answer way.branch way.at inode w
  pub gives : r ≡ one_more answer
  pub next : n ≡ write_mapped m now inode answer

-- the next bytes were written: the size grows to their end
abbrev pub with_piece : WriteState → WriteState
with_piece m =
    let inode : Dinode = record m.inode { size = max m.inode.size (next_byte m + piece m) } in
    record m {
      inode = inode;
      done = m.done + piece m;
      at = next_place m.number inode (next_byte m + piece m) (m.count - (m.done + piece m))
          m.extent;
    }

-- the image with them in block b
abbrev pub with_written : Image → WriteState → List ℕ → ℕ → Image
with_written x m bytes b =
    slice_set x b (overwritten (block_at x b) (next_byte m % block_size) (piece_of m bytes))

-- a step that gets the next block, or writes into it the bytes that belong there
abbrev pub GetsNext : {D N : Type 0} → Ghosts D N → VolumeState D → ℕ → WriteState → ℕ
    → Progress (Unit {0}) → WriteState → VolumeState D → Type 0
GetsNext disk v p m b r n w =
    (s : Option ℕ) × GetsFor disk v p b r s w × (n ≡ record m { at = WriteAt.Block b s })

abbrev pub WritesNext : {D N : Type 0} → Ghosts D N → VolumeState D → ℕ → WriteState → ℕ → ℕ
    → List ℕ → Progress (Unit {0}) → WriteState → VolumeState D → Type 0
WritesNext disk v p m b i bytes r n w =
    (r ≡ Progress.Moved) × (n ≡ with_piece m)
    × WritesBlock disk v p i b (with_written (seen (disk.image v.device) v.buffers) m bytes b) w

-- one that writes the inode back
abbrev pub UpdatesCopy : {D N : Type 0} → Ghosts D N → VolumeState D → ℕ → WriteState
    → UpdateState → Progress (Unit {0}) → WriteState → VolumeState D → Type 0
UpdatesCopy disk v p m u r n w =
    (u2 : UpdateState) × Updates disk u.slot v p u m.inode r u2 w
    × (n ≡ record m { at = WriteAt.Updating u2 })

-- WHAT A STEP DOES, by where the writing stands.
abbrev pub WriteSteps : {D N : Type 0} → Ghosts D N → WriteAt → VolumeState D → ℕ → WriteState
    → List ℕ → Progress (Unit {0}) → WriteState → VolumeState D → Type 0
WriteSteps disk (WriteAt.Mapping way) v p m bytes r n w = MapsOn disk v p m way r n w
WriteSteps disk (WriteAt.Block b None) v p m bytes r n w = GetsNext disk v p m b r n w
WriteSteps disk (WriteAt.Block b (Some i)) v p m bytes r n w =
    WritesNext disk v p m b i bytes r n w
WriteSteps disk (WriteAt.Updating u) v p m bytes r n w = UpdatesCopy disk v p m u r n w
