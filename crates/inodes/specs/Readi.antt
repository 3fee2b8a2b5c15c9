-- A step of the reading of a file's bytes.
use Rattle.std.specs.Prelude.{◌≡◌, ◌<◌, ◌≤◌, ℕ, ◌+◌, ◌-◌, ◌/◌, ◌%◌, ◌++◌, ◌==◌, ◌||◌, nat_le, min, if◌then◌else◌, Bool, true, false, List, Option, Some, None}
use Rattle.blocks.specs.Disk.{Image}
use Rattle.blocks.specs.declared.disk.Disk.{Ghosts}
use Rattle.blocks.specs.Block.{block_size}
use Rattle.model.specs.declared.types.image.Dinode.{Dinode}
use Rattle.model.specs.declared.types.image.Form.{Form}
use Rattle.model.specs.declared.types.operations.Why.{Why}
use Rattle.model.specs.Files.{bytes_in}
use Rattle.model.specs.Gathered.{GatheredBytes}
use Rattle.model.specs.Layout.{form_of}
use Rattle.model.specs.Operations.{part_of}
use Rattle.wal.specs.Joint.{seen}
use Rattle.wal.specs.Volume.{VolumeState}
use Rattle.blockmap.specs.Getting.{Releases}
use Rattle.blockmap.specs.Reading.{MayRead}
use Rattle.model.specs.declared.types.progress.Progress.{Progress}
use Rattle.blockmap.specs.declared.target.Target.{Target}
use Rattle.blockmap.specs.Target.{LeadsTo, Seeks, target_for, steps_at, steps_for}
use Rattle.inodes.specs.Ialloc.{OnMore}

-- Where the reading of a file's bytes stands.
pub record ReadState : Type 0 where
  pub inode : Dinode
  -- the form of its image
  pub form : Form
  -- the place of the next byte in the file, and that behind the last one
  pub next : ℕ
  pub end : ℕ
  -- what is got or used next
  pub target : Target

-- the reading in an image of that form of so many bytes from an offset on, or of those that there
-- are; None where there are none
abbrev pub first_read : Form → Dinode → ℕ → ℕ → Option ReadState
first_read form d offset count =
    if nat_le d.size offset || (count == 0) then None
    else Some (record {
      inode = d;
      form = form;
      next = offset;
      end = min d.size (offset + count);
      target = target_for form d (offset / block_size);
    })

-- the reading may make a step over this volume
pub record IsReading {D : Type 0} (image : D → Image) (v : VolumeState D) (p : ℕ) (m : ReadState)
    : Type 0 where
  pub may : MayRead (seen (image v.device) v.buffers) m.inode
  pub form : m.form ≡ form_of (seen (image v.device) v.buffers)
  pub some : m.next < m.end
  pub inside : m.end ≤ m.inode.size
  pub leads : LeadsTo image v p m.inode (m.next / block_size) m.target

-- there is room for the bytes that are left
abbrev pub HasRoomLeft : ReadState → GatheredBytes → Type 0
HasRoomLeft m g = m.end - m.next ≤ g.room

-- the step was made
abbrev pub IsMade : {T : Type 0} → Progress T → Type 0
IsMade Progress.Moved = Unit {0}
IsMade (Progress.Sleeping why) = ⊥
IsMade (Progress.Over out) = Unit {0}
IsMade (Progress.Fault fault) = ⊥

abbrev pub is_done : {T : Type 0} → Progress T → Bool
is_done Progress.Moved = false
is_done (Progress.Sleeping why) = false
is_done (Progress.Over out) = true
is_done (Progress.Fault fault) = false

-- how many bytes of the file's next block are gathered: up to its end, or that of the reading
abbrev pub next_piece : ReadState → ℕ
next_piece m = min (block_size - m.next % block_size) (m.end - m.next)

-- What a step does, by its target: it seeks the block, or uses all that is to be read of it and
-- releases it, and goes on to the next one.
abbrev pub Works : {D N : Type 0} → Ghosts D N → Target → VolumeState D → ℕ → ReadState
    → Progress (Unit {0}) → VolumeState D → ReadState → Type 0
Works disk (Target.Entry entry) v p m r w n =
    (n ≡ record m { target = n.target }) × Seeks disk (Target.Entry entry) v p r n.target w
Works disk (Target.Block b None) v p m r w n =
    (n ≡ record m { target = n.target }) × Seeks disk (Target.Block b None) v p r n.target w
Works disk (Target.Block b (Some i)) v p m r w n =
    (n.next ≡ m.next + next_piece m) × IsMade r × Releases disk.image v p i w
    × OnMore r (n.target ≡ target_for m.form m.inode (n.next / block_size))

-- the bytes from the one place to the other were gathered, in room that there was
pub record Gathers (file : List ℕ) (m n : ReadState) (g h : GatheredBytes) : Type 0 where
  pub later : m.next ≤ n.next
  pub bytes : h.bytes ≡ g.bytes ++ part_of file m.next (n.next - m.next)
  pub room : h.room ≡ g.room - (n.next - m.next)

-- a sleeping step changes nothing
pub record StaysAsleep {D : Type 0} (v w : VolumeState D) (m n : ReadState) (g h : GatheredBytes)
    : Type 0 where
  pub volume : w ≡ v
  pub reading : n ≡ m
  pub gathered : h ≡ g

-- how many steps are left at most
abbrev pub reads_left : ReadState → ℕ
reads_left m =
    steps_at m.target + steps_for m.form ((m.end - 1) / block_size - m.next / block_size)

-- THE PROMISE OF A STEP of the reading of a file: the bytes from its place to the next one are
-- those of the file in the current image.
pub record ReadSteps {D N : Type 0} (disk : Ghosts D N) (v : VolumeState D) (p : ℕ)
    (m : ReadState) (g : GatheredBytes) (r : Progress (Unit {0})) (w : VolumeState D)
    (n : ReadState) (h : GatheredBytes) : Type 0 where
  pub inode : n.inode ≡ m.inode
  pub form : n.form ≡ m.form
  pub end : n.end ≡ m.end
  pub gathers : Gathers (bytes_in (seen (disk.image v.device) v.buffers) m.inode) m n g h
  pub works : Works disk m.target v p m r w n
  -- it is over exactly where the end is reached
  pub over : is_done r ≡ (n.next == n.end)
  pub asleep : (cause : Why) → r ≡ Progress.Sleeping cause → StaysAsleep v w m n g h
  pub more : OnMore r (IsReading disk.image w p n)
  pub left : r ≡ Progress.Moved → reads_left n < reads_left m
