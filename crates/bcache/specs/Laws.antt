-- Laws of the cache, and of the current image.
use Rattle.std.specs.Prelude.{◌≡◌, ◌≢◌, ◌↔◌, ◌<◌, ℕ, IsTrue, Some, None, Bool, false, List, length, slice_index, slice_set}
use Rattle.blocks.specs.Disk.{Image, block_at}
use Rattle.bcache.specs.declared.types.Buffer.{Buffer}
use Rattle.bcache.specs.Current.{references_of, shows, current}
use Rattle.bcache.specs.Order.{buffer_count}
use Rattle.bcache.specs.Links.{no_slot, links_of}
use Rattle.bcache.specs.declared.types.Busy.{Busy}
use Rattle.bcache.specs.declared.types.Acquired.{Acquired}
use Rattle.bcache.specs.Buffers.{Buffers, buffer, IsCache, found, acquire_answer, locked, taken, filled, changed, released, pinned, unpinned, after_acquire, fresh_buffers}

-- the same block with the same bytes, and as many pins
pub record KeepsCopy (old new : Buffer) : Type 0 where
  pub block : new.block ≡ old.block
  pub valid : new.valid ≡ old.valid
  pub bytes : new.bytes ≡ old.bytes
  pub pins : new.pins ≡ old.pins

-- a slot with references keeps its block, whatever block is acquired
abbrev pub ReferencedIsKept : Type 0
ReferencedIsKept = (c : Buffers) (pid b i : ℕ) → IsCache c → references_of (buffer c i) ≢ 0 →
    KeepsCopy (buffer c i) (buffer (after_acquire c pid b) i)

-- each of the 40 slots has references
abbrev pub AreAllInUse : Buffers → Type 0
AreAllInUse c = (i : ℕ) → i < buffer_count → references_of (buffer c i) ≢ 0

-- no buffer is left exactly where the block has none and all slots have references
abbrev pub NoBufferIsFull : Type 0
NoBufferIsFull = (c : Buffers) (b : ℕ) → IsCache c →
    (acquire_answer c b ≡ Acquired.Sleeping Busy.NoBuffer) ↔ ((found c b ≡ None) × AreAllInUse c)

-- a slot without references, and each behind it in the order has some
pub record IsLastUnused (c : Buffers) (i : ℕ) : Type 0 where
  pub slot : i < buffer_count
  pub unused : references_of (buffer c i) ≡ 0
  pub place : ℕ
  pub at : slice_index c.order place ≡ i
  pub behind : (k : ℕ) → place < k → k < buffer_count
      → references_of (buffer c (slice_index c.order k)) ≢ 0

-- the slot that a block without one gets
abbrev pub TakesLastUnused : Type 0
TakesLastUnused = (c : Buffers) (pid b i : ℕ) (valid : Bool) → IsCache c → found c b ≡ None →
    acquire_answer c b ≡ Acquired.Got i valid →
    IsLastUnused c i × (after_acquire c pid b ≡ taken c pid b i)

-- a read of a slot's block changes nothing of the current image
abbrev pub FillingKeeps : Type 0
FillingKeeps = (x : Image) (c : Buffers) (i b : ℕ) → IsCache c → i < buffer_count →
    (buffer c i).block ≡ Some b → (buffer c i).valid ≡ false →
    current x (filled c i (block_at x b)).slots ≡ current x c.slots

-- nor does one that failed
abbrev pub UnfilledKeeps : Type 0
UnfilledKeeps = (x : Image) (c : Buffers) (i : ℕ) (bytes : List ℕ) → (buffer c i).valid ≡ false →
    current x (changed c i bytes).slots ≡ current x c.slots

-- a change of a valid buffer sets its block of the current image, and no other
abbrev pub ChangingSets : Type 0
ChangingSets = (x : Image) (c : Buffers) (i b : ℕ) (bytes : List ℕ) → IsCache c →
    i < buffer_count → b < length x → IsTrue (shows b (buffer c i)) →
    current x (changed c i bytes).slots ≡ slice_set (current x c.slots) b bytes

-- a slot that shows its block as the disk has it, or shows nothing, may be taken for another block
abbrev pub RecyclingKeeps : Type 0
RecyclingKeeps = (x : Image) (c : Buffers) (pid b i : ℕ) → IsCache c → i < buffer_count →
    ((d : ℕ) → IsTrue (shows d (buffer c i)) → (buffer c i).bytes ≡ block_at x d) →
    current x (taken c pid b i).slots ≡ current x c.slots

-- a write to the disk of a block that a slot shows
abbrev pub ShownWriteKeeps : Type 0
ShownWriteKeeps = (x : Image) (c : Buffers) (i b : ℕ) (bytes : List ℕ) → IsCache c →
    IsTrue (shows b (buffer c i)) →
    current (slice_set x b bytes) c.slots ≡ current x c.slots

-- a write to the disk of a block that none shows
abbrev pub UnshownWriteSets : Type 0
UnshownWriteSets = (x : Image) (c : Buffers) (b : ℕ) (bytes : List ℕ) →
    ((i : ℕ) → shows b (buffer c i) ≡ false) →
    current (slice_set x b bytes) c.slots ≡ slice_set (current x c.slots) b bytes

-- holders, pins and the order are nothing to the current image
pub record KeepsCurrent (c : Buffers) (pid i : ℕ) (x : Image) : Type 0 where
  pub lock : current x (locked c pid i).slots ≡ current x c.slots
  pub release : current x (released c i).slots ≡ current x c.slots
  pub pin : current x (pinned c i).slots ≡ current x c.slots
  pub unpin : current x (unpinned c i).slots ≡ current x c.slots

abbrev pub CountsKeepCurrent : Type 0
CountsKeepCurrent = (x : Image) (c : Buffers) (pid i : ℕ) → KeepsCurrent c pid i x

-- after each call there are 40 slots, each once in the order, and no block has two of them
pub record StaysCache (c : Buffers) (pid b i : ℕ) (bytes : List ℕ) : Type 0 where
  pub acquire : IsCache (after_acquire c pid b)
  pub fill : IsCache (filled c i bytes)
  pub change : IsCache (changed c i bytes)
  pub release : IsCache (released c i)
  pub pin : IsCache (pinned c i)
  pub unpin : IsCache (unpinned c i)

abbrev pub CallsKeepCache : Type 0
CallsKeepCache = (c : Buffers) (pid b i : ℕ) (bytes : List ℕ) → IsCache c →
    i < buffer_count → StaysCache c pid b i bytes

abbrev pub FreshIsCache : Type 0
FreshIsCache = IsCache fresh_buffers

-- at the start slot 39 is the first one, before slot 38, and slot 0 the last
pub record FreshLinks : Type 0 where
  pub first : (links_of fresh_buffers.order).first ≡ 39
  pub last : (links_of fresh_buffers.order).last ≡ 0
  pub before_first : slice_index (links_of fresh_buffers.order).before 39 ≡ no_slot
  pub after_first : slice_index (links_of fresh_buffers.order).after 39 ≡ 38
