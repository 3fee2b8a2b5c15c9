-- The buffers of the cache as contracts see them, and what each call makes of them.
use Rattle.std.specs.Prelude.{◌≡◌, ◌+◌, ◌-◌, ℕ, Bool, true, false, List, length, map, slice_index_or, slice_set, replicate, position, Option, Some, None}
use Rattle.blocks.specs.Block.{zero_block}
use Rattle.bcache.specs.declared.types.Buffer.{Buffer}
use Rattle.bcache.specs.Current.{references_of, is_of}
use Rattle.bcache.specs.Order.{buffer_count, first_order, IsOrder, order_after_release, victim_in}
use Rattle.bcache.specs.declared.types.Busy.{Busy}
use Rattle.bcache.specs.declared.types.Acquired.{Acquired}

-- the 40 slots, and their recency order
pub record Buffers : Type 0 where
  pub slots : List Buffer
  pub order : List ℕ

-- a slot that was never taken
abbrev pub empty_buffer : Buffer
empty_buffer = record { block = None; valid = false; bytes = zero_block; holder = None; pins = 0 }

-- what is in a slot; past the slots there is no block
abbrev pub buffer : Buffers → ℕ → Buffer
buffer c i = slice_index_or c.slots i empty_buffer

abbrev pub with_buffer : Buffers → ℕ → Buffer → Buffers
with_buffer c i s = record c { slots = slice_set c.slots i s }

-- no block has two slots
pub record IsOnce (c : Buffers) : Type 0 where
  pub same : (i j b : ℕ) → is_of b (buffer c i) ≡ true → is_of b (buffer c j) ≡ true → i ≡ j

-- what is true of every cache
pub record IsCache (c : Buffers) : Type 0 where
  pub size : length c.slots ≡ buffer_count
  pub order : IsOrder c.order
  pub once : IsOnce c

-- 40 slots that were never taken
abbrev pub fresh_buffers : Buffers
fresh_buffers = record { slots = replicate buffer_count empty_buffer; order = first_order }

-- the slot of a block
abbrev pub found : Buffers → ℕ → Option ℕ
found c b = position (λ s. is_of b s) c.slots

-- the slot that is taken for a new block
abbrev pub victim : Buffers → Option ℕ
victim c = victim_in (map references_of c.slots) c.order

-- a process takes the lock of a slot, and a reference with it
abbrev pub locked : Buffers → ℕ → ℕ → Buffers
locked c pid i = with_buffer c i (record (buffer c i) { holder = Some pid })

-- a slot is taken for another block
abbrev pub taken : Buffers → ℕ → ℕ → ℕ → Buffers
taken c pid b i = with_buffer c i (record (buffer c i) {
  block = Some b;
  valid = false;
  holder = Some pid;
})

-- a slot gets the bytes of its block
abbrev pub filled : Buffers → ℕ → List ℕ → Buffers
filled c i bytes = with_buffer c i (record (buffer c i) { valid = true; bytes = bytes })

-- a slot has other bytes
abbrev pub changed : Buffers → ℕ → List ℕ → Buffers
changed c i bytes = with_buffer c i (record (buffer c i) { bytes = bytes })

-- after a fault nothing is said of the slot's bytes
abbrev pub EndsUnfilled : Buffers → ℕ → Buffers → Type 0
EndsUnfilled c i d = (bytes : List ℕ) × (d ≡ changed c i bytes)

-- the holder gives up lock and reference
abbrev pub released : Buffers → ℕ → Buffers
released c i = record {
  slots = slice_set c.slots i (record (buffer c i) { holder = None });
  order = order_after_release c.order i (buffer c i).pins;
}

abbrev pub pinned : Buffers → ℕ → Buffers
pinned c i = with_buffer c i (record (buffer c i) { pins = (buffer c i).pins + 1 })

abbrev pub unpinned : Buffers → ℕ → Buffers
unpinned c i = with_buffer c i (record (buffer c i) { pins = (buffer c i).pins - 1 })

-- the answer where the block has a slot, by its holder
abbrev pub lock_answer : Option ℕ → ℕ → Bool → Acquired
lock_answer None i valid = Acquired.Got i valid
lock_answer (Some holder) i valid = Acquired.Sleeping Busy.Held

abbrev pub after_lock : Option ℕ → Buffers → ℕ → ℕ → Buffers
after_lock None c pid i = locked c pid i
after_lock (Some holder) c pid i = c

-- the answer where the block has none, by the victim
abbrev pub take_answer : Option ℕ → Acquired
take_answer (Some i) = Acquired.Got i false
take_answer None = Acquired.Sleeping Busy.NoBuffer

abbrev pub after_take : Option ℕ → Buffers → ℕ → ℕ → Buffers
after_take (Some i) c pid b = taken c pid b i
after_take None c pid b = c

abbrev pub answer_by : Option ℕ → Buffers → Acquired
answer_by (Some i) c = lock_answer (buffer c i).holder i (buffer c i).valid
answer_by None c = take_answer (victim c)

-- what `acquire` answers
abbrev pub acquire_answer : Buffers → ℕ → Acquired
acquire_answer c b = answer_by (found c b) c

abbrev pub after_acquire_by : Option ℕ → Buffers → ℕ → ℕ → Buffers
after_acquire_by (Some i) c pid b = after_lock (buffer c i).holder c pid i
after_acquire_by None c pid b = after_take (victim c) c pid b

-- the buffers after `acquire`
abbrev pub after_acquire : Buffers → ℕ → ℕ → Buffers
after_acquire c pid b = after_acquire_by (found c b) c pid b

-- the block of a slot that has one
abbrev pub block_or_zero : Option ℕ → ℕ
block_or_zero None = 0
block_or_zero (Some b) = b
