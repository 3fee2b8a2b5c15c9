-- The writes and syncs of a disk.
use Rattle.std.specs.Prelude.{ℕ, ◌+◌, ◌*◌, Bool, false, if◌then◌else◌, List, [], ◌∷◌, slice_index_or, Option, Some, None}
use Rattle.blocks.specs.Disk.{Image}
use Rattle.sessions.specs.declared.track.Mark.{Mark}

-- the blocks before it, and whether it was a sync
abbrev pub Call : Type 0
Call = Image × Bool

-- the newest first
abbrev pub calls : Option Mark → List Call
calls None = []
calls (Some m) = (m.disk.value.blocks.items, m.is_sync) ∷ m.before

-- how many of them were writes, and how many were syncs
abbrev pub written : List Call → ℕ
written [] = 0
written (call ∷ older) = written older + (if call.1 then 0 else 1)

abbrev pub synced : List Call → ℕ
synced [] = 0
synced (call ∷ older) = synced older + (if call.1 then 1 else 0)

-- a sync takes two moments, so that one moment ago there was no sync to come
abbrev pub moment_of : List Call → ℕ
moment_of cs = written cs + 2 * synced cs

-- the blocks before the k-th of them
abbrev pub blocks_at : List Call → ℕ → Image
blocks_at cs k = (slice_index_or cs k ([], false)).0
