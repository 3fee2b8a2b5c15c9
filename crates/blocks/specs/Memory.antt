-- What contracts see of a disk in memory beside what they see of each disk.
use Rattle.std.specs.Prelude.{◌<◌, ◌^◌, ℕ}
use Rattle.blocks.specs.Told.{counted_fits}
use Rattle.blocks.specs.declared.memory.MemDisk.{MemDisk}

-- the block that was written last
abbrev pub last_of : MemDisk → ℕ
last_of d = d.last

pub writes_fit : (d : MemDisk) → d.writes < 2 ^ 64
writes_fit d = counted_fits d.past d.writes d.counted
