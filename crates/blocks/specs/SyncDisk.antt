-- What callers see of a disk in memory that holds writes back.
use Rattle.std.specs.Prelude.{List}
use Rattle.blocks.specs.Disk.{Image}
use Rattle.blocks.specs.Held.{Write, held_by}
use Rattle.blocks.specs.declared.sync.SyncDisk.{SyncDisk}

-- the blocks of its last sync
abbrev pub synced_of : SyncDisk → Image
synced_of d = d.state.synced.items

-- the writes since, the oldest first
abbrev pub held_of : SyncDisk → List Write
held_of d = held_by d.state
