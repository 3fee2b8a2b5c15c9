-- The blocks of a disk that were copied to memory.
use Rattle.std.specs.Simd.{first_chunks}
use Rattle.blocks.specs.Disk.{Image}
use Rattle.blocks.specs.contracts.memory.MemDiskDisk.TheImpl.{ghosts as memory_ghosts}
use Rattle.blocks.specs.declared.disk.Disk.{Ghosts}
use Rattle.blocks.specs.declared.memory.MemDisk.{MemDisk}
use Rattle.commands.specs.declared.copied.Copied.{Copied}

-- what contracts see of a disk in memory
abbrev pub memory : Ghosts MemDisk (Unit {0})
memory = memory_ghosts

-- the blocks that were copied
abbrev pub copied_image : Copied → Image
copied_image c = first_chunks 1024 c.size c.bytes.items
