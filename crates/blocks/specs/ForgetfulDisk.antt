-- What callers see of a disk whose device may lack a block that a failed sync left out.
use Rattle.std.specs.Prelude.{◌≢◌, ◌==◌, ℕ, Bool, List}
use Rattle.std.specs.List.{list_any}
use Rattle.blocks.specs.Disk.{Image, block_at}
use Rattle.blocks.specs.Held.{Write, applied}
use Rattle.blocks.specs.SyncDisk.{held_of as held_below, synced_of}
use Rattle.blocks.specs.declared.forgetful.ForgetfulDisk.{ForgetfulDisk}

-- the blocks that reads give
abbrev pub shown_of : ForgetfulDisk → Image
shown_of d = d.shown.blocks.items

-- those that the device has
abbrev pub device_of : ForgetfulDisk → Image
device_of d = synced_of d.below

-- the writes since the last sync, the oldest first
abbrev pub held_of : ForgetfulDisk → List Write
held_of d = held_below d.below

-- a write of that block is among them
abbrev pub is_held : ℕ → List Write → Bool
is_held b held = list_any (λ write. write.0 == b) held

-- THE DEVICE LACKS A BLOCK: it has another, and no held write brings it
abbrev pub Lacks : ForgetfulDisk → ℕ → Type 0
Lacks d b = block_at (applied (device_of d) (held_of d)) b ≢ block_at (shown_of d) b
