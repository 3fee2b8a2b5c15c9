-- How a disk is left at the end of what was done over it.
use Rattle.std.specs.Prelude.{◌≡◌, Bool, true, false}
use Rattle.blocks.specs.declared.disk.Disk.{Ghosts}
use Rattle.wal.specs.Recovery.{Settles}

-- a sync of the disk d, now e, was done, and nothing is held any more
pub record Syncs {D N : Type 0} (disk : Ghosts D N) (d e : D) : Type 0 where
  pub image : disk.image e ≡ disk.image d
  pub writes : disk.write_count e ≡ disk.write_count d
  pub faults : disk.fault_count e ≡ disk.fault_count d
  pub settles : Settles disk 1 d e

-- the same where a sync is asked for; else the disk was left alone
abbrev pub SyncsIf : {D N : Type 0} → Bool → Ghosts D N → D → D → Type 0
SyncsIf true disk d e = Syncs disk d e
SyncsIf false disk d e = e ≡ d
