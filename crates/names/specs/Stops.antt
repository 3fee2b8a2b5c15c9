-- What a stop leaves of the directory of a kernel.
use Rattle.std.specs.Prelude.{ℕ, ◌≤◌, List}
use Rattle.blocks.specs.Disk.{Image}
use Rattle.blocks.specs.declared.disk.Disk as disk_trait
use Rattle.model.specs.declared.types.operations.Entry.{Entry}
use Rattle.model.specs.Files.{files_of}
use Rattle.model.specs.Log.{recovered}
use Rattle.history.specs.Most.{most_of}
use Rattle.directories.specs.Laws.{HasLinked, Leads}
use Rattle.kernel.specs.State.{State}

-- recovery of x keeps some count of groups between those, and each name whose link is among them
-- leads to its file
pub record KeepsLinks (least most : ℕ) (opening : Image) (journal : List Entry)
    (x : Image) : Type 0 where
  pub groups : ℕ
  pub low : least ≤ groups
  pub high : groups ≤ most
  pub leads : (name : List ℕ) (number : ℕ) → HasLinked opening journal groups name number
      → Leads (files_of (recovered x)) name number

-- a stop now leaves such an image: it keeps the committed groups, or one more while the write of a
-- header failed or waits for its sync
abbrev pub LinksLast : {D N I H : Type 0} → disk_trait.Ghosts D N → State D I H → Type 0
LinksLast disk k = (x : Image)
    → disk.leaves k.store.volume.device (disk.moment k.store.volume.device) x
    → KeepsLinks k.store.volume.log.committed (most_of k.store.volume) (disk.image k.opening)
    k.world.journal.list x
