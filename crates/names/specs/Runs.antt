-- Changes of a tree, one after the other.
use Rattle.std.specs.Prelude.{◌≡◌, ℕ, zero, suc, ◌<◌}
use Rattle.blocks.specs.declared.disk.Disk.{Ghosts}
use Rattle.calls.specs.Calls.{image_on}
use Rattle.calls.specs.Stepping.{Plain}
use Rattle.calls.specs.Stopped.{StaysOver}
use Rattle.model.specs.Files.{Files, files_of}
use Rattle.names.specs.Ready.{LeavesIfDone}

-- so many changes of one kind made new files of these
abbrev pub MakeNew : (Files → Files → Type 0) → ℕ → Files → Files → Type 0
MakeNew change zero files new = new ≡ files
MakeNew change (suc count) files new =
    (mid : Files) × MakeNew change count files mid × change mid new

-- however many
abbrev pub CameBy : (Files → Files → Type 0) → Files → Files → Type 0
CameBy change files new = (count : ℕ) × MakeNew change count files new

-- Kernel k of a tree, over which so many calls may be made, is m now, over which `less` may. The files on
-- the disk came by changes of that kind, unless no call is left; so did what a stop leaves in between.
-- Where no call was left, nothing was done.
pub record HasRun {D N : Type 0} (disk : Ghosts D N) (change : Files → Files → Type 0) (k m : Plain D)
    (left less : ℕ) : Type 0 where
  pub made : 0 < less → CameBy change (files_of (image_on disk.image k)) (files_of (image_on disk.image m))
  pub leaves : LeavesIfDone disk (CameBy change) k m
  pub none : left ≡ 0 → (m ≡ k) × (less ≡ 0)
  pub stays : StaysOver disk k m
