-- The writes of a replay over a copy in memory of its disk.
use Rattle.std.specs.Prelude.{◌≡◌, ◌≢◌, ⊤, ℕ, Bool, true, false, List, [], length, map, Option, None}
use Rattle.blocks.specs.Disk.{Image, counted}
use Rattle.blocks.specs.Held.{Write, applied}
use Rattle.blocks.specs.declared.disk.Disk.{Ghosts}
use Rattle.json_lines.specs.declared.written.Written.{Written}
use Rattle.model.specs.Log.{recovered}
use Rattle.model.specs.Verdict.{verdict}
use Rattle.model.specs.declared.types.fault.CheckFault.TheVariants as check
use Rattle.opening.specs.declared.recovering.RecoverRefusal.{RecoverRefusal}
use Rattle.opening.specs.declared.recovering.RecoverRefusal.TheVariants.{Check, Recover}
use Rattle.pictures.specs.Along.{left_along}
use Rattle.player.specs.Disks.{faulty}
use Rattle.player.specs.Opening.{Replays}
use Rattle.player.specs.Told.{Told}
use Rattle.scripts.specs.declared.schedule.Word.{Word}
use Rattle.scripts.specs.declared.script.Task.{Task}
use Rattle.commands.specs.Copied.{memory}
use Rattle.commands_runs.specs.Filed.{held_memory, mute, wants_then}

-- ---- a disk that keeps what is written to it

-- a disk, as it was at first, and its writes since, in their order; whether one of them isn't there
pub record Kept (D : Type 0) : Type 0 where
  pub disk : D
  pub first : D
  pub written : List Written
  pub short : Bool

-- what contracts see of it, over what they see of the disk itself; it is that which was so at first
abbrev pub keeping : {D N : Type 0} → Ghosts D N → Ghosts (Kept D) (N × D)
keeping disk = record {
  name = λ k. (disk.name k.disk, k.first);
  image = λ k. disk.image k.disk;
  moment = λ k. disk.moment k.disk;
  leaves = λ k. disk.leaves k.disk;
  write_count = λ k. disk.write_count k.disk;
  fault_count = λ k. disk.fault_count k.disk;
  sync_count = λ k. disk.sync_count k.disk;
  holding = λ n. disk.holding n.0;
}

abbrev pub write_of : Written → Write
write_of w = (w.block, w.bytes)

-- These are the writes that made one disk of the other: all that it counted, and what it has now is what
-- it had with these blocks over it.
pub record AreWrites {D N : Type 0} (disk : Ghosts D N) (old new : D) (written : List Written) : Type 0
  where
    pub image : disk.image new ≡ applied (disk.image old) (map write_of written)
    pub count : disk.write_count new ≡ counted (disk.write_count old) (length written)

-- so of a disk, unless one isn't there
abbrev pub IsKept : {D N : Type 0} → Ghosts D N → Kept D → Type 0
IsKept disk k = k.short ≡ false → AreWrites disk k.first k.disk k.written

-- ---- a replay over one

-- A disk had the blocks of an image, and a replay over it of these operations, in the turns of these
-- words, made these writes. Memory was refused to no operation of it. The write of
-- number `stop` was not made, from 1; each was where that is 0.
pub record MakesWrites {D N : Type 0} (below : Ghosts D N) (x : Image) (tasks : List Task)
    (processes : ℕ) (words : List Word) (stop : ℕ) (written : List Written) : Type 0 where
  pub start : Kept D
  pub left : Kept D
  pub tolds : List Told
  pub text : Option (List ℕ)
  pub printed : Option (List ℕ)
  pub begun : start.first ≡ start.disk
  pub same : below.image start.disk ≡ x
  pub replays : Replays (keeping below) (faulty (keeping below)) start left tasks processes words stop
      mute None text printed tolds
  pub served : left_along wants_then false tolds ≡ false
  pub has : AreWrites below start.disk left.disk written

-- the same over a disk in memory that holds writes back or doesn't, once its image was recovered
abbrev pub LeavesWrites : Bool → Image → List Task → ℕ → List Word → ℕ → List Written → Type 0
LeavesWrites false x = MakesWrites memory (recovered x)
LeavesWrites true x = MakesWrites held_memory (recovered x)

-- so of an image without a fault: over another nothing is replayed
abbrev pub AreItsWrites : Bool → Image → List Task → ℕ → List Word → ℕ → List Written → Type 0
AreItsWrites holds x tasks processes words stop written =
    verdict x ≡ None → LeavesWrites holds x tasks processes words stop written

-- it isn't for want of memory, nor of a disk in memory, that an image is refused
abbrev pub IsOfImage : RecoverRefusal → Type 0
IsOfImage (Check check.Disk) = ⊥
IsOfImage (Check check.NoMemory) = ⊥
IsOfImage (Check fault) = ⊤
IsOfImage (Recover fault) = ⊥
