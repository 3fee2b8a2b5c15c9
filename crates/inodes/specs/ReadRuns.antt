-- Runs of a reading: its steps, between which the other processes go on.
use Rattle.std.specs.Prelude.{◌≡◌, ◌≤◌, ℕ, ◌-◌, true, List, [], ◌∷◌, length, Some}
use Rattle.blocks.specs.declared.disk.Disk.{Ghosts}
use Rattle.model.specs.declared.types.image.Dinode.{Dinode}
use Rattle.model.specs.declared.types.image.Form.{Form}
use Rattle.model.specs.Files.{bytes_in}
use Rattle.model.specs.Gathered.{GatheredBytes}
use Rattle.model.specs.Layout.{form_of}
use Rattle.model.specs.Operations.{part_of}
use Rattle.wal.specs.Joint.{seen}
use Rattle.wal.specs.Volume.{VolumeState}
use Rattle.model.specs.declared.types.progress.Progress.{Progress}
use Rattle.blockmap.specs.Reading.{MayRead}
use Rattle.inodes.specs.Readi.{ReadState, IsReading, ReadSteps, first_read, is_done}

-- a step that a reading made: the volume before it, its answer, and what it left
pub record ReadMade (D : Type 0) : Type 0 where
  pub before : VolumeState D
  pub answer : Progress (Unit {0})
  pub after : VolumeState D
  pub reading : ReadState
  pub gathered : GatheredBytes

-- these are the steps of process p's reading from there on, in their order; at each of them the
-- inode's file has these bytes
abbrev pub IsReadRun : {D N : Type 0} → Ghosts D N → ℕ → List ℕ → ReadState → GatheredBytes
    → List (ReadMade D) → Type 0
IsReadRun disk p file m g [] = Unit {0}
IsReadRun disk p file m g (step ∷ rest) =
    IsReading disk.image step.before p m
    × (bytes_in (seen (disk.image step.before.device) step.before.buffers) m.inode ≡ file)
    × ReadSteps disk step.before p m g step.answer step.after step.reading step.gathered
    × IsReadRun disk p file step.reading step.gathered rest

-- the last of them is over, with these bytes
abbrev pub EndsWithBytes : {D : Type 0} → List (ReadMade D) → List ℕ → Type 0
EndsWithBytes [] bytes = ⊥
EndsWithBytes (step ∷ []) bytes = (is_done step.answer ≡ true) × (step.gathered.bytes ≡ bytes)
EndsWithBytes (step ∷ next ∷ rest) bytes = EndsWithBytes (next ∷ rest) bytes

-- a reading that was begun may make a step over a volume whose current image has the file, and room
-- for as many bytes as were asked for is enough
abbrev pub BegunMayStep : {D N : Type 0} → Ghosts D N → Type 0
BegunMayStep {D} disk = (v : VolumeState D) (p offset count : ℕ) (d : Dinode) (m : ReadState) →
    MayRead (seen (disk.image v.device) v.buffers) d →
    v.log.size ≡ length (seen (disk.image v.device) v.buffers) →
    first_read (form_of (seen (disk.image v.device) v.buffers)) d offset count ≡ Some m →
    IsReading disk.image v p m × (m.end - m.next ≤ count)

-- THE BYTES OF A READING: those of the file from the offset on, as many as were asked for or as
-- there are, where the file stays the same between its steps
abbrev pub ReadsPart : {D N : Type 0} → Ghosts D N → Type 0
ReadsPart {D} disk = (form : Form) (d : Dinode) (offset count p : ℕ) (file bytes : List ℕ)
    (m : ReadState) (g : GatheredBytes) (steps : List (ReadMade D)) →
    first_read form d offset count ≡ Some m → g.bytes ≡ [] → IsReadRun disk p file m g steps →
    EndsWithBytes steps bytes → bytes ≡ part_of file offset count
