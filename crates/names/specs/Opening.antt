-- Why no tree is opened.
use Rattle.std.specs.Prelude.{◌≡◌, ℕ, None}
use Rattle.blocks.specs.Calls.{OnlyReads}
use Rattle.blocks.specs.declared.disk.Disk.{Ghosts}
use Rattle.kernel.specs.Opening.{RefusesToOpen}
use Rattle.model.specs.Files.{files_of}
use Rattle.model.specs.Log.{recovered}
use Rattle.model.specs.Verdict.{verdict}
use Rattle.names.specs.declared.opening.TreeOpenFault.{TreeOpenFault}
use Rattle.names.specs.declared.opening.TreeOpenFault.TheVariants.{Kernel, Miscounted, NoTree}
use Rattle.model.specs.declared.types.fault.CheckFault.TheVariants as check
use Rattle.kernel.specs.declared.types.OpenFault.TheVariants.{Check, NoMemory}
use Rattle.directories.specs.declared.judging.JudgeFault.{JudgeFault}
use Rattle.directories.specs.Counts.{HasRightCount}
use Rattle.directories.specs.Trees.{IsTree}

-- the image of a disk has no fault, its files are no tree, and it was only read
pub record HasNoTree {D N : Type 0} (disk : Ghosts D N) (d e : D) : Type 0 where
  pub sound : verdict (disk.image d) ≡ None
  pub none : IsTree (files_of (recovered (disk.image d))) → ⊥
  pub reads : OnlyReads disk d e

-- they are a tree, and the count of the file of a number is not how many names lead to it
pub record IsMiscounted {D N : Type 0} (disk : Ghosts D N) (d e : D) (number : ℕ) : Type 0 where
  pub sound : verdict (disk.image d) ≡ None
  pub tree : IsTree (files_of (recovered (disk.image d)))
  pub wrong : HasRightCount (files_of (recovered (disk.image d))) number → ⊥
  pub reads : OnlyReads disk d e

-- what hindered that files are judged, as a fault of an opening
abbrev pub unjudged : JudgeFault → TreeOpenFault
unjudged JudgeFault.Disk = Kernel (Check check.Disk)
unjudged JudgeFault.NoMemory = Kernel NoMemory

-- why none is opened over the disk d, which is handed back as e
abbrev pub IsUnopened : {D N : Type 0} → Ghosts D N → D → D → TreeOpenFault → Type 0
IsUnopened disk d e (Kernel cause) = RefusesToOpen disk d e 2 cause
IsUnopened disk d e NoTree = HasNoTree disk d e
IsUnopened disk d e (Miscounted number) = IsMiscounted disk d e number
