-- Why what an image has was not printed.
use Rattle.std.specs.Prelude.{◌≡◌, ℕ, Option, Some, None, IsSome}
use Rattle.blocks.specs.declared.disk.Disk.{Ghosts}
use Rattle.offline.specs.Cause.{IsCause}
use Rattle.model.specs.Files.{file_in, files_of}
use Rattle.model.specs.Log.{recovered}
use Rattle.model.specs.Verdict.{verdict}
use Rattle.inspect.specs.declared.refused.DfRefusal.{DfRefusal}
use Rattle.inspect.specs.declared.refused.DfRefusal.TheVariants as df
use Rattle.inspect.specs.declared.refused.LsRefusal.{LsRefusal}
use Rattle.inspect.specs.declared.refused.LsRefusal.TheVariants as ls
use Rattle.inspect.specs.declared.refused.ShowRefusal.{ShowRefusal}
use Rattle.inspect.specs.declared.refused.ShowRefusal.TheVariants as show

-- The disk d, now e, was not checked, or its files could not be gathered or printed; here and below
-- `none` says that nothing was printed.
abbrev pub IsUnlisted : {D N : Type 0} → Ghosts D N → D → D → Type 0 → LsRefusal → Type 0
IsUnlisted disk d e none (ls.Check fault) =
    IsCause (verdict (disk.image d)) (disk.fault_count d) (disk.fault_count e) fault × none
IsUnlisted disk d e none ls.NoMemory = (verdict (disk.image d) ≡ None) × none
IsUnlisted disk d e none ls.Output = verdict (disk.image d) ≡ None

-- the same of its blocks
abbrev pub IsUndrawn : {D N : Type 0} → Ghosts D N → D → D → Type 0 → ShowRefusal → Type 0
IsUndrawn disk d e none (show.Check fault) =
    IsCause (verdict (disk.image d)) (disk.fault_count d) (disk.fault_count e) fault × none
IsUndrawn disk d e none show.NoFile = ⊥
IsUndrawn disk d e none show.NoMemory = (verdict (disk.image d) ≡ None) × none
IsUndrawn disk d e none show.Output = verdict (disk.image d) ≡ None

-- the same of the blocks of its file of number i, or there is no such file
abbrev pub IsUnshown : {D N : Type 0} → Ghosts D N → ℕ → D → D → Type 0 → ShowRefusal → Type 0
IsUnshown disk i d e none show.NoFile = (verdict (disk.image d) ≡ None)
    × (file_in (files_of (recovered (disk.image d))) i ≡ None) × none
IsUnshown disk i d e none show.Output = (verdict (disk.image d) ≡ None)
    × IsSome (file_in (files_of (recovered (disk.image d))) i)
IsUnshown disk i d e none r = IsUndrawn disk d e none r

-- what was asked for of these: the whole image, or a file of a number
abbrev pub IsHidden : {D N : Type 0} → Ghosts D N → Option ℕ → D → D → Type 0 → ShowRefusal
    → Type 0
IsHidden disk None d e none r = IsUndrawn disk d e none r
IsHidden disk (Some i) d e none r = IsUnshown disk i d e none r

-- the same of how much of it is used
abbrev pub IsUncounted : {D N : Type 0} → Ghosts D N → D → D → Type 0 → DfRefusal → Type 0
IsUncounted disk d e none (df.Check fault) =
    IsCause (verdict (disk.image d)) (disk.fault_count d) (disk.fault_count e) fault × none
IsUncounted disk d e none df.NoMemory = (verdict (disk.image d) ≡ None) × none
IsUncounted disk d e none df.Output = verdict (disk.image d) ≡ None
