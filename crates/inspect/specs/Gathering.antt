-- What gathering blocks from a checked disk rests on, and why it ends early.
use Rattle.std.specs.Prelude.{◌≡◌, ℕ, List, Result, MatchResult}
use Rattle.std.specs.List.{AllByRecursion}
use Rattle.blocks.specs.Disk.{Image, Rose}
use Rattle.model.specs.declared.types.fault.CheckFault.TheVariants as check
use Rattle.offline.specs.Recovered.{LiesBehindLog}
use Rattle.inspect.specs.declared.fault.GatherFault.{GatherFault}
use Rattle.inspect.specs.declared.fault.GatherFault.TheVariants.{Disk, NoMemory}
use Rattle.inspect.specs.declared.refused.DfRefusal.{DfRefusal}
use Rattle.inspect.specs.declared.refused.DfRefusal.TheVariants as df
use Rattle.inspect.specs.declared.refused.LsRefusal.{LsRefusal}
use Rattle.inspect.specs.declared.refused.LsRefusal.TheVariants as ls
use Rattle.inspect.specs.declared.refused.ShowRefusal.{ShowRefusal}
use Rattle.inspect.specs.declared.refused.ShowRefusal.TheVariants as show

-- each of these blocks is one of the image behind the log
abbrev pub LieBehindLog : Image → List ℕ → Type 0
LieBehindLog x blocks = AllByRecursion (LiesBehindLog x) blocks

-- the count of the disk's faults stays, and rises where a read failed
abbrev pub IsGatherCause : ℕ → ℕ → GatherFault → Type 0
IsGatherCause old new Disk = Rose old new
IsGatherCause old new NoMemory = new ≡ old

abbrev pub KeepsCount : {T : Type 0} → Result T GatherFault → ℕ → ℕ → Type 0
KeepsCount result old new = MatchResult result (λ _. new ≡ old) (IsGatherCause old new)

-- how the commands refuse then
abbrev pub ls_refusal_of : GatherFault → LsRefusal
ls_refusal_of Disk = ls.Check check.Disk
ls_refusal_of NoMemory = ls.NoMemory

abbrev pub show_refusal_of : GatherFault → ShowRefusal
show_refusal_of Disk = show.Check check.Disk
show_refusal_of NoMemory = show.NoMemory

abbrev pub df_refusal_of : GatherFault → DfRefusal
df_refusal_of Disk = df.Check check.Disk
df_refusal_of NoMemory = df.NoMemory
