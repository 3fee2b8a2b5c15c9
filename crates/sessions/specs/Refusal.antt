-- Why a session is not opened.
use Rattle.std.specs.Prelude.{◌≡◌, ◌⊎◌, ◌<◌, ◌≤◌, ◌*◌, ℕ, List, length}
use Rattle.std.specs.Simd.{first_chunks}
use Rattle.model.specs.Verdict.{verdict}
use Rattle.offline.specs.Cause.{IsCause}
use Rattle.kernel.specs.declared.types.OpenFault.{OpenFault}
use Rattle.kernel.specs.declared.types.OpenFault.TheVariants as opening
use Rattle.sessions.specs.declared.refusal.OpenRefusal.{OpenRefusal}
use Rattle.sessions.specs.declared.refusal.OpenRefusal.TheVariants.{Check, Length, NoMemory, Processes}

-- so many whole blocks as an image may have
pub record HasBlocks (bytes : List ℕ) (count : ℕ) : Type 0 where
  pub some : 1 ≤ count
  pub few : count ≤ 8191
  pub whole : length bytes ≡ count * 1024

-- so many processes as a kernel may have
abbrev pub IsServed : ℕ → Type 0
IsServed processes = (1 ≤ processes) × (processes ≤ 32)

-- these bytes are not opened with so many processes, for that reason; no read failed
abbrev pub IsRefusal : List ℕ → ℕ → OpenRefusal → Type 0
IsRefusal bytes processes Length = (count : ℕ) → HasBlocks bytes count → ⊥
IsRefusal bytes processes Processes =
    (count : ℕ) × HasBlocks bytes count × ((processes < 1) ⊎ (32 < processes))
IsRefusal bytes processes NoMemory = (count : ℕ) × HasBlocks bytes count × IsServed processes
IsRefusal bytes processes (Check fault) = (count : ℕ) × HasBlocks bytes count × IsServed processes
    × IsCause (verdict (first_chunks 1024 count bytes)) 0 0 fault

-- what a kernel's fault is to a session
abbrev pub refusal_of : OpenFault → OpenRefusal
refusal_of (opening.Check fault) = Check fault
refusal_of (opening.Recover fault) = NoMemory
refusal_of opening.NoMemory = NoMemory
refusal_of opening.ProcRange = Processes
