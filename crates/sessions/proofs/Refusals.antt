-- A kernel's refusal over a new disk in memory is one of the session's.
use Rattle.std.proofs.Common.{◌≡◌, ℕ, List, subst}
use Rattle.std.specs.Simd.{first_chunks}
use Rattle.blocks.specs.Disk.{Image}
use Rattle.model.specs.Verdict.{verdict}
use Rattle.offline.specs.Cause.{IsCause}
use Rattle.kernel.specs.Opening.{IsOpenCause}
use Rattle.kernel.specs.declared.types.OpenFault.{OpenFault}
use Rattle.kernel.specs.declared.types.OpenFault.TheVariants as opening
use Rattle.sessions.specs.contracts.disk.HostDiskDisk.TheImpl.{ghosts}
use Rattle.sessions.specs.declared.disk.HostDisk.{HostDisk}
use Rattle.sessions.specs.Refusal.{HasBlocks, IsRefusal, IsServed, refusal_of}

module _ (bytes : List ℕ) (processes count : ℕ) (has : HasBlocks bytes count) (served : IsServed processes) (d e : HostDisk) (blocks : d.copy.blocks.items ≡ first_chunks 1024 count bytes) where
  pub refuses : (fault : OpenFault) → IsOpenCause ghosts d e processes fault → IsRefusal bytes processes (refusal_of fault)
  refuses (opening.Check fault) cause = (count, has, served, subst (λ (y : Image). IsCause (verdict y) 0 0 fault) blocks cause.2)
  refuses (opening.Recover fault) cause = (count, has, served)
  refuses opening.NoMemory cause = (count, has, served)
  refuses opening.ProcRange cause = (count, has, cause.0)
