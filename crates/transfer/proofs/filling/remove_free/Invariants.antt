use Rattle.std.proofs.Common.{◌≡◌, ◌+◌, length}
use Rattle.calls.specs.Files.{files_on}
use Rattle.transfer.specs.Holding.{Holds}
use Rattle.transfer.specs.Stages.{kept_at, listed}
use Rattle.transfer.proofs.filling.remove_free.Given as goal

-- the free ones so far were removed
abbrev pub invariant-loop-k : goal.invariant-loop-k
invariant-loop-k g l =
    let d = g.E.Disk in
    record {
      holds : Holds d (length l.kinds + l.k) (listed (length (files_on d.image l.fn.kernel)) (kept_at l.kinds l.k)) l.kernel;
      opening : l.kernel.opening ≡ l.fn.kernel.opening;
      name : d.name l.kernel.store.volume.device ≡ d.name l.fn.kernel.store.volume.device;
    }
