use Rattle.std.proofs.Common.{◌≡◌, length}
use Rattle.calls.specs.Files.{files_on}
use Rattle.transfer.specs.Holding.{Holds}
use Rattle.transfer.specs.Stages.{listed, made_at}
use Rattle.transfer.proofs.filling.create_numbers.Given as goal

-- the numbers so far were made
abbrev pub invariant-loop-kind : goal.invariant-loop-kind
invariant-loop-kind g l =
    let d = g.E.Disk in
    record {
      holds : Holds d l.kind-index (listed (length (files_on d.image l.fn.kernel)) (made_at l.kinds l.kind-index)) l.kernel;
      opening : l.kernel.opening ≡ l.fn.kernel.opening;
      name : d.name l.kernel.store.volume.device ≡ d.name l.fn.kernel.store.volume.device;
    }
