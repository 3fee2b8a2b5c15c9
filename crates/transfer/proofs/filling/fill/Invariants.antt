use Rattle.std.proofs.Common.{◌≡◌, ◌≤◌, ◌+◌, ◌*◌, length}
use Rattle.blocks.specs.Calls.{OnlyReads}
use Rattle.model.specs.Log.{recovered}
use Rattle.transfer.specs.Holding.{Holds}
use Rattle.transfer.specs.Source.{chosen_files}
use Rattle.transfer.specs.Stages.{listed, written_at}
use Rattle.transfer.proofs.filling.fill.Given as goal

-- the files so far were written, and the old disk was only read
abbrev pub invariant-loop-k : goal.invariant-loop-k
invariant-loop-k g l =
    let from = g.D.Disk in
    let to = g.E.Disk in
    let files = chosen_files (recovered (from.image l.fn.old)) l.source.kinds.items in
    record {
      reads : OnlyReads from l.fn.old l.old;
      faults : from.fault_count l.old ≡ from.fault_count l.fn.old;
      few : l.copied ≤ l.k;
      holds : Holds to (2 * length l.source.kinds.items + 21935 * l.k) (listed (length files) (written_at files l.k)) l.kernel;
      opening : l.kernel.opening ≡ l.fn.kernel.opening;
      name : to.name l.kernel.store.volume.device ≡ to.name l.fn.kernel.store.volume.device;
    }
