use Rattle.std.proofs.Common.{◌≡◌, ◌+◌, ◌≤◌}
use Rattle.blocks.specs.Calls.{OnlyReads}
use Rattle.model.specs.Log.{recovered}
use Rattle.transfer.specs.Fitting.{blocks_below}
use Rattle.transfer.specs.Source.{chosen_files}
use Rattle.transfer.proofs.fitting.first_unfit.Given as goal

-- the files so far fit, and the old disk was only read
abbrev pub invariant-loop-k : goal.invariant-loop-k
invariant-loop-k g l =
    let from = g.D.Disk in
    let y = recovered (from.image l.fn.old) in
    record {
      reads : OnlyReads from l.fn.old l.old;
      faults : from.fault_count l.old ≡ from.fault_count l.fn.old;
      few : l.needed ≤ l.room;
      is : l.needed ≡ blocks_below l.source.form y (chosen_files y l.source.kinds.items) (l.k + 1);
    }
