use Rattle.std.proofs.Common.{◌≡◌, ◌+◌, ◌*◌, take}
use Rattle.blocks.specs.Calls.{OnlyReads}
use Rattle.model.specs.Files.{bytes_in}
use Rattle.model.specs.Log.{recovered}
use Rattle.calls.specs.Calls.{call_count}
use Rattle.calls.specs.Files.{appended, files_on}
use Rattle.transfer.specs.Holding.{Holds}
use Rattle.transfer.proofs.filling.write_file.Given as goal

-- the pieces so far were written, and the old disk was only read
abbrev pub invariant-loop-piece : goal.invariant-loop-piece
invariant-loop-piece g l =
    let from = g.D.Disk in
    let to = g.E.Disk in
    record {
      reads : OnlyReads from l.fn.old l.old;
      faults : from.fault_count l.old ≡ from.fault_count l.fn.old;
      holds : Holds to (call_count l.fn.kernel + l.piece)
          (appended (files_on to.image l.fn.kernel) l.i (take (l.piece * 3072) (bytes_in (recovered (from.image l.fn.old)) l.inode))) l.kernel;
      opening : l.kernel.opening ≡ l.fn.kernel.opening;
      name : to.name l.kernel.store.volume.device ≡ to.name l.fn.kernel.store.volume.device;
    }
