use Rattle.std.proofs.Common.{◌≡◌, ◌≤◌, ◌-◌, length, take}
use Rattle.offline.specs.Common.{bytes_in, OnlyReads, part_of, recovered}
use Rattle.offline.proofs.recovered.Recovered.read.Given as goal

abbrev pub decreases-loop-done : goal.decreases-loop-done
decreases-loop-done g l = length l.initial.into - l.done

abbrev pub invariant-loop-done : goal.invariant-loop-done
invariant-loop-done g l =
    let d = g.D.Disk in
    record {
      reads : OnlyReads d l.fn.disk l.disk;
      faults : d.fault_count l.disk ≡ d.fault_count l.fn.disk;
      few : l.done ≤ length l.into;
      read : take l.done l.into ≡ part_of (bytes_in (recovered (d.image l.fn.disk)) l.inode) l.at l.done;
    }
