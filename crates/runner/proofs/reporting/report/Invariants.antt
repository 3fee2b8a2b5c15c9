use Rattle.std.proofs.Common.{◌≡◌, ◌≤◌, ◌++◌, length}
use Rattle.std.specs.Prelude.{IfOk}
use Rattle.history.specs.Own.{KeepsOwn}
use Rattle.model.specs.Layout.{inode_count_of}
use Rattle.ports.specs.History.{SameNames}
use Rattle.rings.specs.Callers.{intake_names}
use Rattle.clients.specs.Clients.{ops_at}
use Rattle.runner.specs.Reports.{IsReported}
use Rattle.runner.proofs.reporting.report.Given as goal

-- the reports of the first processes are printed, unless one could not be, and nothing but the
-- intake has changed
abbrev pub invariant-loop-client : goal.invariant-loop-client
invariant-loop-client g l = record {
  pid : l.pid ≡ length l.yielded;
  all : l.fn.clients.items ≡ l.yielded ++ l.client-iterator.rest.items;
  few : length l.fn.clients.items ≤ 32;
  reported : IfOk l.reported (λ all. IsReported (inode_count_of (g.D.Disk.image l.initial.kernel.opening)) l.initial.kernel (ops_at l.fn.clients.items) l.pid all (g.O.Write.contents l.initial.out) (g.O.Write.contents l.out));
  own : KeepsOwn (inode_count_of (g.D.Disk.image l.initial.kernel.opening)) l.initial.kernel.world.journal.list l.pid (ops_at l.fn.clients.items);
  same : l.kernel ≡ record l.initial.kernel { intake = l.kernel.intake };
  names : SameNames (intake_names l.initial.kernel.intake) (intake_names l.kernel.intake);
}
