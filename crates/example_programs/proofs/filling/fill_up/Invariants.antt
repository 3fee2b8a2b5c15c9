use Rattle.std.proofs.Common.{◌+◌, ◌<◌}
use Rattle.calls.specs.Calls.{call_count}
use Rattle.calls.specs.Transactions.{IsInside}
use Rattle.example_programs.proofs.filling.fill_up.Given as goal

-- the transaction is under way, and each write was one call
abbrev pub invariant-loop-third : goal.invariant-loop-third
invariant-loop-third g l = record {
  inside : IsInside g.D.Disk.fault_count l.kernel;
  few : call_count l.kernel < l.third + 2;
}
