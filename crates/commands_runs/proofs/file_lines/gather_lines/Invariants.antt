use Rattle.blocks.specs.Calls.{OnlyReads}
use Rattle.model.specs.Log.{recovered}
use Rattle.commands_runs.proofs.Lines.{AreSoFar}
use Rattle.commands_runs.proofs.file_lines.gather_lines.Given as goal

abbrev pub invariant-loop-i : goal.invariant-loop-i
invariant-loop-i g l = record {
  reads : OnlyReads g.D.Disk l.fn.disk l.disk;
  added : AreSoFar (recovered (g.D.Disk.image l.fn.disk)) l.i l.lines.items;
}
