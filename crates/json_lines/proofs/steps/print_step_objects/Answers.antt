use Rattle.std.proofs.Common.{arith}
use Rattle.json_lines.proofs.Objects.{objects_more}
use Rattle.json_lines.proofs.steps.print_step_objects.Goals as goal

pub loop-note-preserved : goal.loop-note-preserved
loop-note-preserved g c = record {
  written = objects_more c.args.inode_count c.args.written.now c.args.notes.now c.loop-note.note-index c.loop-note.number _ _ _ _ c.loop-note-test.true c.loop-note.invariant.counted c.loop-note.invariant.written c.in_ok-print_step_object.ensures.ok;
  counted = omega arith;
}
