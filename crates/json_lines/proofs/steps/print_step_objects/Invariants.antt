use Rattle.std.proofs.Common.{◌≡◌, take}
use Rattle.std.specs.Io.KnownBytes.{Appends}
use Rattle.json_lines.specs.Steps.{step_objects}
use Rattle.json_lines.proofs.steps.print_step_objects.Given as goal

-- the objects of the steps so far are written
abbrev pub invariant-loop-note : goal.invariant-loop-note
invariant-loop-note g l = record {
  written : Appends (g.O.Write.contents l.initial.out) (g.O.Write.contents l.out) (step_objects l.inode_count l.written (take l.note-index l.notes));
  counted : l.number ≡ l.note-index;
}
