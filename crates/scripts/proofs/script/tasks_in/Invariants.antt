use Rattle.std.proofs.Common.{◌≡◌, ◌<◌, ◌≤◌, length, true, false}
use Rattle.scripts.proofs.Walk.{HasRead, NoneBad}
use Rattle.scripts.specs.Script.{is_bad, lines_of, task_at, tasks_of}
use Rattle.scripts.proofs.script.tasks_in.Given as goal

abbrev pub invariant-loop-line : goal.invariant-loop-line
invariant-loop-line l = record {
  counted : l.number ≡ length l.yielded;
  few : length l.tasks.items ≤ 10000;
  read : l.surplus ≡ false → HasRead task_at (lines_of l.text) l.number l.tasks.items;
  many : l.surplus ≡ true → 10000 < length (tasks_of l.text);
  none_bad : NoneBad is_bad (lines_of l.text) l.number;
}
