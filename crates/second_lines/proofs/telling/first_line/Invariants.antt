use Rattle.std.proofs.Common.{◌≡◌, ◌+◌, drop}
use Rattle.second_lines.specs.Lines.{line_length}
use Rattle.second_lines.proofs.telling.first_line.Given as goal

-- the first line goes on behind those bytes
abbrev pub invariant-loop-end : goal.invariant-loop-end
invariant-loop-end l = line_length l.text ≡ l.end + line_length (drop l.end l.text)
