use Rattle.std.proofs.Common.{List, map, take}
use Rattle.std.specs.Io.KnownBytes.{Appends}
use Rattle.explorer_page.specs.Lines.{lines_text}
use Rattle.explorer_page.proofs.lines.print_lines.Given as goal

-- the lines so far are written
abbrev pub invariant-loop-line : goal.invariant-loop-line
invariant-loop-line g l = Appends (g.O.Write.contents l.initial.out) (g.O.Write.contents l.out) (lines_text (map (λ line. line.now) (take l.line-index l.lines)))
