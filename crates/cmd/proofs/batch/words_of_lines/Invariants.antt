use Rattle.std.proofs.Common.{◌≡◌, map, take}
use Rattle.cmd.specs.Lines.{script_in}
use Rattle.cmd.proofs.batch.words_of_lines.Given as goal

abbrev pub invariant-loop-line : goal.invariant-loop-line
invariant-loop-line l =
    map (λ words. map (λ word. word.now) words.items) l.script.items ≡ script_in (map (λ line. line.now) (take l.line-index l.lines))
