use Rattle.std.proofs.Common.{◌≡◌, [], map, take}
use Rattle.cmd.specs.Batches.{AreDone}
use Rattle.commands.proofs.batch.perform_lines.Given as goal

-- the first lines' commands were done
abbrev pub invariant-loop-words : goal.invariant-loop-words
invariant-loop-words g l = record {
  silent : l.err ≡ l.initial.err;
  none : l.lines ≡ [] → l.out ≡ l.initial.out;
  done : AreDone (g.P.Program.done l.program) (map (λ words. map (λ word. word.now) words.items) (take l.words-index l.lines)) (g.O.Write.contents l.initial.out) (g.O.Write.contents l.out);
}
