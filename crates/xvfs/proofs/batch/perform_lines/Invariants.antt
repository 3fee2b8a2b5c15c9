use Rattle.std.proofs.Common.{◌≡◌, [], map, take}
use Rattle.xvfs.specs.Requests.{DoesAll}
use Rattle.xvfs.proofs.Disks.{seen_by}
use Rattle.xvfs.proofs.batch.perform_lines.Given as goal

-- the first lines' commands were done
abbrev pub invariant-loop-words : goal.invariant-loop-words
invariant-loop-words g l = record {
  silent : l.err ≡ l.initial.err;
  none : l.lines ≡ [] → l.out ≡ l.initial.out;
  done : DoesAll (seen_by g.R.File.Read.remaining g.R.File.Write.contents) (map (λ words. map (λ word. word.now) words.items) (take l.words-index l.lines)) (g.O.Write.contents l.initial.out) (g.O.Write.contents l.out);
}
