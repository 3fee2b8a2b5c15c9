use Rattle.std.proofs.Common.{◌++◌, List, codes, map, take}
use Rattle.std.specs.Io.KnownBytes.{Appends}
use Rattle.std.specs.List.{flat_map}
use Rattle.xvfs.proofs.topics.print_topic.Given as goal

-- the lines so far are printed
abbrev pub invariant-loop-line : goal.invariant-loop-line
invariant-loop-line g l = Appends (g.O.Write.contents l.initial.out) (g.O.Write.contents l.out) (flat_map (λ line. line ++ codes "\n") (map (λ line. line.now) (take l.line-index l.lines)))
