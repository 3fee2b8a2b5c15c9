use Rattle.std.proofs.Common.{◌≡◌, ◌++◌, map, take}
use Rattle.cli.specs.Topics.{name_of}
use Rattle.cli.proofs.tips.names_of.Given as goal

-- the names of the first topics are there
abbrev pub invariant-loop-topic : goal.invariant-loop-topic
invariant-loop-topic l = map (λ name. name.now) l.names.items ≡ map name_of (take l.topic-index l.outline.topics.now)

-- and those of the first commands
abbrev pub invariant-loop-line : goal.invariant-loop-line
invariant-loop-line l = map (λ name. name.now) l.names.items ≡ map name_of l.outline.topics.now ++ map (λ line. line.name.now) (take l.line-index l.outline.lines.now)
