use Rattle.std.proofs.Common.{take}
use Rattle.std.specs.Io.KnownBytes.{Appends}
use Rattle.inspect.specs.Logging.{homes_text}
use Rattle.inspect.proofs.logging.print_log.Given as goal

abbrev pub invariant-loop-place : goal.invariant-loop-place
invariant-loop-place g l = Appends (g.O.Write.contents l.initial.out) (g.O.Write.contents l.out) (homes_text l.inode_count 0 (take l.place l.homes))
