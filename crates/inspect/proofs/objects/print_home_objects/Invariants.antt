use Rattle.std.proofs.Common.{take}
use Rattle.std.specs.Io.KnownBytes.{Appends}
use Rattle.json_lines.specs.Arrays.{elements_behind}
use Rattle.inspect.specs.Logging.{home_object}
use Rattle.inspect.proofs.objects.print_home_objects.Given as goal

-- the objects so far are printed
abbrev pub invariant-loop-others : goal.invariant-loop-others
invariant-loop-others g l = Appends (g.O.Write.contents l.initial.out) (g.O.Write.contents l.out) (elements_behind (home_object l.inode_count) 0 (take l.others l.homes))
