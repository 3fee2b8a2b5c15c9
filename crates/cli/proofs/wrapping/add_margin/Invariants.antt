use Rattle.std.proofs.Common.{◌≡◌}
use Rattle.cli.specs.Wrapping.{marks_of}
use Rattle.cli.proofs.wrapping.add_margin.Given as goal

-- blanks alone are added
abbrev pub invariant-loop : goal.invariant-loop
invariant-loop l = marks_of l.told.items ≡ marks_of l.fn.told.items
