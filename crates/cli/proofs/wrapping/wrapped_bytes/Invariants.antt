use Rattle.std.proofs.Common.{◌≡◌, take}
use Rattle.cli.specs.Wrapping.{marks_of}
use Rattle.cli.proofs.wrapping.wrapped_bytes.Given as goal

-- the marks of the first bytes are told
abbrev pub invariant-loop-at : goal.invariant-loop-at
invariant-loop-at l = marks_of l.told.items ≡ marks_of (take l.at l.text)
