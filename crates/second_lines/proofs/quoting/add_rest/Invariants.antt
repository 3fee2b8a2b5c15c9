use Rattle.std.proofs.Common.{◌≡◌, ◌++◌, drop, false}
use Rattle.second_lines.specs.Quoting.{rest_of}
use Rattle.second_lines.proofs.quoting.add_rest.Given as goal

-- what is left is added behind what is there
abbrev pub invariant-loop-byte : goal.invariant-loop-byte
invariant-loop-byte l = l.text.items ++ rest_of l.coded (drop l.byte-index l.path) ≡ l.fn.text.items ++ rest_of false l.path
