use Rattle.std.proofs.Common.{◌≡◌}
use Rattle.directories.specs.Flaws.{first_flaws}
use Rattle.directories.proofs.flaws.flaws_of.Given as goal

-- the flaws of the first numbers were added
abbrev pub invariant-loop-number : goal.invariant-loop-number
invariant-loop-number l = l.flaws.items ≡ first_flaws l.files l.homes l.number
