use Rattle.std.proofs.Common.{◌≡◌, map}
use Rattle.std.specs.List.{range_with_len}
use Rattle.directories.specs.Flaws.{home_of}
use Rattle.directories.proofs.flaws.homes_of.Given as goal

-- the homes of the first numbers were found
abbrev pub invariant-loop-number : goal.invariant-loop-number
invariant-loop-number l = l.homes.items ≡ map (home_of l.files) (range_with_len 0 l.number)
