use Rattle.std.proofs.Common.{◌≡◌, ◌^◌, ◌-◌, take}
use Rattle.std.specs.Prelude.{min}
use Rattle.std.specs.List.{sum_by}
use Rattle.directories.specs.Tallying.{names_in}
use Rattle.directories.proofs.flaws.names_to.Given as goal

-- the names of the first files were counted, up to the most
abbrev pub invariant-loop-file : goal.invariant-loop-file
invariant-loop-file l = l.sum ≡ min (sum_by (names_in l.number) (take l.file-index l.files)) (2 ^ 32 - 1)
