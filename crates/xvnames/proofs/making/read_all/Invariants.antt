use Rattle.std.proofs.Common.{map, take}
use Rattle.xvnames.specs.Making.{AreNamed, files_named}
use Rattle.xvnames.proofs.making.read_all.Given as goal

-- the files at the first paths
abbrev pub invariant-loop-path : goal.invariant-loop-path
invariant-loop-path g l = AreNamed (map (λ path. path.now) (take l.path-index l.paths)) (files_named l.files.items)
