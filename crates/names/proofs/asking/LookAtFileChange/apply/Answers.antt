use Rattle.names.specs.Inside.{files_seen}
use Rattle.directories.specs.Lemmas.PathLaws.{walk_told}
use Rattle.names.proofs.asking.LookAtFileChange.apply.Goals as goal

pub found-requires-clause-there : goal.found-requires-clause-there
found-requires-clause-there g c =
    walk_told (files_seen g.D.Disk.image c.args.tree.now.kernel) _ c.args.names.now c.in_ok-number.field-0 c.in-Ok.number c.requires.tree c.in_ok-number.ensures.same
    c.in_ok-number.ensures.led c.in-Ok.is
