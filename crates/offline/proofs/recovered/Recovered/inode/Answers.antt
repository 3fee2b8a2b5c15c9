use Rattle.std.proofs.Common.{ap, arith}
use Rattle.offline.specs.Common.{lawful_geometry, Super}
use Rattle.offline.proofs.recovered.Recovered.inode.Goals as goal

pub block-requires-clause-inside : goal.block-requires-clause-inside
block-requires-clause-inside g c =
    let is = c.requires.recovered in
    let f = lawful_geometry (g.D.Disk.image c.args.disk.now) is.geometry in
    omega (arith, c.requires.number, f.room, f.size, (ap (λ (sup : Super). sup.ninodes) is.sup))
