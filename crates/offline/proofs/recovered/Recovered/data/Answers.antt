use Rattle.std.proofs.Common.{arith}
use Rattle.model.specs.Lemmas.Log.{length-recovered}
use Rattle.offline.proofs.recovered.Recovered.data.Goals as goal

pub block-requires-clause-inside : goal.block-requires-clause-inside
block-requires-clause-inside g c =
    let x = g.D.Disk.image c.args.disk.now in
    let inside = c.requires.there.1 in
    rw (c.in_ok-address.ensures.ok, c.address.ensures.reads.image) (omega (arith, inside, length-recovered x))
