use Rattle.calls.proofs.Keeping.{leaves_still}
use Rattle.calls.proofs.transactions.resting.still.Goals as goal

pub returns : goal.returns
returns g c =
    let k = c.args.kernel.now in
    leaves_still g.D.Disk g.met.D.Disk.has_now k c.known.ensures c.requires.pair.well c.requires.open_one.quiet
