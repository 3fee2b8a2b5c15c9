use Rattle.calls.proofs.Keeping.{leaves_still}
use Rattle.calls.proofs.Idle.{quiet, two_idle}
use Rattle.calls.proofs.transactions.resting.rested.Goals as goal

pub returns : goal.returns
returns g c =
    let k = c.args.kernel.now in
    let all = two_idle k.world c.requires.pair.two c.requires.pair.free c.requires.idle in
    leaves_still g.D.Disk g.met.D.Disk.has_now k c.known.ensures c.requires.pair.well (quiet g.D.Disk k c.known.ensures all c.requires.pair.well)
