use Rattle.calls.proofs.Idle.{lone_idle, quiet}
use Rattle.calls.proofs.Keeping.{leaves_still}
use Rattle.calls.proofs.resting.rested.Goals as goal

pub returns : goal.returns
returns g c =
    let k = c.args.kernel.now in
    let all = lone_idle k.world c.requires.one c.requires.idle in
    leaves_still g.D.Disk g.met.D.Disk.has_now k c.known.ensures c.requires.well (quiet g.D.Disk k c.known.ensures all c.requires.well)
