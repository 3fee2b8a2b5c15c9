use Rattle.std.proofs.Common.{◌∙◌, sym}
use Rattle.calls.proofs.Idle.{disk_labels, numbers, two_idle}
use Rattle.calls.proofs.transactions.resting.labelled.Goals as goal

pub returns : goal.returns
returns g c = λ rests.
    let k = c.args.kernel.now in
    let all = two_idle k.world rests.pair.two rests.pair.free rests.idle in
    let known = c.known.ensures in
    record {
      numbers = sym (numbers g.D.Disk k known all rests.pair.well) ∙ known.numbers;
      labels = disk_labels g.D.Disk k known all rests.pair.well g.met.D.Disk.has_now;
    }
