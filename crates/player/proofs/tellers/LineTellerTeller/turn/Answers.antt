use Rattle.std.proofs.Common.{refl}
use Rattle.player.proofs.Tells.{turn_noted}
use Rattle.player.specs.Disks.{faulty}
use Rattle.player.proofs.tellers.LineTellerTeller.turn.Goals as goal

pub returns-clause-heard : goal.returns-clause-heard
returns-clause-heard g c =
    let noted = turn_noted (faulty g.D.Disk) c.args._base c.args.stop c.args.word c.turn.result c.args.player.now c.turn.new.self c.turn.ensures.makes in
    record { notes = noted.0; turn = noted.1; heard = refl }
