use Rattle.std.proofs.Common.{refl}
use Rattle.player.proofs.Seats.{still_seated}
use Rattle.player.proofs.player.Player.step.Goals as goal

pub returns-clause-seated : goal.returns-clause-seated
returns-clause-seated g c =
    let old = c.args.self.now in
    still_seated old (record { kernel = c.step.new.self; board = old.board; watch = old.watch; feeders = old.feeders }) c.requires.seated (refl, refl) c.step.ensures.acts.ports.sides.names c.step.ensures.progress.many refl

pub returns-clause-makes : goal.returns-clause-makes
returns-clause-makes g c = record { acts = c.step.ensures.acts; progress = c.step.ensures.progress; stop = c.step.ensures.stop }
