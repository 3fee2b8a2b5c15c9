use Rattle.sysring.proofs.Origins.{of_origin_then}
use Rattle.sysring.proofs.Sessions.{of_turns_then}
use Rattle.sysring.proofs.session.Session.step.Goals as goal

pub invariant_of-self : goal.invariant_of-self
invariant_of-self g c =
    let made = c.step.ensures in
    let k = c.self.inside.kernel in
    let m = c.step.new.self in
    record {
      origin = of_origin_then g.D.Disk _ g.H.Herald g.K.Origin.outset c.args.pid c.step.result k m c.self.invariant.origin
          (record { acts = made.acts; progress = made.progress; stop = made.stop }) made.acts.ports.sides.names;
      turns = of_turns_then g.D.Disk g.H.Herald g.K.Origin.outset c.args.pid c.step.result k m c.self.invariant.turns
          (record { acts = made.acts; progress = made.progress; stop = made.stop });
    }
