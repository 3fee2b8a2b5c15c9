use Rattle.rings.specs.contracts.intake.RingIntakeIntake.TheImpl.{ghosts}
use Rattle.sysring.proofs.Origins.{of_origin_behind}
use Rattle.sysring.proofs.Sessions.{of_turns_behind, rings_stay}
use Rattle.sysring.proofs.session.Session.flush.Goals as goal

pub invariant_of-self : goal.invariant_of-self
invariant_of-self g c =
    let made = c.flush.ensures in
    let k = c.self.inside.kernel in
    let m = c.flush.new.self in
    record {
      origin = of_origin_behind g.D.Disk ghosts g.H.Herald g.K.Origin.outset k m c.self.invariant.origin made.keeps
          (rings_stay g.D.Disk g.H.Herald made.flushes.turns k m made.flushes.runs) made.board;
      turns = of_turns_behind g.D.Disk g.H.Herald g.K.Origin.outset made.flushes.turns k m c.self.invariant.turns made.flushes.runs;
    }
