use Rattle.kernel.proofs.Recovered.{exactly_the_committed, known_stop, recovers_since, recovers_stopped}
use Rattle.kernel.proofs.stepping.Kernel.recovers.Goals as goal

pub returns : goal.returns
returns g c =
    let known = known_stop g.D.Disk g.I.Intake g.H.Herald _ c.known.ensures in
    record {
      since = λ x leaves. recovers_since _ _ g.D.Disk x _ known leaves;
      stopped = λ x z leaves alike. recovers_stopped _ _ g.D.Disk x z _ known leaves alike;
      now = λ x leaves. exactly_the_committed _ _ g.D.Disk x _ known leaves;
    }
