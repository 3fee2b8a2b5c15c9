use Rattle.kernel.proofs.Recovered.{exactly_the_committed, none_is_lost, recovers_going, recovers_held, recovers_since, recovers_stopped, recovers_whole}
use Rattle.kernel.proofs.laws.recovery_theorem.Goals as goal

pub returns : goal.returns
returns g c = record {
  since = recovers_since g.row.I.Denot g.row.H.Denot g.D.Disk;
  stopped = recovers_stopped g.row.I.Denot g.row.H.Denot g.D.Disk;
  whole = recovers_whole g.row.I.Denot g.row.H.Denot g.D.Disk g.met.D.Disk.has_now;
  going = recovers_going g.row.I.Denot g.row.H.Denot g.D.Disk g.met.D.Disk.has_now;
  held = recovers_held g.row.I.Denot g.row.H.Denot g.D.Disk g.met.D.Disk.has_now;
  lost = none_is_lost g.row.I.Denot g.row.H.Denot g.D.Disk;
  now = exactly_the_committed g.row.I.Denot g.row.H.Denot g.D.Disk;
}
