use Rattle.std.proofs.Common.{◌≡◌, ◌∙◌, sym, subst}
use Rattle.std.proofs.lemmas.Result.{IfOk-weaker}
use Rattle.blocks.specs.Disk.{Image}
use Rattle.model.specs.Log.{recovered}
use Rattle.wal.specs.Recovery.{RecoversAs}
use Rattle.history.specs.Lemmas.Leaving.{leaves_wider}
use Rattle.opening.specs.Recoveries.{IsRecovered}
use Rattle.kernel.specs.Theorem.{IsRecoveredRun}
use Rattle.opening.proofs.behind.recover_behind_a_stop.Goals as goal

as_first : (x y z : Image) → RecoversAs x y → RecoversAs y z → RecoversAs x z
as_first x y z first then =
    record { image = then.image ∙ first.image; lawful = then.lawful ∙ first.lawful }

pub returns : goal.returns
returns g c =
    let m = c.args.stopped.now in
    let o = g.D.Disk.image m.opening in
    let old = c.args.disk.now in
    let new = c.recover_image.new.disk in
    let y = g.E.Disk.image old in
    record {
      run = IfOk-weaker c.recover_image.result _ _
          (λ n is. subst (λ (w : Image). IsRecoveredRun o 0 m w) (sym is.image)
          (c.recovers.ensures.stopped g.x y c.requires.1.1.1.1.1.1.1.1.0 c.requires.1.1.1.1.1.1.1.1.1))
          c.recover_image.ensures.ok;
      ok = c.recover_image.ensures.ok;
      refused = c.recover_image.ensures.refused;
      again = λ calm. leaves_wider g.E.Disk.moment g.E.Disk.leaves old new (RecoversAs y) (RecoversAs g.x)
          (λ z is. as_first g.x y z c.requires.1.1.1.1.1.1.1.1.1 is) (c.recover_image.ensures.stops.any_moment calm);
      then = λ calm. leaves_wider g.E.Disk.moment g.E.Disk.leaves old new (RecoversAs y)
          (λ z. IsRecoveredRun o 0 m (recovered z))
          (λ z is. c.recovers.ensures.stopped g.x z c.requires.1.1.1.1.1.1.1.1.0
          (as_first g.x y z c.requires.1.1.1.1.1.1.1.1.1 is)) (c.recover_image.ensures.stops.any_moment calm);
    }
