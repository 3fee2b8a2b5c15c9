use Rattle.std.proofs.Common.{◌≡◌, None, subst, sym}
use Rattle.model.specs.Verdict.{verdict}
use Rattle.calls.specs.Calls.{image_on}
use Rattle.calls.specs.Transactions.{KeepsFiles}
use Rattle.calls.proofs.Keeping.{leaves_still}
use Rattle.calls.proofs.transactions.resting.abandon.Goals as goal

pub returns-clause-opens : goal.returns-clause-opens
returns-clause-opens g c =
    let k = c.args.kernel in
    subst (λ d. verdict (g.D.Disk.image d) ≡ None) (sym c.into_disk.ensures) (c.known.ensures.stop.reopens (g.D.Disk.image k.store.volume.device) (g.met.D.Disk.has_now k.store.volume.device))

pub returns-clause-keeps : goal.returns-clause-keeps
returns-clause-keeps g c inside =
    let k = c.args.kernel in
    let d = k.store.volume.device in
    let still = leaves_still g.D.Disk g.met.D.Disk.has_now k c.known.ensures inside.pair.well inside.open_one.quiet in
    subst (λ e. KeepsFiles (image_on g.D.Disk.image k) (g.D.Disk.image e)) (sym c.into_disk.ensures) (still.each (g.D.Disk.image d) (g.met.D.Disk.has_now d))
