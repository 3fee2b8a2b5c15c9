use Rattle.std.proofs.Common.{◌≢◌, None, refl, sym, subst}
use Rattle.model.specs.Files.{file_in}
use Rattle.model.specs.Lemmas.FileNumbers.{below_there}
use Rattle.calls.specs.Files.{files_on}
use Rattle.transfer.specs.Places.{HasOld, IsPlace}
use Rattle.transfer.proofs.MidstLemmas.{empties}
use Rattle.transfer.proofs.whole.clear.Given.{Over}
use Rattle.transfer.proofs.whole.clear.Goals.{In-Some}
use Rattle.transfer.proofs.whole.clear.Goals as goal

-- the old file is there
there : (g : Over) (c : In-Some g) → file_in (files_on g.D.Disk.image c.args.kernel.now) c.in-Some.number ≢ None
there g c = subst (HasOld (files_on g.D.Disk.image c.args.kernel.now)) c.in-Some.is c.requires.there

pub unreachable-requires : goal.unreachable-requires
unreachable-requires g c =
    let call = c.in_ok-call-in-Some.ensures in
    c.in_default.not-Done (empties g.D.Disk c.args.kernel.now c.call.new.kernel c.in_ok-call-in-Some.field-0 call.inside call.opening c.in-Some.number c.requires.midst (there g (goal.at.unreachable-requires g c).In-Some) call.adds).0

pub returns-in-Done-clause-cleared : goal.returns-in-Done-clause-cleared
returns-in-Done-clause-cleared g c =
    let call = c.in_ok-call-in-Some.ensures in
    let files = files_on g.D.Disk.image c.args.kernel.now in
    let is = there g (goal.at.returns-in-Done-clause-cleared g c).In-Some in (
      subst (λ o. IsPlace files o c.in-Some.number) (sym c.in-Some.is) (refl, is),
      below_there files c.in-Some.number is,
      (empties g.D.Disk c.args.kernel.now c.call.new.kernel c.in_ok-call-in-Some.field-0 call.inside call.opening c.in-Some.number c.requires.midst is call.adds).1,
    )
